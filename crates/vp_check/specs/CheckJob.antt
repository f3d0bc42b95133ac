-- `check`: what its input says, what it leaves to do, and what it prints. Input and text are this program's own (docs/FORMATS.md,
-- `vpoker check`).
use Rattle.std.specs.Prelude.{◌≡◌, ◌↔◌, ◌⊎◌, ◌<◌, ℕ, List, [], ◌∷◌, length, Result, Ok, Err, codes, refl}
use Rattle.std.specs.Fmt.{decimal}
use Rattle.vp_text.specs.Lines.{feed_of}
use Rattle.vp_text.specs.Sections.{Text}
use Rattle.vp_text.specs.Written.{written}
use Rattle.vp_check.specs.Certificates.{Certificate}
use Rattle.vp_check.specs.Checking.{check_result, verdict}
use Rattle.vp_check.specs.Rules.{first_break}
use Rattle.vp_check.specs.Spelling.{RefusesCertificate, SpellsCertificate, return_words}
use Rattle.vp_check.specs.declared.finding.CertRule.{CertRule}
use Rattle.vp_check.specs.declared.finding.CertRule.TheVariants as cert
use Rattle.vp_check.specs.declared.finding.Checked.{Checked}
use Rattle.vp_check.specs.declared.finding.Finding.{Finding}
use Rattle.vp_check.specs.declared.finding.Finding.TheVariants.{Refused, Bad}
use Rattle.vp_answer.specs.Jobs.{Due}
use Rattle.vp_answer.proofs.SomeAnswers.{some_lines}
use Rattle.vp_answer.specs.declared.rule.Rule.{Rule}
use Rattle.vp_answer.specs.declared.rule.Rule.TheVariants.{Order, Weight, Value, Mask, Cover, Sum, Denominator}
use Rattle.vp_answer.specs.declared.stop.Stop.{Stop}
use Rattle.vp_answer.specs.declared.stop.Stop.TheVariants.{Finding as Found, Refused as Refusal}

-- the rule of a certificate, among all rules
abbrev pub rule_of : CertRule → Rule
rule_of cert.Order = Order
rule_of cert.Weight = Weight
rule_of cert.Value = Value
rule_of cert.Mask = Mask
rule_of cert.Cover = Cover
rule_of cert.Sum = Sum
rule_of cert.Denominator = Denominator

-- no rule is broken: the number of class lines, how many of them were walked, and the return as the certificate says it
unfoldable pub checked_lines : Checked → Text
checked_lines c = (codes "checked" ∷ decimal c.classes ∷ decimal c.walked ∷ []) ∷ return_words c.sum c.denominator ∷ []

-- no words of memory, and the two lines
abbrev pub checked_due : Checked → Due
checked_due c = record { words = 0; text = written (checked_lines c) }

-- it has a line
abbrev pub checked_some : (c : Checked) → 0 < length (checked_due c).text
unfolding checked_lines
checked_some c = some_lines (checked_lines c) refl

-- a refused line, or the broken rule with the number of its line
abbrev pub check_read : Result Checked Finding → Result Checked Stop
check_read (Err (Refused line)) = Err (Refusal line)
check_read (Err (Bad line rule said due)) = Err (Found line (rule_of rule) said due)
check_read (Ok checked) = Ok checked

-- what an input leaves to do, of which `count` class lines from the place `from` on are walked: to say that no rule is broken
abbrev pub check_job : ℕ → ℕ → List ℕ → Result Checked Stop
check_job from count bytes = check_read (check_result bytes from count)

-- a certificate is answered by its first broken rule, where there is one
abbrev pub CertificatesAreJudged : Type 0
CertificatesAreJudged = (from count : ℕ) (bytes : List ℕ) (c : Certificate) → SpellsCertificate bytes c
    → check_result bytes from count ≡ verdict from count c (feed_of bytes) (first_break from count c)

-- an input is refused exactly at its refused line
abbrev pub CheckInputsAreRefused : Type 0
CheckInputsAreRefused = (from count line : ℕ) (bytes : List ℕ) → check_result bytes from count ≡ Err (Refused line) ↔ RefusesCertificate bytes line

-- each input is a certificate, or is refused
abbrev pub CheckInputsAreEither : Type 0
CheckInputsAreEither = (bytes : List ℕ) → ((c : Certificate) × SpellsCertificate bytes c) ⊎ ((line : ℕ) × RefusesCertificate bytes line)
