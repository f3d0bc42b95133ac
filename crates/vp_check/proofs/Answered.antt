-- What an answer of the check tells of the text.
use Rattle.std.proofs.Common.{◌≡◌, ◌↔◌, ℕ, Option, Some, None, Result, Ok, Err, List, refl, ap, sym, subst, ◌∙◌}
use Rattle.std.specs.Option.{IsSomeAnd}
use Rattle.vp_text.specs.Lines.{feed_of}
use Rattle.vp_check.specs.Answers.{IsChecked, IsBad}
use Rattle.vp_check.specs.Certificates.{Certificate}
use Rattle.vp_check.specs.Checking.{certificate_of, checked, bad_at, verdict, answer_of, check_result}
use Rattle.vp_check.specs.Rules.{Break, first_break}
use Rattle.vp_check.specs.Spelling.{RefusesCertificate, SpellsCertificate}
use Rattle.vp_check.specs.declared.finding.CertRule.{CertRule}
use Rattle.vp_check.specs.declared.finding.Checked.{Checked}
use Rattle.vp_check.specs.declared.finding.Finding.{Finding}
use Rattle.vp_check.specs.declared.finding.Finding.TheVariants.{Bad, Refused}
use Rattle.vp_check.proofs.Certificates_grammar.{certificate_found, certificate_again, certificate_stops, certificate_refused}

-- the answer to a text is that to what it says
pub answer_is : (bytes : List ℕ) (from count : ℕ) (o : Result Certificate ℕ) → certificate_of bytes ≡ o → check_result bytes from count ≡ answer_of from count (feed_of bytes) o
unfolding check_result
answer_is bytes from count o e = ap (λ (x : Result Certificate ℕ). answer_of from count (feed_of bytes) x) e

-- a text that says a certificate is answered by its first broken rule, where there is one
pub verdict_is : (bytes : List ℕ) (from count : ℕ) (c : Certificate) (b : Option Break) → certificate_of bytes ≡ Ok c → first_break from count c ≡ b → check_result bytes from count ≡ verdict from count c (feed_of bytes) b
verdict_is bytes from count c b says e = answer_is bytes from count (Ok c) says ∙ ap (λ (x : Option Break). verdict from count c (feed_of bytes) x) e

-- ---- checked

checked_verdict : (bytes : List ℕ) (from count : ℕ) (c : Certificate) (b : Option Break) (r : Checked) → SpellsCertificate bytes c → first_break from count c ≡ b → verdict from count c (feed_of bytes) b ≡ Ok r → IsChecked bytes from count r
checked_verdict bytes from count c None r s e h = record { certificate = c; spelled = s; unbroken = e; numbers = let same : checked from count c ≡ r = cc in sym same }
checked_verdict bytes from count c (Some b) r s e h = absurd (cc)

checked_answer : (bytes : List ℕ) (from count : ℕ) (o : Result Certificate ℕ) (r : Checked) → certificate_of bytes ≡ o → answer_of from count (feed_of bytes) o ≡ Ok r → IsChecked bytes from count r
checked_answer bytes from count (Err line) r e h = absurd (cc)
checked_answer bytes from count (Ok c) r e h = checked_verdict bytes from count c (first_break from count c) r (certificate_found bytes c e) refl h

pub checked_tells : (bytes : List ℕ) (from count : ℕ) (r : Checked) → check_result bytes from count ≡ Ok r ↔ IsChecked bytes from count r
checked_tells bytes from count r = (
  λ h. checked_answer bytes from count (certificate_of bytes) r refl (sym (answer_is bytes from count (certificate_of bytes) refl) ∙ h),
  λ is. verdict_is bytes from count is.certificate None (certificate_again bytes is.certificate is.spelled) is.unbroken ∙ ap (λ (x : Checked). Ok x) (sym is.numbers),
)

-- ---- refused

refused_verdict : (from count : ℕ) (bytes : List ℕ) (c : Certificate) (b : Option Break) (line : ℕ) (P : Type 0) → verdict from count c (feed_of bytes) b ≡ Err (Refused line) → P
refused_verdict from count bytes c None line P h = absurd (cc)
refused_verdict from count bytes c (Some b) line P h = absurd (cc)

refused_answer : (bytes : List ℕ) (from count : ℕ) (o : Result Certificate ℕ) (line : ℕ) → certificate_of bytes ≡ o → answer_of from count (feed_of bytes) o ≡ Err (Refused line) → certificate_of bytes ≡ Err line
refused_answer bytes from count (Err other) line e h = let same : other ≡ line = cc in e ∙ ap (λ x. Err x) same
refused_answer bytes from count (Ok c) line e h = refused_verdict from count bytes c (first_break from count c) line (certificate_of bytes ≡ Err line) h

pub refused_tells : (bytes : List ℕ) (from count line : ℕ) → check_result bytes from count ≡ Err (Refused line) ↔ RefusesCertificate bytes line
refused_tells bytes from count line = (
  λ h. certificate_stops bytes line (refused_answer bytes from count (certificate_of bytes) line refl (sym (answer_is bytes from count (certificate_of bytes) refl) ∙ h)),
  λ at. answer_is bytes from count (Err line) (certificate_refused bytes line at),
)

-- ---- a broken rule

bad_verdict : (bytes : List ℕ) (from count : ℕ) (c : Certificate) (b : Option Break) (line : ℕ) (rule : CertRule) (said due : ℕ) → SpellsCertificate bytes c → first_break from count c ≡ b
    → verdict from count c (feed_of bytes) b ≡ Err (Bad line rule said due) → IsBad bytes from count (Bad line rule said due)
bad_verdict bytes from count c None line rule said due s e h = absurd (cc)
bad_verdict bytes from count c (Some b) line rule said due s e h =
    let same : bad_at c (feed_of bytes) b ≡ Bad line rule said due = cc in
    record {
      certificate = c;
      spelled = s;
      breaks = subst (λ (o : Option Break). IsSomeAnd o (λ x. Bad line rule said due ≡ bad_at c (feed_of bytes) x)) (sym e) (sym same);
    }

bad_answer : (bytes : List ℕ) (from count : ℕ) (o : Result Certificate ℕ) (line : ℕ) (rule : CertRule) (said due : ℕ) → certificate_of bytes ≡ o
    → answer_of from count (feed_of bytes) o ≡ Err (Bad line rule said due) → IsBad bytes from count (Bad line rule said due)
bad_answer bytes from count (Err other) line rule said due e h = absurd (cc)
bad_answer bytes from count (Ok c) line rule said due e h = bad_verdict bytes from count c (first_break from count c) line rule said due (certificate_found bytes c e) refl h

answer_bad : (bytes : List ℕ) (from count : ℕ) (c : Certificate) (o : Option Break) (finding : Finding) → SpellsCertificate bytes c → first_break from count c ≡ o → IsSomeAnd o (λ b. finding ≡ bad_at c (feed_of bytes) b) → check_result bytes from count ≡ Err finding
answer_bad bytes from count c None finding s e h = absurd h
answer_bad bytes from count c (Some b) finding s e h = verdict_is bytes from count c (Some b) (certificate_again bytes c s) e ∙ ap (λ (f : Finding). Err f) (sym h)

pub bad_tells : (bytes : List ℕ) (from count line : ℕ) (rule : CertRule) (said due : ℕ) → check_result bytes from count ≡ Err (Bad line rule said due) ↔ IsBad bytes from count (Bad line rule said due)
bad_tells bytes from count line rule said due = (
  λ h. bad_answer bytes from count (certificate_of bytes) line rule said due refl (sym (answer_is bytes from count (certificate_of bytes) refl) ∙ h),
  λ is. answer_bad bytes from count is.certificate (first_break from count is.certificate) (Bad line rule said due) is.spelled refl is.breaks,
)
