-- `audit`: what its input says, and what it prints. Input and text are this program's own (docs/FORMATS.md, `vpoker audit`).
use Rattle.std.specs.Prelude.{ℕ, ◌+◌, ◌<◌, List, refl, [], ◌∷◌, ◌++◌, length, Result, codes}
use Rattle.std.specs.Fmt.{decimal}
use Rattle.vp_text.specs.Lines.{Word}
use Rattle.vp_text.specs.Sections.{Text}
use Rattle.vp_text.specs.Written.{fraction, written}
use Rattle.vp_pay.specs.Bets.{IsBet}
use Rattle.vp_pay.specs.declared.table.PayTable.{PayTable}
use Rattle.vp_count.specs.Table.{first_word}
use Rattle.vp_draws.specs.Draws.{return_denominator}
use Rattle.vp_rule.specs.Inputs.{RefusesList, SpellsList, list_input}
use Rattle.vp_rule.specs.Lists.{RuleList}
use Rattle.vp_rule.specs.Valid.{IsList}
use Rattle.vp_audit.specs.Audits.{audited}
use Rattle.vp_audit.specs.declared.audited.Audited.{Audited}
use Rattle.vp_audit.specs.declared.audited.Tally.{Tally}
use Rattle.vp_pay.specs.Inputs.{AreRead, has_bet}
use Rattle.vp_answer.specs.Jobs.{Due, read_as}
use Rattle.vp_answer.proofs.SomeAnswers.{some_lines}
use Rattle.vp_answer.specs.declared.stop.Stop.{Stop}

-- what an input of `audit` says: a pay table that has the bet, then a list for it, and nothing else; or the line where it is refused
abbrev pub audit_input : ℕ → List ℕ → Result (PayTable × RuleList) ℕ
audit_input coin bytes = list_input (has_bet coin) bytes

-- a bet on a pay table, and a list
pub record Listed : Type 0 where
  pub table : PayTable
  pub coin : ℕ
  pub list : RuleList

-- the list is one for the table
pub record IsListed (l : Listed) : Type 0 where
  pub bet : IsBet l.table l.coin
  pub list : IsList l.table l.list

-- the deals of a tally and their loss, behind this word
abbrev pub tally_words : Word → Tally → List Word
tally_words key tally = key ∷ decimal tally.deals ∷ decimal tally.loss ∷ []

-- the tally of the rule with this number
abbrev pub rule_words : ℕ → Tally → List Word
rule_words number tally = codes "rule" ∷ decimal number ∷ decimal tally.deals ∷ decimal tally.loss ∷ []

-- the tallies of rules, the first of which has this number
abbrev pub rule_lines : ℕ → List Tally → Text
rule_lines number [] = []
rule_lines number (tally ∷ tallies) = rule_words number tally ∷ rule_lines (number + 1) tallies

-- the sums over this denominator, how many deals are ambiguous, and the tally of the exceptions
abbrev pub sum_lines : Audited → ℕ → Text
sum_lines a under =
    (codes "optimum" ∷ fraction a.optimum under) ∷
    (codes "least" ∷ fraction a.least under) ∷
    (codes "greatest" ∷ fraction a.greatest under) ∷
    (codes "loss" ∷ fraction a.loss under) ∷
    (codes "ambiguous" ∷ decimal a.ambiguous ∷ []) ∷
    tally_words (codes "except") a.except ∷ []

-- what a list loses, over this denominator
abbrev pub audited_lines : Audited → ℕ → Text
audited_lines a under = sum_lines a under ++ (rule_lines 1 a.rules.items ++ tally_words (codes "none") a.none ∷ [])

-- what `audit` prints
abbrev pub audit_lines : Listed → Text
audit_lines l = audited_lines (audited l.table l.coin l.list) (return_denominator l.table.deck l.coin)

-- a table of sums, and the lines of the loss
abbrev pub audit_due : Listed → Due
audit_due l = record { words = first_word l.table.deck 6; text = written (audit_lines l) }

-- it has a line
abbrev pub audit_some : (l : Listed) → 0 < length (audit_due l).text
audit_some l = some_lines (audit_lines l) refl

-- what an input leaves to do
abbrev pub audit_job : ℕ → List ℕ → Result Listed Stop
audit_job coin bytes = read_as (λ read. record { table = read.0; coin = coin; list = read.1 }) (audit_input coin bytes)

-- a pay table that has the bet, and a list for it
abbrev pub AuditInputsAreRead : Type 0
AuditInputsAreRead = (coin : ℕ) → AreRead (audit_input coin) (SpellsList (has_bet coin)) (RefusesList (has_bet coin))
