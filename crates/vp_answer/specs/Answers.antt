-- What the program answers: a status and a text, both this program's own (docs/FORMATS.md).
use Rattle.std.specs.Prelude.{ℕ, List, [], ◌∷◌, Result, Ok, Err, codes}
use Rattle.std.specs.Fmt.{decimal}
use Rattle.vp_text.specs.Lines.{Word}
use Rattle.vp_text.specs.Written.{line_of}
use Rattle.vp_answer.specs.declared.rule.Rule.{Rule}
use Rattle.vp_answer.specs.declared.rule.Rule.TheVariants.{Order, Weight, Value, Mask, Cover, Sum, Denominator, Bet, Funds, Deal, Hold, Count, Draw, Pay, Credits}
use Rattle.vp_answer.specs.declared.ending.Ending.{Ending}
use Rattle.vp_answer.specs.declared.ending.Ending.TheVariants as ending
use Rattle.vp_answer.specs.declared.status.Status.{Status}
use Rattle.vp_answer.specs.declared.status.Status.TheVariants.{Done, Finding, Refused}
use Rattle.vp_answer.specs.declared.stop.Stop.{Stop}
use Rattle.vp_answer.specs.declared.stop.Stop.TheVariants.{Finding as Found, Record as RecordRefusal, Refused as Refusal}

-- a status and a text
pub record Answer : Type 0 where
  pub status : Status
  pub text : List ℕ

-- the status of an ending
abbrev pub status_of : Ending → Status
status_of ending.Done = Done
status_of ending.Finding = Finding
status_of ending.Refused = Refused

-- how a job ends, and its text
pub record Said : Type 0 where
  pub ending : Ending
  pub text : List ℕ

-- the answer that is said so
abbrev pub answer_of : Said → Answer
answer_of said = record { status = status_of said.ending; text = said.text }

-- the answer that is a text
abbrev pub done : List ℕ → Answer
done text = record { status = Done; text = text }

-- the answer to an input that is refused at a line
abbrev pub refusal : ℕ → Answer
refusal line = record { status = Refused; text = line_of (codes "refused" ∷ decimal line ∷ []) }

-- the answer to an input that is refused at a record of its CSV text
abbrev pub record_refusal : ℕ → Answer
record_refusal place = record { status = Refused; text = line_of (codes "refused" ∷ codes "record" ∷ decimal place ∷ []) }

-- the word of a rule
abbrev pub rule_word : Rule → Word
rule_word Order = codes "order"
rule_word Weight = codes "weight"
rule_word Value = codes "value"
rule_word Mask = codes "mask"
rule_word Cover = codes "cover"
rule_word Sum = codes "sum"
rule_word Denominator = codes "denominator"
rule_word Bet = codes "bet"
rule_word Funds = codes "funds"
rule_word Deal = codes "deal"
rule_word Hold = codes "hold"
rule_word Count = codes "count"
rule_word Draw = codes "draw"
rule_word Pay = codes "pay"
rule_word Credits = codes "credits"

-- a broken rule: where it is broken, the rule, the number that stands there, and the number due
unfoldable pub finding_words : ℕ → Rule → ℕ → ℕ → List Word
finding_words at rule said due = codes "finding" ∷ decimal at ∷ rule_word rule ∷ decimal said ∷ decimal due ∷ []

-- the answer to an input that breaks a rule
abbrev pub finding : ℕ → Rule → ℕ → ℕ → Answer
finding at rule said due = record { status = Finding; text = line_of (finding_words at rule said due) }

-- the answer where an input is stopped at
abbrev pub stop_answer : Stop → Answer
stop_answer (Refusal line) = refusal line
stop_answer (RecordRefusal place) = record_refusal place
stop_answer (Found at rule said due) = finding at rule said due

-- the answer to what was read: that of the work that is left, or the line where the input is stopped at
abbrev pub answer_read : {W : Type 0} → (W → Answer) → Result W Stop → Answer
answer_read answer (Ok work) = answer work
answer_read answer (Err stop) = stop_answer stop

-- how many words of 64 bits that takes; an input that is stopped at takes none
abbrev pub words_read : {W : Type 0} → (W → ℕ) → Result W Stop → ℕ
words_read room (Ok work) = room work
words_read room (Err stop) = 0
