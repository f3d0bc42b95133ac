-- What a check of a certificate answers to the bytes of its text.
use Rattle.std.specs.Prelude.{◌≡◌, ℕ, ◌+◌, List, ◌∷◌, ◌++◌, length, map, slice_index, Option, Some, None, Result, Ok, Err}
use Rattle.std.specs.List.{count_by}
use Rattle.vp_text.specs.Lines.{Word, WordLine, Feed, feed_of}
use Rattle.vp_text.specs.Reading.{whole}
use Rattle.vp_pay.specs.Spelling.{table_text}
use Rattle.vp_check.specs.Certificates.{Certificate}
use Rattle.vp_check.specs.Reading.{certificate_at}
use Rattle.vp_check.specs.Rules.{Break, first_break, in_range, rows}
use Rattle.vp_check.specs.declared.finding.Checked.{Checked}
use Rattle.vp_check.specs.declared.finding.Finding.{Finding}
use Rattle.vp_check.specs.declared.finding.Finding.TheVariants.{Refused, Bad}

-- the certificate that a text says, or the line where it is refused
unfoldable pub certificate_of : List ℕ → Result Certificate ℕ
certificate_of bytes = whole certificate_at (feed_of bytes)

-- the number, in the text, of the line at a place behind the pay table: the bet stands at 0, the class lines from 1 on, and the return behind them
unfoldable pub line_number : Certificate → Feed → ℕ → ℕ
line_number c feed place = slice_index (map (λ line. line.line) feed.lines) (length (table_text c.table) + place)

-- the line of the text with this number has these words
pub record Stands (feed : Feed) (number : ℕ) (words : List Word) : Type 0 where
  pub front : List WordLine
  pub back : List WordLine
  pub split : feed.lines ≡ front ++ record { line = number; words = words } ∷ back

-- how many class lines are walked, of `count` places from `from` on
abbrev pub walked_lines : ℕ → ℕ → Certificate → ℕ
walked_lines from count c = count_by (λ row. in_range from count row.place) (rows c.classes)

-- what a certificate without a broken rule says of itself
abbrev pub checked : ℕ → ℕ → Certificate → Checked
checked from count c = record { classes = length c.classes; walked = walked_lines from count c; sum = c.sum; denominator = c.denominator }

-- a broken rule, with the number of its line in the text
abbrev pub bad_at : Certificate → Feed → Break → Finding
bad_at c feed b = Bad (line_number c feed b.place) b.breach.rule b.breach.said b.breach.due

-- the answer to a certificate whose first broken rule is this one
abbrev pub verdict : ℕ → ℕ → Certificate → Feed → Option Break → Result Checked Finding
verdict from count c feed None = Ok (checked from count c)
verdict from count c feed (Some b) = Err (bad_at c feed b)

-- the answer to what a text says
abbrev pub answer_of : ℕ → ℕ → Feed → Result Certificate ℕ → Result Checked Finding
answer_of from count feed (Err line) = Err (Refused line)
answer_of from count feed (Ok c) = verdict from count c feed (first_break from count c)

-- the answer to a text, where `count` class lines from the place `from` on are walked: a refused line comes before every broken rule
unfoldable pub check_result : List ℕ → ℕ → ℕ → Result Checked Finding
check_result bytes from count = answer_of from count (feed_of bytes) (certificate_of bytes)
