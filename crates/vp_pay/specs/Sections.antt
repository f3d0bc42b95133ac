-- How the sections of pay tables and of deals are read.
use Rattle.std.specs.Prelude.{ℕ, Bool, nat_le, List, length, Option, Some, None, Result, Ok, Err, ◌⊎◌, codes}
use Rattle.vp_text.specs.Lines.{Word, Feed}
use Rattle.vp_text.specs.ExactReaders.{Reader}
use Rattle.vp_text.specs.Reading.{one_line, both, mapped, closed, closed_by}
use Rattle.vp_text.specs.Sequences.{keyed}
use Rattle.vp_pay.specs.Reading.{name_of, deck_of, wild_of, one_to_five, next_line_of, deal_of, hand_of}
use Rattle.vp_pay.specs.declared.table.PayLine.{PayLine}
use Rattle.vp_pay.specs.declared.table.PayTable.{PayTable}

-- the lines of a table one by one
abbrev pub name_line : Reader Word
name_line = one_line (keyed (codes "table") name_of)

abbrev pub deck_line : Reader ℕ
deck_line = one_line (keyed (codes "deck") deck_of)

abbrev pub wild_line : Reader (Option ℕ)
wild_line = one_line (keyed (codes "wild") wild_of)

abbrev pub coins_line : Reader ℕ
coins_line = one_line (keyed (codes "coins") one_to_five)

-- at least one pay line, up to `end`
abbrev pub some_lines : List PayLine → Bool
some_lines lines = nat_le 1 (length lines)

-- a line behind these pay lines is one more, or the word that closes them
abbrev pub row_of : ℕ → List PayLine → List Word → Option (PayLine ⊎ Unit {0})
row_of coins = closed_by (codes "end") some_lines (next_line_of coins)

abbrev pub pay_lines : ℕ → Reader (List PayLine)
pay_lines coins = closed (codes "end") some_lines (next_line_of coins)

-- name, deck, wild rank, coins and pay lines
abbrev pub Parts : Type 0
Parts = Word × (ℕ × (Option ℕ × (ℕ × List PayLine)))

abbrev pub table_of : Parts → PayTable
table_of p = record { name = p.0; deck = p.1.0; wild = p.1.1.0; coins = p.1.1.1.0; lines = record { items = p.1.1.1.1 } }

abbrev pub parts_at : Reader Parts
parts_at = both name_line (λ name. both deck_line (λ deck. both wild_line (λ wild. both coins_line pay_lines)))

-- a pay table
unfoldable pub table_at : Reader PayTable
table_at = mapped table_of parts_at

-- the cards of a deal line, in the order of dealing
unfoldable pub deal_at : ℕ → Reader (List ℕ)
deal_at deck = one_line (deal_of deck)

-- the hand of a deal line
unfoldable pub hand_at : ℕ → Reader (List ℕ)
hand_at deck = one_line (hand_of deck)

-- the value that was read, where it was
abbrev pub value_of : {A : Type 0} → Result (A × Feed) ℕ → Option A
value_of (Ok (value, left)) = Some value
value_of (Err refused) = None
