-- A pay table with another payment in one line, and what a hand is paid by that line and by the others. So a progressive machine's pay
-- table is stated: one payment, the meter, grows, and all else stays as it is.
use Rattle.std.specs.Prelude.{ℕ, zero, suc, ◌-◌, Bool, false, if◌then◌else◌, ◌==◌, ◌<◌, List, [], ◌∷◌, length, Option, None, Some, slice_set}
use Rattle.vp_pay.specs.declared.table.PayLine.{PayLine}
use Rattle.vp_pay.specs.declared.table.PayTable.{PayTable}
use Rattle.vp_pay.specs.Bets.{IsBet}
use Rattle.vp_pay.specs.LineNames.{name_at}
use Rattle.vp_wild.specs.Payment.{line, pay}

-- a list whose member at a place is changed
unfoldable pub changed_at : ℕ → (PayLine → PayLine) → List PayLine → List PayLine
changed_at place f [] = []
changed_at zero f (l ∷ ls) = f l ∷ ls
changed_at (suc place) f (l ∷ ls) = l ∷ changed_at place f ls

-- a pay line with x in the column of the bet
abbrev pub paying : ℕ → ℕ → PayLine → PayLine
paying coin x l = record l { pays = slice_set l.pays (coin - 1) x }

-- the table with x in the column of the bet, in the line at a place
unfoldable pub with_payment : PayTable → ℕ → ℕ → ℕ → PayTable
with_payment table coin place x = record table { lines = record table.lines { items = changed_at place (paying coin x) table.lines.items } }

-- whether a hand's line is the one at the place
unfoldable pub is_line : ℕ → Option ℕ → Bool
is_line place None = false
is_line place (Some found) = found == place

-- what the hand is paid by other lines, and whether it is paid by this one
abbrev pub base_pay : PayTable → ℕ → ℕ → List ℕ → ℕ
base_pay table coin place hand = if is_line place (line table hand) then 0 else pay table coin hand

abbrev pub hit : PayTable → ℕ → List ℕ → ℕ
hit table place hand = if is_line place (line table hand) then 1 else 0

-- a bet, and the line whose payment may change
pub record Metering : Type 0 where
  pub table : PayTable
  pub coin : ℕ
  pub place : ℕ

-- the name of that line
abbrev pub line_name : Metering → List ℕ
line_name m = name_at m.table m.place

-- the table has the bet and the line
pub record IsMetering (m : Metering) : Type 0 where
  pub bet : IsBet m.table m.coin
  pub inside : m.place < length m.table.lines.items

-- the table with the payment x in that line
abbrev pub at_payment : Metering → ℕ → PayTable
at_payment m x = with_payment m.table m.coin m.place x
