-- `meter`: what its input says, and what it prints. Input and text are this program's own (docs/FORMATS.md, `vpoker meter`).
use Rattle.std.specs.Prelude.{ℕ, ◌+◌, ◌-◌, ◌*◌, ◌<◌, ◌≤◌, Bool, ◌&&◌, List, length, refl, Result, is_some}
use Rattle.std.specs.Option.{unwrap_or}
use Rattle.vp_text.specs.Written.{written}
use Rattle.vp_pay.specs.Inputs.{AreRead, RefusesTable, SpellsTable, has_bet, table_input}
use Rattle.vp_pay.specs.LineNames.{place_of}
use Rattle.vp_pay.specs.declared.table.PayTable.{PayTable}
use Rattle.vp_count.specs.Table.{first_word}
use Rattle.vp_answer.specs.Jobs.{Due, read_as}
use Rattle.vp_answer.proofs.SomeAnswers.{some_lines}
use Rattle.vp_answer.specs.declared.stop.Stop.{Stop}
use Rattle.vp_meter.specs.Metered.{IsMetering, Metering}
use Rattle.vp_meter.specs.Spelling.{meter_text}

-- the table has a column for the bet, and a line with this name
abbrev pub has_line : ℕ → List ℕ → PayTable → Bool
has_line coin name table = has_bet coin table && is_some (place_of table name)

-- what an input of `meter` says: a pay table that has the bet and the line, and nothing else; or the line where it is refused
abbrev pub meter_input : ℕ → List ℕ → List ℕ → Result (PayTable × Unit {0}) ℕ
meter_input coin name bytes = table_input (has_line coin name) bytes

-- the bet on the line with this name
abbrev pub metering_of : ℕ → List ℕ → PayTable → Metering
metering_of coin name table = record { table = table; coin = coin; place = unwrap_or (place_of table name) 0 }

-- a metered bet, and its least and its greatest payment
pub record Ranged : Type 0 where
  pub metering : Metering
  pub lo : ℕ
  pub hi : ℕ

-- the table has the bet and the line, and the payments rise from the least to the greatest, which is at most 500000
pub record IsRanged (r : Ranged) : Type 0 where
  pub metering : IsMetering r.metering
  pub order : r.lo ≤ r.hi
  pub most : r.hi ≤ 500000

-- two tables of sums and four words for each payment; the first line, the classes with their segments, the pieces, and `end`
abbrev pub meter_due : Ranged → Due
meter_due r = record {
  words = 2 * first_word r.metering.table.deck 6 + 4 * (r.hi - r.lo + 1);
  text = written (meter_text r.metering r.lo r.hi);
}

-- it has a line
abbrev pub meter_some : (r : Ranged) → 0 < length (meter_due r).text
unfolding meter_text
meter_some r = some_lines (meter_text r.metering r.lo r.hi) refl

-- what an input leaves to do
abbrev pub meter_job : ℕ → List ℕ → ℕ → ℕ → List ℕ → Result Ranged Stop
meter_job coin name lo hi bytes = read_as (λ read. record { metering = metering_of coin name read.0; lo = lo; hi = hi }) (meter_input coin name bytes)

-- a pay table that has the bet and the line
abbrev pub MeterInputsAreRead : Type 0
MeterInputsAreRead = (coin : ℕ) (name : List ℕ) → AreRead (meter_input coin name) (SpellsTable (has_line coin name)) (RefusesTable (has_line coin name))
