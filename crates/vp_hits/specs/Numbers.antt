-- A number for each pay line of a table, and one for the hands with no line. Which numbers these are is this program's own choice
-- (docs/FORMATS.md, `vpoker hits`).
use Rattle.std.specs.Prelude.{◌≡◌, ℕ, ◌+◌, ◌*◌, ◌<◌, ◌≤◌, List, [], Option, Some, None, nat_lt, if◌then◌else◌, length, slice_index, slice_index_or}
use Rattle.vp_pay.specs.declared.table.PayTable.{PayTable}
use Rattle.vp_pay.specs.Bets.{IsBet}
use Rattle.vp_pay.specs.Table.{IsTable}
use Rattle.vp_suit.specs.Classes.{representatives}
use Rattle.vp_draws.specs.Draws.{least_best, sum_of_best}
use Rattle.vp_count.specs.Table.{AreSumsOf, Table}
use Rattle.vp_hits.specs.Hits.{hit, mark}

-- two lines at once: a hit of the second counts more than the common denominator of any deck
abbrev pub two_marks : Option ℕ → Option ℕ → Option ℕ → ℕ
two_marks first second found = mark first found + 16777216 * mark second found

abbrev pub two_hits : PayTable → Option ℕ → Option ℕ → List ℕ → ℕ
two_hits table first second hand = hit table first hand + 16777216 * hit table second hand

-- a pay table and two of its lines
pub record AskedTwo : Type 0 where
  pub table : PayTable
  pub first : Option ℕ
  pub second : Option ℕ

-- the table keeps the rules, and the sums are those of the hits of both lines among all hands of the deck
pub record AreTwoHits (asked : AskedTwo) (sums : Table) : Type 0 where
  pub rules : IsTable asked.table
  pub counted : AreSumsOf asked.table.deck (two_hits asked.table asked.first asked.second) sums

-- the masks of the printed holds of the classes, by rising index, are the first of these words
pub record AreMasks (table : PayTable) (coin : ℕ) (words : List ℕ) : Type 0 where
  pub room : length (representatives table.deck) ≤ length words
  pub masks : (i : ℕ) → i < length (representatives table.deck)
      → slice_index words i ≡ least_best table coin (slice_index_or (representatives table.deck) i [])

-- a bet, and the words that the masks are kept in
pub record Printed : Type 0 where
  pub table : PayTable
  pub coin : ℕ
  pub words : List ℕ

-- the table has the bet, and with the masks stands the sum of the best values
pub record IsPrinted (p : Printed) (worth : ℕ) : Type 0 where
  pub bet : IsBet p.table p.coin
  pub masks : AreMasks p.table p.coin p.words
  pub sum : worth ≡ sum_of_best p.table p.coin

-- the line asked for at a place: each line of the table, and behind them none
unfoldable pub asked_at : PayTable → ℕ → Option ℕ
asked_at table i = if nat_lt i (length table.lines.items) then Some i else None
