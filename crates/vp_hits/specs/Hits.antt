-- How often the printed holds draw to each pay line. A chance is a share of equally likely draws, as in any textbook of probability; which
-- hold is played is this program's own rule (docs/FORMATS.md, `vpoker hits`).
use Rattle.std.specs.Prelude.{ℕ, ◌-◌, ◌*◌, Bool, true, false, if◌then◌else◌, ◌==◌, List, Option, Some, None, length, map, slice_index, sum_by}
use Rattle.vp_pay.specs.declared.table.PayTable.{PayTable}
use Rattle.vp_pay.specs.Table.{IsTable}
use Rattle.vp_sets.specs.Sets.{combos, deck}
use Rattle.vp_sets.specs.Draws.{discarded, scale, sum_over_draws}
use Rattle.vp_suit.specs.Classes.{representative}
use Rattle.vp_wild.specs.Payment.{line}
use Rattle.vp_draws.specs.Draws.{least_best}
use Rattle.vp_count.specs.Table.{AreSumsOf, Table}

-- the first line found is the one asked for; None asks for hands that hit no line
unfoldable pub is_asked : Option ℕ → Option ℕ → Bool
is_asked None None = true
is_asked None (Some found) = false
is_asked (Some place) None = false
is_asked (Some place) (Some found) = place == found

-- 1 where it is, and else 0
abbrev pub mark : Option ℕ → Option ℕ → ℕ
mark place found = if is_asked place found then 1 else 0

-- 1 for a hand whose first line is this one, and 0 for each other
unfoldable pub hit : PayTable → Option ℕ → List ℕ → ℕ
hit table place hand = mark place (line table hand)

-- how many draws of a hold end with a hand whose first line is this one
unfoldable pub hits : PayTable → Option ℕ → List ℕ → ℕ → ℕ
hits table place cards mask = sum_over_draws (hit table place) table.deck cards mask

-- the chance of that, times the common denominator of the deck
unfoldable pub chance : PayTable → Option ℕ → List ℕ → ℕ → ℕ
chance table place cards mask = hits table place cards mask * scale table.deck (length (discarded mask cards))

-- the chance under the printed holds of a deal: under the representative's least best hold
unfoldable pub printed_chance : PayTable → ℕ → Option ℕ → List ℕ → ℕ
printed_chance table coin place cards = chance table place (representative cards) (least_best table coin (representative cards))

-- how often the line comes under the printed holds: the sum of the chances over all deals
unfoldable pub often : PayTable → ℕ → Option ℕ → ℕ
often table coin place = sum_by (printed_chance table coin place) (combos 5 (deck table.deck))

-- what the lines of a table pay for a bet, by their places
unfoldable pub payments : PayTable → ℕ → List ℕ
payments table coin = map (λ line. slice_index line.pays (coin - 1)) table.lines.items

-- a pay table and the place of a line of it, or none
pub record Asked : Type 0 where
  pub table : PayTable
  pub line : Option ℕ

-- the table keeps the rules, and the sums are those of the hits of the line among all hands of the deck
pub record AreHits (asked : Asked) (sums : Table) : Type 0 where
  pub rules : IsTable asked.table
  pub counted : AreSumsOf asked.table.deck (hit asked.table asked.line) sums
