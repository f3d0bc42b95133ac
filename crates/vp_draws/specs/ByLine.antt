-- On which pay line the draws of a hold end. A draw ends on the first line that its final hand hits, as pay tables are read from the top.
use Rattle.std.specs.Prelude.{ℕ, ◌-◌, if◌then◌else◌, ◌==◌, List, ◌++◌, [], length, drop, sum_by, slice_index, slice_index_or}
use Rattle.vp_pay.specs.declared.table.PayTable.{PayTable}
use Rattle.vp_wild.specs.Kept.{slot}
use Rattle.vp_sets.specs.Sets.{combos, deck}
use Rattle.vp_sets.specs.Draws.{at_mask, sum_over_draws}

-- 1 for a hand whose line stands at this place of the table, and 0 for each other; a hand without a line has the place 32
unfoldable pub ends_at : PayTable → ℕ → List ℕ → ℕ
ends_at table place hand = if slot table hand == place then 1 else 0

-- how many draws of a hold end with a hand whose line stands at this place
unfoldable pub line_draws : PayTable → ℕ → List ℕ → ℕ → ℕ
line_draws table place hand mask = sum_over_draws (ends_at table place) table.deck hand mask

-- the number at a place of the row of a mask
abbrev pub count_at : List (List ℕ) → ℕ → ℕ → ℕ
count_at counts mask place = slice_index (slice_index_or counts mask []) place

-- the sum of f over the hands that begin with the chosen cards, go on with cards from `low` on of a deck of n, and have, of the dealt
-- cards, just those that the mask holds
unfoldable pub summed : (List ℕ → ℕ) → ℕ → List ℕ → ℕ → List ℕ → ℕ → ℕ
summed f n chosen low deal mask =
    sum_by (λ more. at_mask f deal mask (chosen ++ more)) (combos (5 - length chosen) (drop low (deck n)))
