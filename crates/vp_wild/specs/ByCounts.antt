-- When a hand of five cards matches a pattern, told by counts alone.
use Rattle.std.specs.Prelude.{ℕ, ◌+◌, ◌-◌, Bool, not, nat_lt, nat_le, ◌==◌, ◌&&◌, ◌||◌, None, Some}
use Rattle.vp_card.specs.Cards.{has}
use Rattle.vp_rank.specs.Bounded.{some_below}
use Rattle.vp_rank.specs.Counts.{fits_window}
use Rattle.vp_rank.specs.Shapes.{count_of}
use Rattle.vp_rank.specs.declared.shape.Shape.{Shape}
use Rattle.vp_pay.specs.declared.table.PayLine.{PayLine}
use Rattle.vp_pay.specs.declared.pattern.Pattern.{Pattern}
use Rattle.vp_pay.specs.declared.pattern.Pattern.TheVariants.{Royal, StraightFlush, FiveKind, Wilds, Quads, FullHouse, Flush, Straight, Trips, TwoPair, Pair}
use Rattle.vp_wild.specs.Patterns.{qualifies}

-- some window has all ranks, and no rank repeats
unfoldable pub fits_some_window : (ℕ → ℕ) → Bool
fits_some_window count = some_below 10 (λ k. fits_window k count)

-- the hand has w wild cards and count r other cards of rank r, and flush says that its other cards have at most
-- one suit
unfoldable pub matches_by_counts : Pattern → ℕ → (ℕ → ℕ) → Bool → Bool
matches_by_counts Royal w count flush = flush && fits_window 9 count
matches_by_counts StraightFlush w count flush = flush && fits_some_window count
matches_by_counts (FiveKind set) w count flush = some_below 13 (λ r. has set r && (count r + w == 5))
matches_by_counts (Wilds number None) w count flush = w == number
matches_by_counts (Wilds number (Some kicker)) w count flush =
    (w == number) && some_below 13 (λ r. has kicker r && nat_lt 0 (count r))
matches_by_counts (Quads set None) w count flush =
    some_below 13 (λ r. has set r && nat_le 4 (count r + w))
matches_by_counts (Quads set (Some kicker)) w count flush =
    some_below 13 (λ r. has set r && nat_le (count r) 4
    && some_below 13 (λ s. has kicker s && not (r == s) && nat_le (count s) 1
    && (count r + count s + w == 5)))
matches_by_counts FullHouse w count flush =
    some_below 13 (λ r. nat_le (count r) 3
    && some_below 13 (λ s. not (r == s) && nat_le (count s) 2 && (count r + count s + w == 5)))
matches_by_counts Flush w count flush = flush
matches_by_counts Straight w count flush = fits_some_window count
matches_by_counts Trips w count flush = some_below 13 (λ r. nat_le 3 (count r + w))
matches_by_counts TwoPair w count flush =
    some_below 13 (λ r. some_below 13 (λ s. not (r == s) && nat_le ((2 - count r) + (2 - count s)) w))
matches_by_counts (Pair set) w count flush = some_below 13 (λ r. has set r && nat_le 2 (count r + w))

-- a mask of suits has at most one
abbrev pub at_most_one_suit : ℕ → Bool
at_most_one_suit mask = (mask == 0) || (mask == 1) || (mask == 2) || (mask == 4) || (mask == 8)

-- a hand with this shape matches the pattern
abbrev pub shape_matches : Pattern → Shape → Bool
shape_matches pattern shape =
    matches_by_counts pattern shape.wilds (count_of shape) (at_most_one_suit shape.suits)

-- a hand with this shape hits the pay line
abbrev pub shape_hits : PayLine → Shape → Bool
shape_hits line shape = qualifies line.qualifier shape.wilds && shape_matches line.pattern shape
