-- Sums of numbers that belong to sets of five: the sets that contain some cards and none of others, as in any textbook of combinatorics
-- (inclusion and exclusion).
use Rattle.std.specs.Prelude.{◌≡◌, ℕ, ◌+◌, ◌-◌, ◌^◌, ◌<◌, min, Bool, not, ◌&&◌, if◌then◌else◌, List, ◌++◌, map, slice_index, sum_by}
use Rattle.std.specs.List.{list_all}
use Rattle.vp_card.specs.Cards.{held}
use Rattle.vp_sets.specs.Sets.{deck, combos, has}
use Rattle.vp_sets.specs.Subsets.{has_all}
use Rattle.vp_sets.specs.Index.{colex, set_index}
use Rattle.vp_sets.specs.Draws.{discarded, sum_over_draws}

-- the number of a set, from a list by index
unfoldable pub number : List ℕ → List ℕ → ℕ
number w h = slice_index w (set_index h)

-- the numbers that f gives to all sets of five cards of a deck of n, by rising index
unfoldable pub hand_numbers : ℕ → (List ℕ → ℕ) → List ℕ
hand_numbers n f = map f (colex 5 n)

-- the sum of the numbers of all sets of five that contain s
unfoldable pub containing : ℕ → List ℕ → List ℕ → ℕ
containing n w s = sum_by (λ h. if has_all h s then number w h else 0) (combos 5 (deck n))

-- whether h has no member of s
unfoldable pub has_none : List ℕ → List ℕ → Bool
has_none h s = list_all (λ c. not (has h c)) s

-- the sum of the numbers of all sets of five that contain s and no member of d
unfoldable pub excluding : ℕ → List ℕ → List ℕ → List ℕ → ℕ
excluding n w s d = sum_by (λ h. if has_all h s && has_none h d then number w h else 0) (combos 5 (deck n))

-- the sum of the numbers of all sets of five that contain the chosen cards, the held cards of the rest and none of its discards
unfoldable pub part : ℕ → List ℕ → List ℕ → List ℕ → ℕ → ℕ
part n w chosen rest mask = excluding n w (chosen ++ held mask rest) (discarded mask rest)

-- the sum of the numbers of the final hands of all draws
unfoldable pub spread : ℕ → List ℕ → List ℕ → ℕ → ℕ
spread n w hand mask = sum_over_draws (number w) n hand mask

-- for each of the 32 masks the sum of the numbers of all sets of five that contain the held cards
abbrev pub AreHeldSums : ℕ → List ℕ → List ℕ → List ℕ → Type 0
AreHeldSums n w hand sums = (mask : ℕ) → mask < 32 → slice_index sums mask ≡ containing n w (held mask hand)

-- for each of the 32 masks the sum of the numbers of the final hands of all its draws
abbrev pub AreTotals : ℕ → List ℕ → List ℕ → List ℕ → Type 0
AreTotals n w hand totals = (mask : ℕ) → mask < 32 → slice_index totals mask ≡ spread n w hand mask

-- what a counting reader of sums tells: the number of cards of the deck, the number of each set of five by its index, and how many sums were read
pub record Reading : Type 0 where
  pub size : ℕ
  pub numbers : List ℕ
  pub count : ℕ

-- one more; a count ends at 2^64 - 1
unfoldable pub one_more : ℕ → ℕ
one_more count = min (count + 1) (2 ^ 64 - 1)

-- k more; a count ends at 2^64 - 1
unfoldable pub raised_by : ℕ → ℕ → ℕ
raised_by k count = min (count + k) (2 ^ 64 - 1)
