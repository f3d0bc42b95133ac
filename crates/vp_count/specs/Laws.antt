-- What the sums over sets of five obey: double counting, and inclusion and exclusion one card at a time, as in any textbook of combinatorics.
use Rattle.std.specs.Prelude.{◌≡◌, ℕ, ◌+◌, ◌-◌, ◌*◌, ◌≤◌, List, [], ◌∷◌, length, sum_by}
use Rattle.vp_card.specs.Cards.{held, place}
use Rattle.vp_sets.specs.Sets.{deck, without}
use Rattle.vp_sets.specs.Index.{IsSet}
use Rattle.vp_sets.specs.Draws.{discarded, sum_over_draws}
use Rattle.vp_count.specs.Sums.{number, hand_numbers, containing, excluding, spread}

-- the law of levels: each set of five that contains s has 5 less the members of s further members, so with one card more at a time it is met as often
abbrev pub LevelsAddUp : Type 0
LevelsAddUp = (n : ℕ) (w s : List ℕ) → IsSet n s → length s ≤ 4 → sum_by (λ c. containing n w (place c s)) (without (deck n) s) ≡ (5 - length s) * containing n w s

-- where no card is left out, all sets that contain s are meant
abbrev pub NothingIsExcluded : Type 0
NothingIsExcluded = (n : ℕ) (w s : List ℕ) → excluding n w s [] ≡ containing n w s

-- one step of exclusion: the sets with s and none of x and d, and those with s and x too and none of d, are those with s and none of d
abbrev pub OneIsExcluded : Type 0
OneIsExcluded = (n : ℕ) (w s d : List ℕ) (x : ℕ) → excluding n w s (x ∷ d) + excluding n w (x ∷ s) d ≡ excluding n w s d

-- the final hands of a hold's draws are the sets with the held cards and none of the discards
abbrev pub DrawsExcludeDiscards : Type 0
DrawsExcludeDiscards = (n : ℕ) (w hand : List ℕ) (mask : ℕ) → IsSet n hand → length hand ≡ 5 → spread n w hand mask ≡ excluding n w (held mask hand) (discarded mask hand)

-- the number of a set of five is what f gives
abbrev pub NumbersAreOfHands : Type 0
NumbersAreOfHands = (n : ℕ) (f : List ℕ → ℕ) (hand : List ℕ) → IsSet n hand → length hand ≡ 5 → number (hand_numbers n f) hand ≡ f hand

-- the sum over all draws of the final hands' numbers is the sum of what f gives
abbrev pub SpreadIsSumOverDraws : Type 0
SpreadIsSumOverDraws = (n : ℕ) (f : List ℕ → ℕ) (hand : List ℕ) (mask : ℕ) → IsSet n hand → length hand ≡ 5 → spread n (hand_numbers n f) hand mask ≡ sum_over_draws f n hand mask
