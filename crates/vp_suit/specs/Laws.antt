-- What the laws of turns and classes say. A sum over all deals is a sum over classes by weight, as for orbits in any textbook of algebra.
use Rattle.std.specs.Prelude.{◌≡◌, ℕ, ◌*◌, ◌<◌, ◌≤◌, ◌==◌, true, List, map, sum_by}
use Rattle.std.specs.List.{All, count_by}
use Rattle.std.specs.List.Sorted.{IsStrictlyIncreasing}
use Rattle.vp_sets.specs.Draws.{sum_over_draws}
use Rattle.vp_sets.specs.Index.{set_index}
use Rattle.vp_sets.specs.Sets.{combos, deck}
use Rattle.vp_suit.specs.Classes.{IsDeal, IsKept, is_representative, representative, representatives, weight}
use Rattle.vp_suit.specs.Turns.{carried, turn}

-- all deals from a deck of n
abbrev pub deals : ℕ → List (List ℕ)
deals n = combos 5 (deck n)

-- how many deals from a deck of n have this representative
abbrev pub deals_like : ℕ → List ℕ → ℕ
deals_like n cards = count_by (λ other. set_index (representative other) == set_index cards) (deals n)

-- the sum over all classes of what f gives for the representative, taken as often as the class weighs
abbrev pub sum_by_weight : ℕ → (List ℕ → ℕ) → ℕ
sum_by_weight n f = sum_by (λ cards. weight cards * f cards) (representatives n)

-- what some classes weigh together
abbrev pub weights : List (List ℕ) → ℕ
weights some = sum_by (λ cards. weight cards) some

-- each of these is a deal from a deck of n that is the representative of its class
abbrev pub AreRepresentatives : ℕ → List (List ℕ) → Type 0
AreRepresentatives n some = All (λ cards. IsDeal n cards × (is_representative cards ≡ true)) some

-- the index of each is above that of the one before
abbrev pub RiseByIndex : List (List ℕ) → Type 0
RiseByIndex some = IsStrictlyIncreasing (map set_index some)

-- what holds of each turn of each deal from a deck of n, which has all natural cards
abbrev pub OfEachTurn : (ℕ → ℕ → List ℕ → Type 0) → Type 0
OfEachTurn P = (n t : ℕ) (cards : List ℕ) → 52 ≤ n → t < 24 → IsDeal n cards → P n t cards

-- turn u makes of what turn t made of a deal the deal again
abbrev pub TurnsBack : ℕ → ℕ → Type 0
TurnsBack t u = (n : ℕ) (cards : List ℕ) → IsDeal n cards → turn u (turn t cards) ≡ cards

-- what is taken of a turned deal by the carried mask is what is taken of the deal by the mask, turned
abbrev pub TurnsAlong : (ℕ → List ℕ → List ℕ) → Type 0
TurnsAlong taken = (n t mask : ℕ) (cards : List ℕ) → t < 24 → IsDeal n cards → taken (carried t cards mask) (turn t cards) ≡ turn t (taken mask cards)

-- a function that turns keep has the same sum over the draws of a hold and over those of the carried hold of a turned deal
abbrev pub DrawsAreKept : Type 0
DrawsAreKept = (n t mask : ℕ) (f : List ℕ → ℕ) (cards : List ℕ) → 52 ≤ n → t < 24 → IsDeal n cards → IsKept n f
    → sum_over_draws f n (turn t cards) (carried t cards mask) ≡ sum_over_draws f n cards mask
