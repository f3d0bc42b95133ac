-- Classes of deals: the images under the turns of the suits, the representative and the weight. Orbits and their least members, as in any
-- textbook of algebra; the representative is the one of least index.
use Rattle.std.specs.Prelude.{◌≡◌, ℕ, ◌<◌, Bool, false, List, ◌∷◌, drop, length, map, filter, slice_index, slice_index_or}
use Rattle.std.specs.List.{position_or_len}
use Rattle.vp_sets.specs.Sets.{deck}
use Rattle.vp_sets.specs.Index.{IsSet, set_index, colex}
use Rattle.vp_suit.specs.Images.{different, is_least}
use Rattle.vp_suit.specs.Turns.{turn}

-- five different cards of a deck of n, in rising order
pub record IsDeal (n : ℕ) (cards : List ℕ) : Type 0 where
  pub five : length cards ≡ 5
  pub set : IsSet n cards

-- a function of deals that has equal values at a deal and at its images
abbrev pub IsKept : ℕ → (List ℕ → ℕ) → Type 0
IsKept n f = (t : ℕ) (cards : List ℕ) → t < 24 → IsDeal n cards → f (turn t cards) ≡ f cards

-- the indexes of a deal's images, one for each turn
unfoldable pub image_indexes : List ℕ → List ℕ
image_indexes cards = map (λ t. set_index (turn t cards)) (deck 24)

-- a deal is the representative of its class where no image has a lower index
unfoldable pub is_representative : List ℕ → Bool
is_representative cards = is_least (set_index cards) (image_indexes cards)

-- the least turn that gives the image of least index
unfoldable pub least_turn : List ℕ → ℕ
least_turn cards = position_or_len (λ index. is_least index (image_indexes cards)) (image_indexes cards)

-- the representative of a deal's class: the image of least index
unfoldable pub representative : List ℕ → List ℕ
representative cards = turn (least_turn cards) cards

-- the weight of a deal's class: the number of different images, which their indexes tell apart
unfoldable pub weight : List ℕ → ℕ
weight cards = length (different (image_indexes cards))

-- the representatives among all deals from a deck of n, by rising index
unfoldable pub representatives : ℕ → List (List ℕ)
representatives n = filter (λ cards. is_representative cards) (colex 5 n)

-- no card below the second one makes, with all cards but the lowest, a representative
abbrev pub NoLowestStands : List ℕ → Type 0
NoLowestStands cards = (lowest : ℕ) → lowest < slice_index cards 1 → is_representative (lowest ∷ drop 1 cards) ≡ false

-- the representatives among some deals
abbrev pub representatives_in : List (List ℕ) → List (List ℕ)
representatives_in some = filter (λ cards. is_representative cards) some

-- the number of a deal in a list of one number for each deal, by index
abbrev pub listed : List ℕ → List ℕ → ℕ
listed w cards = slice_index_or w (set_index cards) 0
