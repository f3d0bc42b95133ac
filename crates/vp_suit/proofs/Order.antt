-- A turned deal has the turned cards, in another order.
use Rattle.std.proofs.Common.{ℕ, true, false, cond, nat_lt, List, [], ◌∷◌, map}
use Rattle.std.specs.List.Sorted.{IsPermutation}
use Rattle.std.proofs.lemmas.List.Sorted.{IsPermutation-refl, IsPermutation-trans, IsPermutation-cons, IsPermutation-middle}
use Rattle.vp_card.specs.Cards.{place, joined}
use Rattle.vp_suit.specs.Turns.{turned, turn}

-- two neighbours change places
exchanged : (c d : ℕ) (s : List ℕ) → IsPermutation (c ∷ d ∷ s) (d ∷ c ∷ s)
exchanged c d s = IsPermutation-middle (c ∷ []) d s

placed : (c : ℕ) (s : List ℕ) → IsPermutation (c ∷ s) (place c s)
unfolding place
placed c [] = IsPermutation-refl (c ∷ [])
placed c (d ∷ s) = elim (nat_lt c d) as (λ v. IsPermutation (c ∷ d ∷ s) (cond v (c ∷ d ∷ s) (d ∷ place c s))) [
  | true ↦ IsPermutation-refl (c ∷ d ∷ s)
  | false ↦ IsPermutation-trans (c ∷ d ∷ s) (d ∷ c ∷ s) (d ∷ place c s) (exchanged c d s) (IsPermutation-cons d (c ∷ s) (place c s) (placed c s))
]

-- cards put one by one into an empty list are those cards
pub joined_moves : (cards : List ℕ) → IsPermutation cards (joined cards [])
unfolding joined
joined_moves [] = IsPermutation-refl []
joined_moves (c ∷ cards) =
    IsPermutation-trans (c ∷ cards) (c ∷ joined cards []) (place c (joined cards [])) (IsPermutation-cons c cards (joined cards []) (joined_moves cards)) (placed c (joined cards []))

pub turn_moves : (t : ℕ) (cards : List ℕ) → IsPermutation (map (λ card. turned t card) cards) (turn t cards)
unfolding turn
turn_moves t cards = joined_moves (map (λ card. turned t card) cards)
