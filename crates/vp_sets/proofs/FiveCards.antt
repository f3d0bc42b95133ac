-- Five cards that rise, as a row and as a hand.
use Rattle.std.proofs.Common.{◌≡◌, ℕ, List, [], ◌∷◌, length, get_or, refl, ap, sym, ◌∙◌, arith, eqb}
use Rattle.std.specs.List.{IsDistinct}
use Rattle.std.specs.List.Sorted.{IsPermutation}
use Rattle.vp_card.specs.Cards.{IsHand}
use Rattle.vp_card.specs.Rising.{times}
use Rattle.vp_sets.specs.Index.{IsSet}
use Rattle.vp_card.proofs.Rising.{rising_same, rising_from, times-IsPermutation, times-rising, distinct_from}
use Rattle.vp_sets.proofs.Colex.{set_rises}

pub five_in_row : (cards : List ℕ) → length cards ≡ 5 → cards ≡ get_or cards 0 0 ∷ get_or cards 1 0 ∷ get_or cards 2 0 ∷ get_or cards 3 0 ∷ get_or cards 4 0 ∷ []
five_in_row (a ∷ b ∷ c ∷ d ∷ e ∷ []) h = refl
five_in_row [] h = absurd (omega arith)
five_in_row (a ∷ []) h = absurd (omega arith)
five_in_row (a ∷ b ∷ []) h = absurd (omega arith)
five_in_row (a ∷ b ∷ c ∷ []) h = absurd (omega arith)
five_in_row (a ∷ b ∷ c ∷ d ∷ []) h = absurd (omega arith)
five_in_row (a ∷ b ∷ c ∷ d ∷ e ∷ f ∷ g) h = absurd (omega arith)

pub row_of : (cards : List ℕ) (a b c d e : ℕ) → length cards ≡ 5 → a ≡ get_or cards 0 0 → b ≡ get_or cards 1 0 → c ≡ get_or cards 2 0 → d ≡ get_or cards 3 0 → e ≡ get_or cards 4 0 → a ∷ b ∷ c ∷ d ∷ e ∷ [] ≡ cards
row_of cards a b c d e l p q r s t = rw (p, q, r, s, t) (sym (five_in_row cards l))

pub different_cards : (cards row : List ℕ) → IsSet 54 cards → row ≡ cards → IsDistinct eqb row
different_cards cards row h e = rw e (distinct_from cards (λ x. times-rising x cards (set_rises 54 cards h)))

pub hand_of_set : (cards row hand : List ℕ) → IsSet 54 cards → row ≡ cards → IsPermutation row hand → IsHand hand → hand ≡ cards
hand_of_set cards row hand h e same made =
    rising_same hand cards (rising_from hand made.rising) (set_rises 54 cards h) (λ x. times-IsPermutation x row hand same ∙ ap (λ (s : List ℕ). times x s) e)
