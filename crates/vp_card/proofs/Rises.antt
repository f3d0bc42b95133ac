-- Cards that rise, by test and in std's words.
use Rattle.std.proofs.Common.{◌≡◌, ℕ, zero, suc, ◌+◌, ◌<◌, Bool, true, ◌&&◌, nat_lt, List, [], ◌∷◌, refl, ap, subst, ◌∙◌, arith, slice_index}
use Rattle.std.specs.List.Sorted.{IsStrictlyIncreasing}
use Rattle.std.proofs.lemmas.Bool.{lt-ltb, ltb-true, and_parts}
use Rattle.vp_card.specs.Cards.{rises}

pub rises-increasing : (cards : List ℕ) → rises cards ≡ true → IsStrictlyIncreasing cards
rises-increasing [] is k inside = absurd (omega arith)
rises-increasing (card ∷ []) is k inside = absurd (omega arith)
rises-increasing (card ∷ next ∷ cards) is zero inside = ltb-true card next (and_parts (nat_lt card next) (rises (next ∷ cards)) is).0
rises-increasing (card ∷ next ∷ cards) is (suc k) inside =
    let more = rises-increasing (next ∷ cards) (and_parts (nat_lt card next) (rises (next ∷ cards)) is).1 k (omega (arith, inside)) in
    subst (λ (j : ℕ). slice_index (next ∷ cards) k < slice_index (card ∷ next ∷ cards) j) (let e : suc (k + 1) ≡ suc k + 1 = omega arith in e) more

tail_increasing : (card : ℕ) (cards : List ℕ) → IsStrictlyIncreasing (card ∷ cards) → IsStrictlyIncreasing cards
tail_increasing card cards is k inside =
    subst (λ (j : ℕ). slice_index cards k < slice_index (card ∷ cards) j) (let e : suc k + 1 ≡ suc (k + 1) = omega arith in e) (is (suc k) (omega (arith, inside)))

pub increasing-rises : (cards : List ℕ) → IsStrictlyIncreasing cards → rises cards ≡ true
increasing-rises [] is = refl
increasing-rises (card ∷ []) is = refl
increasing-rises (card ∷ next ∷ cards) is =
    let here : nat_lt card next ≡ true = lt-ltb card next (is 0 (omega arith)) in
    let more = increasing-rises (next ∷ cards) (tail_increasing card (next ∷ cards) is) in
    ap (λ (b : Bool). b && rises (next ∷ cards)) here ∙ more
