-- Sums over all hands that have chosen cards in front.
use Rattle.std.proofs.Common.{◌≡◌, ℕ, zero, suc, ◌+◌, ◌-◌, ◌<◌, ◌≤◌, false, cond, ◌==◌, List, [], ◌∷◌, ◌++◌, length, drop, refl, ap, sym, ◌∙◌, arith, append-nil, append_assoc}
use Rattle.std.specs.List.{sum_by}
use Rattle.std.proofs.lemmas.List.{drop_more, length-append, length-drop}
use Rattle.std.proofs.lemmas.Bool.{cond-true, eq-eqb}
use Rattle.vp_sets.specs.Sets.{combos, deck, has, choose}
use Rattle.vp_sets.specs.Draws.{at_mask, mask_of, sum_over_draws}
use Rattle.vp_sets.specs.Index.{IsSet}
use Rattle.vp_sets.proofs.Decks.{length-deck, get_or-deck}
use Rattle.vp_sets.proofs.Binomials.{choose-zero, choose-none, choose-suc}
use Rattle.vp_sets.proofs.Colex.{Below, below_more, below_push, rises_push, set_below, set_from, set_rises}
use Rattle.vp_sets.proofs.Spread.{has-none, has-later}
use Rattle.vp_sets.proofs.Sublists.{sum_combos-zero, sum_combos-few, sum_combos-cons, sum_combos_agree}
use Rattle.vp_sets.proofs.Holds.{Dealt, dealt_is_set}
use Rattle.vp_sets.proofs.ByMask.{draws_by_mask}
use Rattle.vp_draws.specs.ByLine.{summed}

summed_is : (f : List ℕ → ℕ) (n : ℕ) (chosen : List ℕ) (low : ℕ) (deal : List ℕ) (mask j : ℕ) → 5 - length chosen ≡ j
    → summed f n chosen low deal mask ≡ sum_by (λ more. at_mask f deal mask (chosen ++ more)) (combos j (drop low (deck n)))
unfolding summed
summed_is f n chosen low deal mask j e = ap (λ i. sum_by (λ more. at_mask f deal mask (chosen ++ more)) (combos i (drop low (deck n)))) e

deck_from : (n low : ℕ) → low < n → drop low (deck n) ≡ low ∷ drop (low + 1) (deck n)
deck_from n low l =
    let k : low < length (deck n) = omega (arith, length-deck n) in
    drop_more (deck n) low 0 k ∙ ap (λ c. c ∷ drop (low + 1) (deck n)) (get_or-deck n low l)

-- the hands that go on with the card `low`, and those that do not
pub summed_more : (f : List ℕ → ℕ) (n : ℕ) (chosen more : List ℕ) (low : ℕ) (deal : List ℕ) (mask : ℕ) → length chosen < 5 → low < n → more ≡ chosen ++ low ∷ []
    → summed f n chosen low deal mask ≡ summed f n more (low + 1) deal mask + summed f n chosen (low + 1) deal mask
summed_more f n chosen more low deal mask room l grown =
    let j : ℕ = 4 - length chosen in
    let g : List ℕ → ℕ = at_mask f deal mask in
    let rest : List ℕ = drop (low + 1) (deck n) in
    let many : length more ≡ length chosen + 1 = ap length grown ∙ length-append chosen (low ∷ []) in
    let a : summed f n chosen low deal mask ≡ sum_by (λ y. g (chosen ++ y)) (combos (suc j) (drop low (deck n))) = summed_is f n chosen low deal mask (suc j) (omega arith) in
    let b : summed f n chosen (low + 1) deal mask ≡ sum_by (λ y. g (chosen ++ y)) (combos (suc j) rest) = summed_is f n chosen (low + 1) deal mask (suc j) (omega arith) in
    let d : summed f n more (low + 1) deal mask ≡ sum_by (λ y. g (more ++ y)) (combos j rest) = summed_is f n more (low + 1) deal mask j (omega arith) in
    let s : sum_by (λ y. g (chosen ++ y)) (combos (suc j) (low ∷ rest)) ≡ sum_by (λ y. g (chosen ++ (low ∷ y))) (combos j rest) + sum_by (λ y. g (chosen ++ y)) (combos (suc j) rest) = sum_combos-cons (λ y. g (chosen ++ y)) j low rest in
    let same : sum_by (λ y. g (chosen ++ (low ∷ y))) (combos j rest) ≡ sum_by (λ y. g (more ++ y)) (combos j rest) =
    sum_combos_agree (λ y. g (chosen ++ (low ∷ y))) (λ y. g (more ++ y)) j rest (λ y _ _. ap g (sym (ap (λ z. z ++ y) grown ∙ append_assoc chosen (low ∷ []) y))) in
    let front : sum_by (λ y. g (chosen ++ y)) (combos (suc j) (drop low (deck n))) ≡ sum_by (λ y. g (chosen ++ y)) (combos (suc j) (low ∷ rest)) = ap (λ z. sum_by (λ y. g (chosen ++ y)) (combos (suc j) z)) (deck_from n low l) in
    omega arith

-- no card is left
pub summed-none : (f : List ℕ → ℕ) (n : ℕ) (chosen : List ℕ) (low : ℕ) (deal : List ℕ) (mask : ℕ) → length chosen < 5 → n ≤ low
    → summed f n chosen low deal mask ≡ 0
summed-none f n chosen low deal mask room l =
    let none : length (drop low (deck n)) ≡ 0 = omega (arith, length-drop low (deck n), length-deck n) in
    summed_is f n chosen low deal mask (5 - length chosen) refl
    ∙ sum_combos-few (λ more. at_mask f deal mask (chosen ++ more)) (5 - length chosen) (drop low (deck n)) (omega arith)

-- all five cards are chosen
pub summed-five : (f : List ℕ → ℕ) (n : ℕ) (chosen : List ℕ) (low : ℕ) (deal : List ℕ) (mask : ℕ) → length chosen ≡ 5
    → summed f n chosen low deal mask ≡ cond (mask_of chosen deal == mask) (f chosen) 0
unfolding at_mask
summed-five f n chosen low deal mask five =
    summed_is f n chosen low deal mask 0 (omega arith)
    ∙ sum_combos-zero (λ more. at_mask f deal mask (chosen ++ more)) (drop low (deck n))
    ∙ ap (at_mask f deal mask) (append-nil chosen)

-- over all hands of the deck it is the sum over the draws of the hold
pub summed_all : (f : List ℕ → ℕ) (n : ℕ) (deal : List ℕ) (mask : ℕ) → Dealt n deal → mask < 32
    → summed f n [] 0 deal mask ≡ sum_over_draws f n deal mask
summed_all f n deal mask d small =
    summed_is f n [] 0 deal mask 5 refl
    ∙ sym (draws_by_mask f n deal mask (dealt_is_set n deal d) d.five small)

-- a number is no member of a list below it
pub below_absent : (c : ℕ) (s : List ℕ) → Below c s → has s c ≡ false
below_absent c [] b = has-none c
below_absent c (d ∷ s) b = has-later d s c (λ e. let l : d < c = b.0 in omega arith) ∙ below_absent c s b.1

-- the hand that goes on with the card `low` as its fifth, and those that go on with a later one
pub fifth_more : (f : List ℕ → ℕ) (n : ℕ) (chosen hand : List ℕ) (low : ℕ) (deal : List ℕ) (mask : ℕ) → length chosen ≡ 4 → low < n → hand ≡ chosen ++ low ∷ []
    → summed f n chosen low deal mask ≡ cond (mask_of (chosen ++ low ∷ []) deal == mask) (f hand) 0 + summed f n chosen (low + 1) deal mask
fifth_more f n chosen hand low deal mask four l grown =
    let five : length (chosen ++ low ∷ []) ≡ 5 = omega (arith, length-append chosen (low ∷ [])) in
    summed_more f n chosen (chosen ++ low ∷ []) low deal mask (omega arith) l refl
    ∙ ap (λ m. m + summed f n chosen (low + 1) deal mask) (summed-five f n (chosen ++ low ∷ []) (low + 1) deal mask five ∙ ap (λ h. cond (mask_of (chosen ++ low ∷ []) deal == mask) (f h) 0) (sym grown))

-- with that hand at its mask, the rest is due
pub fifth_summed : (f : List ℕ → ℕ) (n : ℕ) (chosen hand : List ℕ) (low : ℕ) (deal : List ℕ) (mask before after all : ℕ) → length chosen ≡ 4 → low < n → hand ≡ chosen ++ low ∷ []
    → before + summed f n chosen low deal mask ≡ all → after ≡ before + cond (mask_of (chosen ++ low ∷ []) deal == mask) (f hand) 0
    → after + summed f n chosen (low + 1) deal mask ≡ all
fifth_summed f n chosen hand low deal mask before after all four l grown e step =
    omega (arith, fifth_more f n chosen hand low deal mask four l grown)

-- what that hand adds fits where the whole sum fits
pub fifth_fits : (f : List ℕ → ℕ) (n : ℕ) (chosen hand : List ℕ) (low : ℕ) (deal : List ℕ) (before all : ℕ) → length chosen ≡ 4 → low < n → hand ≡ chosen ++ low ∷ []
    → before + summed f n chosen low deal (mask_of (chosen ++ low ∷ []) deal) ≡ all → before + f hand ≤ all
fifth_fits f n chosen hand low deal before all four l grown e =
    let mask : ℕ = mask_of (chosen ++ low ∷ []) deal in
    let a : cond (mask == mask) (f hand) 0 ≡ f hand = cond-true (mask == mask) (f hand) 0 (eq-eqb mask mask refl) in
    omega (arith, fifth_more f n chosen hand low deal mask four l grown)

-- ---- the chosen cards

pub set_wider : (low : ℕ) (chosen : List ℕ) → IsSet low chosen → IsSet (low + 1) chosen
set_wider low chosen s = set_from (low + 1) chosen (set_rises low chosen s) (below_more low (low + 1) chosen (omega arith) (set_below low chosen s))

pub set_grows : (low : ℕ) (chosen more : List ℕ) → IsSet low chosen → more ≡ chosen ++ low ∷ [] → IsSet (low + 1) more
set_grows low chosen more s e =
    rw e (set_from (low + 1) (chosen ++ low ∷ []) (rises_push low chosen (set_rises low chosen s) (set_below low chosen s)) (below_push (low + 1) low chosen (below_more low (low + 1) chosen (omega arith) (set_below low chosen s)) (omega arith)))

-- how many hands there are with the card `low`, and without it
pub hands_more : (n low chosen : ℕ) → chosen < 4 → low < n → choose (n - low) (5 - chosen) ≡ choose (n - (low + 1)) (5 - (chosen + 1)) + choose (n - (low + 1)) (5 - chosen)
hands_more n low chosen few l =
    let a : n - low ≡ suc (n - (low + 1)) = omega arith in
    let b : 5 - chosen ≡ suc (5 - (chosen + 1)) = omega arith in
    rw (a, b) (choose-suc (n - (low + 1)) (5 - (chosen + 1)))

pub hands-none : (n low chosen : ℕ) → chosen < 5 → n ≤ low → choose (n - low) (5 - chosen) ≡ 0
hands-none n low chosen few l =
    let a : n - low ≡ 0 = omega arith in
    let b : 5 - chosen ≡ suc (4 - chosen) = omega arith in
    rw (a, b) (choose-none (4 - chosen))

pub hands-four : (n low chosen : ℕ) → chosen ≡ 4 → choose (n - low) (5 - chosen) ≡ n - low
hands-four n low chosen e = let b : 5 - chosen ≡ 1 = omega arith in ap (λ k. choose (n - low) k) b ∙ choose-one (n - low)
  where
    choose-one : (m : ℕ) → choose m 1 ≡ m
    choose-one zero = choose-none 0
    choose-one (suc m) = omega (arith, choose-suc m 0, choose-zero m, choose-one m)
