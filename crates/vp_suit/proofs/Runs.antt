-- Runs of deals that differ in the lowest card alone.
use Rattle.std.proofs.Common.{◌≡◌, ◌⊎◌, inl, inr, ℕ, zero, suc, ◌+◌, ◌-◌, ◌*◌, ◌/◌, ◌^◌, ◌<◌, ◌≤◌, Bool, true, false, cond, List, [], ◌∷◌, length, drop, get_or, set, filter, refl, ap, sym, subst, ◌∙◌, arith, lit≤, lit<, ◌%◌, nat_lt, length-drop}
use Rattle.std.proofs.lemmas.Bool.{cases_Bool, both_ways, le-ltb}
use Rattle.std.proofs.Math.Nat.{pow-le-pow_right}
use Rattle.vp_card.specs.Rising.{IsRising}
use Rattle.vp_card.proofs.Rising.{below_down}
use Rattle.vp_sets.specs.Sets.{choose}
use Rattle.vp_sets.specs.Index.{HasIndex, set_index, index_from, colex}
use Rattle.vp_sets.proofs.Binomials.{choose-zero, choose-none, choose-suc}
use Rattle.vp_sets.proofs.Colex.{Below, set_rises, set_below, set_from, below_at, index_is, index-cons}
use Rattle.vp_sets.proofs.Walk.{has_index_lt}
use Rattle.vp_suit.specs.Heaps.{card_heap, heap, jumps, suit_heaps}
use Rattle.vp_suit.specs.Classes.{IsDeal, is_representative}
use Rattle.vp_suit.proofs.CardHeaps.{card_heap_below}
use Rattle.vp_suit.proofs.Falls.{Fall, fall_of, falls_tell}
use Rattle.vp_suit.proofs.Score.{heap-cons}
use Rattle.vp_suit.proofs.Walks.{deals_from}

-- a deal is its lowest card and the others
pub lowest_first : (cards : List ℕ) → length cards ≡ 5 → cards ≡ get_or cards 0 0 ∷ drop 1 cards
lowest_first [] five = absurd (omega arith)
lowest_first (a ∷ cards) five = refl

-- a deal with another lowest card
pub with_lowest : (n low : ℕ) (cards : List ℕ) → IsDeal n cards → low < get_or cards 1 0 → IsDeal n (low ∷ drop 1 cards)
with_lowest n low [] d l = absurd (omega (arith, d.five))
with_lowest n low (a ∷ []) d l = absurd (omega (arith, d.five))
with_lowest n low (a ∷ b ∷ cards) d l =
    let r : IsRising (a ∷ b ∷ cards) = set_rises n (a ∷ b ∷ cards) d.set in
    let s : Below n (a ∷ b ∷ cards) = set_below n (a ∷ b ∷ cards) d.set in
    let u : b < n = s.1.0 in
    record { five = d.five; set = set_from n (low ∷ b ∷ cards) ((l, below_down low b cards (omega arith) r.1.0), r.1) (omega arith, s.1) }

choose-one : (n : ℕ) → choose n 1 ≡ n
choose-one zero = choose-none 0
choose-one (suc n) = omega (arith, choose-suc n 0, choose-zero n, choose-one n)

index-lowest : (low : ℕ) (cards : List ℕ) → set_index (low ∷ cards) ≡ low + index_from 1 cards
index-lowest low cards = omega (arith, index_is (low ∷ cards), index-cons 0 low cards, choose-one low)

-- the next lowest card gives the next deal
pub raised_lowest : (n : ℕ) (cards : List ℕ) → IsDeal n cards → get_or cards 0 0 + 1 < get_or cards 1 0 → HasIndex n 5 (set_index cards + 1) (set cards 0 (get_or cards 0 0 + 1))
raised_lowest n [] d l = absurd (omega (arith, d.five))
raised_lowest n (a ∷ cards) d l =
    let e : IsDeal n ((a + 1) ∷ cards) = with_lowest n (a + 1) (a ∷ cards) d l in
    record { is_set = e.set; many = e.five; index = omega (arith, index-lowest a cards, index-lowest (a + 1) cards) }

-- a run of deals without a representative can be left out
run_left : (n k low : ℕ) (cards : List ℕ) → IsDeal n cards → low + k < get_or cards 1 0 → ((x : ℕ) → x < get_or cards 1 0 → is_representative (x ∷ drop 1 cards) ≡ false)
    → filter (λ deal. is_representative deal) (drop (set_index ((low + k) ∷ drop 1 cards)) (colex 5 n)) ≡ filter (λ deal. is_representative deal) (drop (set_index (low ∷ drop 1 cards)) (colex 5 n))
run_left n zero low cards d l none = ap (λ x. filter (λ deal. is_representative deal) (drop (set_index (x ∷ drop 1 cards)) (colex 5 n))) (omega arith)
run_left n (suc k) low cards d l none =
    let here : drop (set_index (low ∷ drop 1 cards)) (colex 5 n) ≡ (low ∷ drop 1 cards) ∷ drop (set_index (low ∷ drop 1 cards) + 1) (colex 5 n) = deals_from n (low ∷ drop 1 cards) (with_lowest n low cards d (omega arith)) in
    let next : set_index (low ∷ drop 1 cards) + 1 ≡ set_index ((low + 1) ∷ drop 1 cards) = omega (arith, index-lowest low (drop 1 cards), index-lowest (low + 1) (drop 1 cards)) in
    let out : filter (λ deal. is_representative deal) ((low ∷ drop 1 cards) ∷ drop (set_index (low ∷ drop 1 cards) + 1) (colex 5 n)) ≡ filter (λ deal. is_representative deal) (drop (set_index (low ∷ drop 1 cards) + 1) (colex 5 n)) =
    rw (none low (omega arith)) refl in
    let rest = run_left n k (low + 1) cards d (omega arith) none in
    ap (λ x. filter (λ deal. is_representative deal) (drop (set_index (x ∷ drop 1 cards)) (colex 5 n))) (omega arith) ∙ rest ∙ ap (λ i. filter (λ deal. is_representative deal) (drop i (colex 5 n))) (sym next) ∙ sym out
    ∙ ap (λ deals. filter (λ deal. is_representative deal) deals) (sym here)

-- ---- the heaps of a run

-- no lowest card mends a heap that is greater than the one before it by more than a card below the next lowest adds
pub none_stand : (cards : List ℕ) (lowest : ℕ) → IsDeal 54 cards → lowest < get_or cards 1 0 → jumps (2 ^ (4 * (get_or cards 1 0 / 4))) (drop 1 cards) ≡ true → is_representative (lowest ∷ drop 1 cards) ≡ false
unfolding jumps
none_stand cards lowest d l jump =
    let s : List ℕ = drop 1 cards in
    let most : ℕ = 2 ^ (4 * (get_or cards 1 0 / 4)) in
    let few : (x : ℕ) → card_heap x lowest ≤ most = λ x. card_heap_below x lowest (get_or cards 1 0) (omega arith) in
    elim (cases_Bool (is_representative (lowest ∷ s))) [
      | inl stands ↦
          let f : Fall (lowest ∷ s) = fall_of (lowest ∷ s) (falls_tell 54 (lowest ∷ s) (lit≤ tt) (with_lowest 54 lowest cards d l) ∙ stands) in
          let near : (x y : ℕ) → heap y (lowest ∷ s) ≤ heap x (lowest ∷ s) → nat_lt (heap x s + most) (heap y s) ≡ false = λ x y k.
          le-ltb _ _ (omega (arith, heap-cons x lowest s, heap-cons y lowest s, few x)) in
          let no_jump : jumps most s ≡ false = rw (near 0 1 f.first, near 1 2 f.middle, near 2 3 f.last) refl in
          absurd (both_ways (jumps most s) no_jump jump)
      | inr misses ↦ misses
    ]

pub heap_front : (x : ℕ) (cards : List ℕ) → length cards ≡ 5 → heap x cards ≡ heap x (drop 1 cards) + card_heap x (get_or cards 0 0)
heap_front x [] five = absurd (omega arith)
heap_front x (a ∷ cards) five = omega (arith, heap-cons x a cards)

pub length-upper : (cards : List ℕ) → length cards ≡ 5 → length (drop 1 cards) ≡ 4
length-upper [] five = absurd (omega arith)
length-upper (a ∷ cards) five = omega arith

-- what a card below the next lowest can add fits
pub most_is : (cards : List ℕ) → IsDeal 54 cards → 1 * 2 ^ (4 * (get_or cards 1 0 / 4)) % 18446744073709551616 ≡ 2 ^ (4 * (get_or cards 1 0 / 4))
most_is cards d =
    let l : get_or cards 1 0 < 54 = below_at 54 cards 1 (set_below 54 cards d.set) (omega (arith, d.five)) in
    let few : 4 * (get_or cards 1 0 / 4) ≤ 52 = omega arith in
    let small : 2 ^ (4 * (get_or cards 1 0 / 4)) ≤ 2 ^ 52 = pow-le-pow_right (lit< tt) few in
    omega arith

pub more_deals : (n : ℕ) (cards : List ℕ) → IsDeal n cards → get_or cards 0 0 + 1 < get_or cards 1 0 → set_index cards + 1 < choose n 5
more_deals n cards d l = has_index_lt n 5 (set_index cards + 1) (set cards 0 (get_or cards 0 0 + 1)) (raised_lowest n cards d l)

-- a run of which no deal is a representative, up to its last deal
pub run_skipped : (n : ℕ) (cards : List ℕ) → IsDeal n cards → ((x : ℕ) → x < get_or cards 1 0 → is_representative (x ∷ drop 1 cards) ≡ false)
    → filter (λ deal. is_representative deal) (drop (set_index (set cards 0 (get_or cards 1 0 - 1))) (colex 5 n)) ≡ filter (λ deal. is_representative deal) (drop (set_index cards) (colex 5 n))
run_skipped n [] d none = absurd (omega (arith, d.five))
run_skipped n (a ∷ []) d none = absurd (omega (arith, d.five))
run_skipped n (a ∷ b ∷ cards) d none =
    let r : IsRising (a ∷ b ∷ cards) = set_rises n (a ∷ b ∷ cards) d.set in
    let l : a < b = r.0.0 in
    ap (λ x. filter (λ deal. is_representative deal) (drop (set_index (x ∷ b ∷ cards)) (colex 5 n))) (omega arith) ∙ run_left n (b - a - 1) a (a ∷ b ∷ cards) d (omega arith) none

-- the last deal of a run isn't before its other deals
pub run_rises : (n : ℕ) (cards : List ℕ) → IsDeal n cards → set_index cards ≤ set_index (set cards 0 (get_or cards 1 0 - 1))
run_rises n [] d = absurd (omega (arith, d.five))
run_rises n (a ∷ []) d = absurd (omega (arith, d.five))
run_rises n (a ∷ b ∷ cards) d =
    let r : IsRising (a ∷ b ∷ cards) = set_rises n (a ∷ b ∷ cards) d.set in
    let l : a < b = r.0.0 in
    omega (arith, index-lowest a (b ∷ cards), index-lowest (b - 1) (b ∷ cards))

-- ---- the deals that are left, with a run left out

pub left_skipped : (n : ℕ) (cards : List ℕ) (left : Bool) (old : List (List ℕ)) → IsDeal n cards → old ≡ cond left (drop (set_index cards) (colex 5 n)) [] → ((x : ℕ) → x < get_or cards 1 0 → is_representative (x ∷ drop 1 cards) ≡ false)
    → filter (λ deal. is_representative deal) (cond left (drop (set_index (set cards 0 (get_or cards 1 0 - 1))) (colex 5 n)) []) ≡ filter (λ deal. is_representative deal) old
left_skipped n cards true old d view none = run_skipped n cards d none ∙ ap (λ deals. filter (λ deal. is_representative deal) deals) (sym view)
left_skipped n cards false old d view none = ap (λ deals. filter (λ deal. is_representative deal) deals) (sym view)

pub left_fewer : (n : ℕ) (cards : List ℕ) (left : Bool) (old : List (List ℕ)) → IsDeal n cards → old ≡ cond left (drop (set_index cards) (colex 5 n)) []
    → length (cond left (drop (set_index (set cards 0 (get_or cards 1 0 - 1))) (colex 5 n)) []) ≤ length old
left_fewer n cards true old d view = rw view (omega (arith, run_rises n cards d, length-drop (set_index cards) (colex 5 n), length-drop (set_index (set cards 0 (get_or cards 1 0 - 1))) (colex 5 n)))
left_fewer n cards false old d view = omega arith
