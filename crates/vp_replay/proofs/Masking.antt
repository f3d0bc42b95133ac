-- Lawful cards differ, and a mask holds the held ones.
use Rattle.std.proofs.Common.{◌≡◌, ℕ, ◌+◌, ◌≤◌, Bool, true, false, cond, List, [], ◌∷◌, ◌++◌, refl, ap, subst, ◌∙◌, arith, None, inl, inr, append_assoc}
use Rattle.std.specs.Prelude.{◌||◌, ◌==◌, filter, if◌then◌else◌}
use Rattle.std.specs.List.{list_any}
use Rattle.std.proofs.lemmas.Bool.{cases_Bool}
use Rattle.std.proofs.lemmas.Bool.Decides.{nat_tests}
use Rattle.std.proofs.lemmas.List.{append-nil}
use Rattle.vp_card.specs.Rising.{times}
use Rattle.vp_card.specs.Cards.{held, in_order, joined}
use Rattle.vp_card.proofs.Rising.{times-append, times-joined, rising_same, rising-joined}
use Rattle.vp_sets.specs.Draws.{mask_of}
use Rattle.vp_sets.specs.Sets.{has}
use Rattle.vp_sets.proofs.Masks.{held_of, rising-filter, times-filter}
use Rattle.vp_replay.specs.Rules.{first_wrong}

-- ---- among and times

pub none_among : (card : ℕ) (cards : List ℕ) → has cards card ≡ false → times card cards ≡ 0
unfolding has
none_among card [] e = refl
none_among card (other ∷ cards) e = elim (other == card) as (λ b. (b || list_any (λ o. o == card) cards) ≡ false → (if b then 1 else 0) + times card cards ≡ 0) [
  | true ↦ λ e. absurd cc
  | false ↦ λ e. omega (arith, none_among card cards e)
] e

pub some_among : (card : ℕ) (cards : List ℕ) → has cards card ≡ true → 1 ≤ times card cards
unfolding has
some_among card [] e = absurd cc
some_among card (other ∷ cards) e = elim (other == card) as (λ b. (b || list_any (λ o. o == card) cards) ≡ true → 1 ≤ (if b then 1 else 0) + times card cards) [
  | true ↦ λ e. omega arith
  | false ↦ λ e. omega (arith, some_among card cards e)
] e

pub among_none : (card : ℕ) (cards : List ℕ) → times card cards ≡ 0 → has cards card ≡ false
unfolding has
among_none card [] e = refl
among_none card (other ∷ cards) e = elim (other == card) as (λ b. (if b then 1 else 0) + times card cards ≡ 0 → (b || list_any (λ o. o == card) cards) ≡ false) [
  | true ↦ λ e. absurd (omega arith)
  | false ↦ λ e. among_none card cards (omega arith)
] e

-- ---- what no wrong card says

one_more : (front : List ℕ) (card c : ℕ) → times card front ≡ 0 → times c front ≤ 1 → times c (front ++ card ∷ []) ≤ 1
one_more front card c none once = elim (cases_Bool (card == c)) [
  | inl is ↦ let e : card ≡ c = grind (arith, nat_tests) in let z : times c front ≡ 0 = subst (λ (x : ℕ). times x front ≡ 0) e none in let t : times c (card ∷ []) ≡ 1 = rw is refl in omega (arith, times-append c front (card ∷ []))
  | inr other ↦ let t : times c (card ∷ []) ≡ 0 = rw other refl in omega (arith, times-append c front (card ∷ []))
]

pub right_once : (wrong : List ℕ → ℕ → Bool) (front cards : List ℕ) → ((front : List ℕ) (card : ℕ) → wrong front card ≡ false → has front card ≡ false) → first_wrong wrong front cards ≡ None
    → ((c : ℕ) → times c front ≤ 1) → (c : ℕ) → times c (front ++ cards) ≤ 1
unfolding first_wrong
right_once wrong front [] tells none once c = rw (append-nil front) (once c)
right_once wrong front (card ∷ cards) tells none once c = elim (cases_Bool (wrong front card)) [
  | inl bad ↦ absurd (let e = rw bad at none in cc)
  | inr fine ↦ rw (← append_assoc front (card ∷ []) cards) (right_once wrong (front ++ card ∷ []) cards tells (rw fine at none) (λ x. one_more front card x (none_among card front (tells front card fine)) (once x)) c)
]

-- ---- the mask

pub holds : (deal cards : List ℕ) → ((c : ℕ) → times c deal ≤ 1) → ((c : ℕ) → times c cards ≤ times c deal) → held (mask_of cards (in_order deal)) (in_order deal) ≡ in_order cards
unfolding in_order
holds deal cards once within = held_of cards (in_order deal) ∙ rising_same _ _ (rising-filter (λ c. has cards c) (in_order deal) (rising-joined deal [] tt (λ c. rw (append-nil deal) (once c))))
    (rising-joined cards [] tt (λ c. rw (append-nil cards) (omega (arith, once c, within c)))) (λ c. elim (cases_Bool (has cards c)) [
      | inl there ↦
          let one : times c (filter (λ c. has cards c) (joined deal [])) ≡ times c (joined deal []) =
          times-filter (λ c. has cards c) c (joined deal []) ∙ ap (λ (b : Bool). cond b (times c (joined deal [])) 0) there in
          omega (arith, one, times-joined c deal [], times-joined c cards [], some_among c cards there, once c, within c)
      | inr gone ↦
          let none : times c (filter (λ c. has cards c) (joined deal [])) ≡ 0 =
          times-filter (λ c. has cards c) c (joined deal []) ∙ ap (λ (b : Bool). cond b (times c (joined deal [])) 0) gone in
          omega (arith, none, times-joined c cards [], none_among c cards gone)
    ])
