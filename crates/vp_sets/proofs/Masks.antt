-- What a filter keeps, and the mask that holds the cards of a set.
use Rattle.std.proofs.Common.{◌≡◌, inl, inr, ℕ, suc, ◌+◌, ◌^◌, ◌*◌, ◌/◌, ◌%◌, ◌<◌, Bool, true, false, cond, not, ◌==◌, List, [], ◌∷◌, length, filter, refl, arith, zero-add}
use Rattle.std.proofs.lemmas.Bool.{cases_eq, ne_eqb}
use Rattle.std.proofs.Math.Nat.{pow-suc, pow-zero}
use Rattle.vp_card.specs.Cards.{held}
use Rattle.vp_card.specs.Rising.{times, IsRising}
use Rattle.vp_sets.specs.Sets.{has}
use Rattle.vp_sets.specs.Draws.{discarded, mask_of}
use Rattle.vp_sets.proofs.Sublists.{sub-filter, sub_rising}

-- ---- what a filter keeps

pub rising-filter : (p : ℕ → Bool) (s : List ℕ) → IsRising s → IsRising (filter p s)
rising-filter p s rises = sub_rising (sub-filter p s) rises

nothing : (b : Bool) → times 0 [] ≡ cond b 0 0
nothing true = refl
nothing false = refl

pub times-filter : (p : ℕ → Bool) (x : ℕ) (s : List ℕ) → times x (filter p s) ≡ cond (p x) (times x s) 0
times-filter p x [] = nothing (p x)
times-filter p x (d ∷ s) =
    let rest : times x (filter p s) ≡ cond (p x) (times x s) 0 = times-filter p x s in
    elim (cases_eq d x) [
      | inl e ↦ rw e (elim (p x) as (λ v. times x (filter p s) ≡ cond v (times x s) 0 → times x (cond v (x ∷ filter p s) (filter p s)) ≡ cond v (cond (x == x) 1 0 + times x s) 0) [
        | true ↦ λ h. rw h refl
        | false ↦ λ h. h
      ] rest)
      | inr e ↦ elim (p d) as (λ v. times x (cond v (d ∷ filter p s) (filter p s)) ≡ cond (p x) (cond (d == x) 1 0 + times x s) 0) [
        | true ↦ rw (ne_eqb d x e, zero-add, zero-add) rest
        | false ↦ rw (ne_eqb d x e, zero-add) rest
      ]
    ]

-- ---- masks

mask_first : (kept : List ℕ) (c : ℕ) (cards : List ℕ) → (mask_of kept (c ∷ cards) % 2 ≡ cond (has kept c) 1 0) × (mask_of kept (c ∷ cards) / 2 ≡ mask_of kept cards)
unfolding mask_of
mask_first kept c cards = elim (has kept c) as (λ v. ((cond v 1 0 + 2 * mask_of kept cards) % 2 ≡ cond v 1 0) × ((cond v 1 0 + 2 * mask_of kept cards) / 2 ≡ mask_of kept cards)) [
  | true ↦ (omega arith, omega arith)
  | false ↦ (omega arith, omega arith)
]

-- a mask made for a set holds the cards that are in the set
pub held_of : (kept cards : List ℕ) → held (mask_of kept cards) cards ≡ filter (λ c. has kept c) cards
held_of kept [] = refl
held_of kept (c ∷ cards) =
    let two = mask_first kept c cards in
    let rest : held (mask_of kept cards) cards ≡ filter (λ d. has kept d) cards = held_of kept cards in
    rw (two.0, two.1, rest) (elim (has kept c) as (λ v. cond (cond v 1 0 == 1) (c ∷ filter (λ d. has kept d) cards) (filter (λ d. has kept d) cards) ≡ cond v (c ∷ filter (λ d. has kept d) cards) (filter (λ d. has kept d) cards)) [ true ↦ refl | false ↦ refl ])

pub discarded_of : (kept cards : List ℕ) → discarded (mask_of kept cards) cards ≡ filter (λ c. not (has kept c)) cards
unfolding discarded
discarded_of kept [] = refl
discarded_of kept (c ∷ cards) =
    let two = mask_first kept c cards in
    let rest : discarded (mask_of kept cards) cards ≡ filter (λ d. not (has kept d)) cards = discarded_of kept cards in
    rw (two.0, two.1, rest) (elim (has kept c) as (λ v. cond (cond v 1 0 == 1) (filter (λ d. not (has kept d)) cards) (c ∷ filter (λ d. not (has kept d)) cards) ≡ cond (not v) (c ∷ filter (λ d. not (has kept d)) cards) (filter (λ d. not (has kept d)) cards)) [ true ↦ refl | false ↦ refl ])

-- a mask over as many cards
pub mask_small : (kept cards : List ℕ) → mask_of kept cards < 2 ^ length cards
unfolding mask_of
mask_small kept [] = rw pow-zero (omega arith)
mask_small kept (c ∷ cards) =
    let rest : mask_of kept cards < 2 ^ length cards = mask_small kept cards in
    let p : 2 ^ suc (length cards) ≡ 2 ^ length cards * 2 = pow-suc 2 (length cards) in
    elim (has kept c) as (λ v. cond v 1 0 + 2 * mask_of kept cards < 2 ^ suc (length cards)) [ true ↦ omega arith | false ↦ omega arith ]
