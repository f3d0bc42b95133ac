-- The sublists of a list, and sums over them.
use Rattle.std.proofs.Common.{◌≡◌, ℕ, zero, suc, ◌+◌, ◌*◌, ◌<◌, ◌≤◌, Bool, true, false, cond, List, [], ◌∷◌, map, filter, length, refl, ap, sym, ◌∙◌, arith, zero-add, length-append}
use Rattle.std.specs.List.{sum_by}
use Rattle.std.proofs.lemmas.List.{length-map}
use Rattle.std.proofs.lemmas.List.Sums.{sum_by-cons, sum_by-append}
use Rattle.vp_card.specs.Rising.{times, IsBelow, IsRising}
use Rattle.vp_sets.specs.Sets.{combos, choose}
use Rattle.vp_sets.proofs.Binomials.{choose-zero, choose-none, choose-suc}

-- y is made of some members of s, in their order
pub data Sub : List ℕ → List ℕ → Type 0 where
  nothing : Sub [] []
  take : {c : ℕ} {y s : List ℕ} → Sub y s → Sub (c ∷ y) (c ∷ s)
  skip : {c : ℕ} {y s : List ℕ} → Sub y s → Sub y (c ∷ s)

pub sub_below : (c : ℕ) {y s : List ℕ} → Sub y s → IsBelow c s → IsBelow c y
sub_below c nothing b = tt
sub_below c (take p) b = (b.0, sub_below c p b.1)
sub_below c (skip p) b = sub_below c p b.1

pub sub_rising : {y s : List ℕ} → Sub y s → IsRising s → IsRising y
sub_rising nothing r = tt
sub_rising (take {c} p) r = (sub_below c p r.0, sub_rising p r.1)
sub_rising (skip p) r = sub_rising p r.1

pub sub_times : (c : ℕ) {y s : List ℕ} → Sub y s → times c y ≤ times c s
sub_times c nothing = omega arith
sub_times c (take p) = omega (arith, sub_times c p)
sub_times c (skip p) = omega (arith, sub_times c p)

pub sub-filter : (p : ℕ → Bool) (s : List ℕ) → Sub (filter p s) s
sub-filter p [] = nothing
sub-filter p (c ∷ s) = elim (p c) as (λ v. Sub (cond v (c ∷ filter p s) (filter p s)) (c ∷ s)) [
  | true ↦ take (sub-filter p s)
  | false ↦ skip (sub-filter p s)
]

-- ---- sums over sublists

pub sum_by-map : {A B : Type 0} (f : B → ℕ) (g : A → B) (xs : List A) → sum_by f (map g xs) ≡ sum_by (λ x. f (g x)) xs
sum_by-map f g [] = refl
sum_by-map f g (x ∷ xs) =
    sum_by-cons f (g x) (map g xs) ∙ (ap (λ n. f (g x) + n) (sum_by-map f g xs) ∙ sym (sum_by-cons (λ x. f (g x)) x xs))

-- no member: the empty list
pub sum_combos-zero : (f : List ℕ → ℕ) (s : List ℕ) → sum_by f (combos 0 s) ≡ f []
unfolding combos
sum_combos-zero f s = zero-add (f [])

-- more members than there are
pub sum_combos-none : (f : List ℕ → ℕ) (k : ℕ) → sum_by f (combos (suc k) []) ≡ 0
unfolding combos
sum_combos-none f k = refl

-- the sublists with the first member, and those without it
pub sum_combos-cons : (f : List ℕ → ℕ) (k c : ℕ) (s : List ℕ)
    → sum_by f (combos (suc k) (c ∷ s)) ≡ sum_by (λ y. f (c ∷ y)) (combos k s) + sum_by f (combos (suc k) s)
unfolding combos
sum_combos-cons f k c s =
    sum_by-append f (map (λ y. c ∷ y) (combos k s)) (combos (suc k) s)
    ∙ ap (λ n. n + sum_by f (combos (suc k) s)) (sum_by-map f (λ y. c ∷ y) (combos k s))

-- sums of functions that agree on the sublists
pub sum_combos_agree : (f g : List ℕ → ℕ) (k : ℕ) (s : List ℕ) → ((y : List ℕ) → Sub y s → length y ≡ k → f y ≡ g y)
    → sum_by f (combos k s) ≡ sum_by g (combos k s)
sum_combos_agree f g zero s h = sum_combos-zero f s ∙ (h [] (sub_none s) refl ∙ sym (sum_combos-zero g s))
  where
    sub_none : (s : List ℕ) → Sub [] s
    sub_none [] = nothing
    sub_none (c ∷ s) = skip (sub_none s)
sum_combos_agree f g (suc k) [] h = sum_combos-none f k ∙ sym (sum_combos-none g k)
sum_combos_agree f g (suc k) (c ∷ s) h =
    let a : sum_by (λ y. f (c ∷ y)) (combos k s) ≡ sum_by (λ y. g (c ∷ y)) (combos k s) =
    sum_combos_agree (λ y. f (c ∷ y)) (λ y. g (c ∷ y)) k s (λ y p l. h (c ∷ y) (take p) (ap suc l)) in
    let b : sum_by f (combos (suc k) s) ≡ sum_by g (combos (suc k) s) = sum_combos_agree f g (suc k) s (λ y p l. h y (skip p) l) in
    rw (sum_combos-cons f k c s, sum_combos-cons g k c s, a, b)

-- a sum over fewer members than are asked
pub sum_combos-few : (f : List ℕ → ℕ) (k : ℕ) (s : List ℕ) → length s < k → sum_by f (combos k s) ≡ 0
sum_combos-few f zero s h = absurd (omega arith)
sum_combos-few f (suc k) [] h = sum_combos-none f k
sum_combos-few f (suc k) (c ∷ s) h =
    omega (arith, sum_combos-cons f k c s, sum_combos-few (λ y. f (c ∷ y)) k s (omega arith), sum_combos-few f (suc k) s (omega arith))

-- a bound on each term bounds the sum
pub sum_combos_le : (f : List ℕ → ℕ) (m k : ℕ) (s : List ℕ) → ((y : List ℕ) → f y ≤ m) → sum_by f (combos k s) ≤ m * choose (length s) k
sum_combos_le f m zero s h = rw (sum_combos-zero f s, choose-zero (length s)) (omega (arith, h []))
sum_combos_le f m (suc k) [] h = rw (sum_combos-none f k) (omega arith)
sum_combos_le f m (suc k) (c ∷ s) h =
    rw (sum_combos-cons f k c s, choose-suc (length s) k) (omega (arith, sum_combos_le (λ y. f (c ∷ y)) m k s (λ y. h (c ∷ y)), sum_combos_le f m (suc k) s h))

-- how many sublists there are
pub length-combos : (k : ℕ) (s : List ℕ) → length (combos k s) ≡ choose (length s) k
unfolding combos
length-combos zero s = sym (choose-zero (length s))
length-combos (suc k) [] = sym (choose-none k)
length-combos (suc k) (c ∷ s) =
    rw (length-append, length-map) (omega (arith, length-combos k s, length-combos (suc k) s, choose-suc (length s) k))

-- two sums over one list, added term by term
pub sum_by-plus : {A : Type 0} (f g : A → ℕ) (xs : List A) → sum_by (λ x. f x + g x) xs ≡ sum_by f xs + sum_by g xs
sum_by-plus f g [] = refl
sum_by-plus f g (x ∷ xs) =
    omega (arith, sum_by-cons (λ y. f y + g y) x xs, sum_by-cons f x xs, sum_by-cons g x xs, sum_by-plus f g xs)
