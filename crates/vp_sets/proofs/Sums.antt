-- Sums over lists: equal terms, factors, and sums that change places.
use Rattle.std.proofs.Common.{◌≡◌, ℕ, zero, suc, ◌+◌, ◌*◌, List, [], ◌∷◌, length, refl, sym, ap, ◌∙◌, arith}
use Rattle.std.proofs.Math.Path.{fun_ext}
use Rattle.std.proofs.Math.Nat.{mul_comm}
use Rattle.std.specs.List.{sum_by}
use Rattle.std.proofs.lemmas.List.Sums.{sum_by-cons, sum_by_push}
use Rattle.vp_sets.specs.Sets.{deck}
use Rattle.vp_sets.proofs.Decks.{deck-suc}
use Rattle.vp_sets.proofs.Sublists.{sum_by-plus}

-- functions that agree have the same sum
pub sum_same : {A : Type 0} (f g : A → ℕ) (xs : List A) → ((x : A) → f x ≡ g x) → sum_by f xs ≡ sum_by g xs
sum_same {A = A} f g xs e = ap (λ (h : A → ℕ). sum_by h xs) (fun_ext e)

-- a factor before the sum, and behind it
pub sum_times : {A : Type 0} (k : ℕ) (f : A → ℕ) (xs : List A) → k * sum_by f xs ≡ sum_by (λ x. k * f x) xs
sum_times k f [] = omega arith
sum_times k f (x ∷ xs) =
    ap (λ n. k * n) (sum_by-cons f x xs) ∙ spread k (f x) (sum_by f xs) ∙ ap (λ n. k * f x + n) (sum_times k f xs) ∙ sym (sum_by-cons (λ x. k * f x) x xs)
  where
    spread : (k a b : ℕ) → k * (a + b) ≡ k * a + k * b
    spread k a b = omega arith

pub sum_of_times : {A : Type 0} (f : A → ℕ) (k : ℕ) (xs : List A) → sum_by (λ x. f x * k) xs ≡ sum_by f xs * k
sum_of_times f k xs = sum_same (λ x. f x * k) (λ x. k * f x) xs (λ x. mul_comm (f x) k) ∙ sym (sum_times k f xs) ∙ mul_comm k (sum_by f xs)

-- a sum of equal terms
pub sum_const : {A : Type 0} (k : ℕ) (xs : List A) → sum_by (λ x. k) xs ≡ length xs * k
sum_const k [] = omega arith
sum_const k (x ∷ xs) = sum_by-cons (λ y. k) x xs ∙ ap (λ n. k + n) (sum_const k xs) ∙ one_more k (length xs)
  where
    one_more : (k n : ℕ) → k + n * k ≡ suc n * k
    one_more k n = omega arith

pub sum_none : {A : Type 0} (xs : List A) → sum_by (λ x. 0) xs ≡ 0
sum_none xs = let e : sum_by (λ x. 0) xs ≡ length xs * 0 = sum_const 0 xs in omega arith

-- the last of the numbers below a bound, and none of them
pub last_place : (f : ℕ → ℕ) (m : ℕ) → sum_by f (deck (suc m)) ≡ sum_by f (deck m) + f m
last_place f m = ap (sum_by f) (deck-suc m) ∙ sum_by_push f (deck m) m

pub no_place : (f : ℕ → ℕ) → sum_by f (deck 0) ≡ 0
unfolding deck
no_place f = refl

-- two sums change places
pub exchanged : {A : Type 0} (h : ℕ → A → ℕ) (m : ℕ) (xs : List A) → sum_by (λ i. sum_by (h i) xs) (deck m) ≡ sum_by (λ x. sum_by (λ i. h i x) (deck m)) xs
exchanged h zero xs = no_place (λ i. sum_by (h i) xs) ∙ sym (sum_same (λ x. sum_by (λ i. h i x) (deck 0)) (λ x. 0) xs (λ x. no_place (λ i. h i x)) ∙ sum_none xs)
exchanged h (suc m) xs =
    last_place (λ i. sum_by (h i) xs) m
    ∙ ap (λ n. n + sum_by (h m) xs) (exchanged h m xs)
    ∙ sym (sum_by-plus (λ x. sum_by (λ i. h i x) (deck m)) (h m) xs)
    ∙ sum_same (λ x. sum_by (λ i. h i x) (deck m) + h m x) (λ x. sum_by (λ i. h i x) (deck (suc m))) xs (λ x. sym (last_place (λ i. h i x) m))
