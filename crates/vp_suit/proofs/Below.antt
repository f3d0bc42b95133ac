-- Sums over the numbers below a bound.
use Rattle.std.proofs.Common.{◌≡◌, ◌⊎◌, inl, inr, ℕ, zero, suc, ◌+◌, ◌*◌, ◌<◌, sum_by, refl, ap, sym, ◌∙◌, arith}
use Rattle.std.proofs.lemmas.Bool.{cases_eq}
use Rattle.std.proofs.lemmas.List.Sums.{sum_by_push}
use Rattle.std.proofs.Math.Nat.{mul-add}
use Rattle.vp_sets.specs.Sets.{deck}

-- the sum of x over the numbers below n
pub below : (ℕ → ℕ) → ℕ → ℕ
below x zero = 0
below x (suc n) = below x n + x n

pub below-zero : (x : ℕ → ℕ) → below x 0 ≡ 0
unfolding below
below-zero x = refl

pub below-suc : (x : ℕ → ℕ) (n : ℕ) → below x (suc n) ≡ below x n + x n
unfolding below
below-suc x n = refl

-- it is the sum over a deck
pub sum_by-deck : (x : ℕ → ℕ) (n : ℕ) → sum_by x (deck n) ≡ below x n
unfolding below deck
sum_by-deck x zero = refl
sum_by-deck x (suc n) = sum_by_push x (deck n) n ∙ ap (λ s. s + x n) (sum_by-deck x n)

-- equal terms have equal sums
pub below-same : (x y : ℕ → ℕ) (n : ℕ) → ((i : ℕ) → i < n → x i ≡ y i) → below x n ≡ below y n
unfolding below
below-same x y zero h = refl
below-same x y (suc n) h =
    let a : below x n ≡ below y n = below-same x y n (λ i l. h i (omega arith)) in
    let b : x n ≡ y n = h n (omega arith) in
    omega arith

pub below-none : (x : ℕ → ℕ) (n : ℕ) → ((i : ℕ) → i < n → x i ≡ 0) → below x n ≡ 0
unfolding below
below-none x zero h = refl
below-none x (suc n) h =
    let a : below x n ≡ 0 = below-none x n (λ i l. h i (omega arith)) in
    let b : x n ≡ 0 = h n (omega arith) in
    omega arith

pub below-plus : (x y : ℕ → ℕ) (n : ℕ) → below (λ i. x i + y i) n ≡ below x n + below y n
unfolding below
below-plus x y zero = refl
below-plus x y (suc n) =
    let a : below (λ i. x i + y i) n ≡ below x n + below y n = below-plus x y n in
    omega arith

pub below-times : (k : ℕ) (x : ℕ → ℕ) (n : ℕ) → below (λ i. k * x i) n ≡ k * below x n
unfolding below
below-times k x zero = omega arith
below-times k x (suc n) =
    let a : below (λ i. k * x i) n ≡ k * below x n = below-times k x n in
    let b : k * (below x n + x n) ≡ k * below x n + k * x n = mul-add k (below x n) (x n) in
    omega arith

-- two sums change places
pub below-exchange : (f : ℕ → ℕ → ℕ) (m n : ℕ) → below (λ i. below (λ r. f i r) m) n ≡ below (λ r. below (λ i. f i r) n) m
unfolding below
below-exchange f m zero = sym (below-none (λ r. 0) m (λ i l. refl))
below-exchange f m (suc n) =
    let a : below (λ i. below (λ r. f i r) m) n ≡ below (λ r. below (λ i. f i r) n) m = below-exchange f m n in
    let b : below (λ r. below (λ i. f i r) n + f n r) m ≡ below (λ r. below (λ i. f i r) n) m + below (λ r. f n r) m = below-plus (λ r. below (λ i. f i r) n) (λ r. f n r) m in
    omega arith

-- a sum with one term
pub below-one : (x : ℕ → ℕ) (n r : ℕ) → r < n → ((i : ℕ) → i < n → (i ≡ r → ⊥) → x i ≡ 0) → below x n ≡ x r
unfolding below
below-one x zero r l h = absurd (omega arith)
below-one x (suc n) r l h =
    let e : (r ≡ n) ⊎ (r ≡ n → ⊥) = cases_eq r n in
    elim e [
      | inl s ↦
          let a : below x n ≡ 0 = below-none x n (λ i k. h i (omega arith) (λ t. absurd (omega arith))) in
          let b : x n ≡ x r = ap x (sym s) in
          omega arith
      | inr d ↦
          let a : below x n ≡ x r = below-one x n r (omega arith) (λ i k t. h i (omega arith) t) in
          let b : x n ≡ 0 = h n (omega arith) (λ t. d (sym t)) in
          omega arith
    ]
