-- The square of a sum is at most the number of its terms times the sum of their squares.
use Rattle.std.proofs.Common.{◌≡◌, ℕ, suc, ◌+◌, ◌-◌, ◌*◌, ◌<◌, ◌≤◌, List, [], ◌∷◌, length, arith, inl, inr}
use Rattle.std.specs.Prelude.{sum_by}
use Rattle.std.proofs.lemmas.Bool.{cases_lt}
use Rattle.std.proofs.lemmas.List.Sums.{sum_by-cons}
use Rattle.std.proofs.Math.Nat.{mul-le-mul_right}

further : (a b d : ℕ) → b ≡ a + d → 2 * a * b ≤ a * a + b * b
further a b d e = rw e (omega arith)

nearer : (a b d : ℕ) → a ≡ b + d → 2 * a * b ≤ a * a + b * b
nearer a b d e = rw e (omega arith)

two_products : (a b : ℕ) → 2 * a * b ≤ a * a + b * b
two_products a b = elim (cases_lt a b) as (λ _. 2 * a * b ≤ a * a + b * b) [ inl l ↦ further a b (b - a) (omega arith) | inr l ↦ nearer a b (a - b) (omega arith) ]

cross_more : (a b s w n : ℕ) → 2 * a * s ≤ n * (a * a) + w → 2 * a * b ≤ a * a + b * b → 2 * a * (b + s) ≤ suc n * (a * a) + (b * b + w)
cross_more a b s w n h two = omega arith

cross : {A : Type 0} (f : A → ℕ) (a : ℕ) (xs : List A) → 2 * a * sum_by f xs ≤ length xs * (a * a) + sum_by (λ x. f x * f x) xs
cross f a [] = omega arith
cross f a (x ∷ xs) = rw (sum_by-cons f x xs, sum_by-cons (λ x. f x * f x) x xs) (cross_more a (f x) (sum_by f xs) (sum_by (λ x. f x * f x) xs) (length xs) (cross f a xs) (two_products a (f x)))

square_more : (a s w n : ℕ) → s * s ≤ n * w → 2 * a * s ≤ n * (a * a) + w → (a + s) * (a + s) ≤ suc n * (a * a + w)
square_more a s w n h two = omega arith

pub square_of_sum : {A : Type 0} (f : A → ℕ) (xs : List A) → sum_by f xs * sum_by f xs ≤ length xs * sum_by (λ x. f x * f x) xs
square_of_sum f [] = omega arith
square_of_sum f (x ∷ xs) = rw (sum_by-cons f x xs, sum_by-cons (λ x. f x * f x) x xs) (square_more (f x) (sum_by f xs) (sum_by (λ x. f x * f x) xs) (length xs) (square_of_sum f xs) (cross f (f x) xs))

pub le_cancel : (a b m : ℕ) → 0 < m → a * m ≤ b * m → a ≤ b
le_cancel a b m pos h = elim (cases_lt b a) as (λ _. a ≤ b) [
  | inl l ↦
      let more : (b + 1) * m ≤ a * m = mul-le-mul_right m (omega arith) in
      let split : (b + 1) * m ≡ b * m + m = one_more b m in
      absurd (omega arith)
  | inr l ↦ l
]
  where
    one_more : (b m : ℕ) → (b + 1) * m ≡ b * m + m
    one_more b m = omega arith
