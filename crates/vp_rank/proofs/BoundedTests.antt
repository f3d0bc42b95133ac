-- What a test over the numbers below a bound says.
use Rattle.std.proofs.Common.{◌≡◌, ℕ, ◌+◌, ◌<◌, ◌≤◌, Bool, true, false, refl, sym, ◌∙◌, subst, inl, inr, arith, suc, zero}
use Rattle.std.specs.List.{list_any, list_all, range_with_len}
use Rattle.std.proofs.lemmas.Bool.{or_cases, or_left, or_right, and_parts, and_from, false≢true, cases_eq}
use Rattle.vp_rank.specs.Bounded.{some_below, all_below}

-- two tests that hold together are the same
pub same_tests : (a b : Bool) → (a ≡ true → b ≡ true) → (b ≡ true → a ≡ true) → a ≡ b
same_tests true true f g = refl
same_tests true false f g = sym (f refl)
same_tests false true f g = g refl
same_tests false false f g = refl

-- a number from `a` on, below `a + n`, at which the test holds
pub record Found (a n : ℕ) (test : ℕ → Bool) : Type 0 where
  pub at : ℕ
  pub from : a ≤ at
  pub below : at < a + n
  pub holds : test at ≡ true

any_range_to : (n a : ℕ) (test : ℕ → Bool) → list_any test (range_with_len a n) ≡ true → Found a n test
any_range_to zero a test h = absurd (false≢true h)
any_range_to (suc n) a test h =
    elim (or_cases (test a) (list_any test (range_with_len (a + 1) n)) h) [
      | inl here ↦ record { at = a; from = omega arith; below = omega arith; holds = here }
      | inr rest ↦
          let found : Found (a + 1) n test = any_range_to n (a + 1) test rest in
          record { at = found.at; from = omega (arith, found.from); below = omega (arith, found.below); holds = found.holds }
    ]

any_range_from : (n a k : ℕ) (test : ℕ → Bool) → a ≤ k → k < a + n → test k ≡ true → list_any test (range_with_len a n) ≡ true
any_range_from zero a k test low high h = absurd (omega arith)
any_range_from (suc n) a k test low high h =
    elim (cases_eq a k) [
      | inl e ↦ or_left (test a) (list_any test (range_with_len (a + 1) n)) (subst (λ (x : ℕ). test x ≡ true) (sym e) h)
      | inr ne ↦ or_right (test a) (list_any test (range_with_len (a + 1) n))
          (any_range_from n (a + 1) k test (omega arith) (omega arith) h)
    ]

all_range_at : (n a k : ℕ) (test : ℕ → Bool) → list_all test (range_with_len a n) ≡ true → a ≤ k → k < a + n → test k ≡ true
all_range_at zero a k test h low high = absurd (omega arith)
all_range_at (suc n) a k test h low high =
    let both = and_parts (test a) (list_all test (range_with_len (a + 1) n)) h in
    elim (cases_eq a k) [
      | inl e ↦ subst (λ (x : ℕ). test x ≡ true) e both.0
      | inr ne ↦ all_range_at n (a + 1) k test both.1 (omega arith) (omega arith)
    ]

all_range_from : (n a : ℕ) (test : ℕ → Bool) → ((k : ℕ) → a ≤ k → k < a + n → test k ≡ true) → list_all test (range_with_len a n) ≡ true
all_range_from zero a test h = refl
all_range_from (suc n) a test h =
    and_from (test a) (list_all test (range_with_len (a + 1) n)) (h a (omega arith) (omega arith))
    (all_range_from n (a + 1) test (λ k low high. h k (omega arith) (omega arith)))

-- some number below n at which the test holds
pub record Below (n : ℕ) (test : ℕ → Bool) : Type 0 where
  pub at : ℕ
  pub below : at < n
  pub holds : test at ≡ true

pub some_below-to : (n : ℕ) (test : ℕ → Bool) → some_below n test ≡ true → Below n test
unfolding some_below
some_below-to n test h =
    let found : Found 0 n test = any_range_to n 0 test h in
    record { at = found.at; below = omega (arith, found.below); holds = found.holds }

pub some_below-from : (n : ℕ) (test : ℕ → Bool) (k : ℕ) → k < n → test k ≡ true → some_below n test ≡ true
unfolding some_below
some_below-from n test k below h = any_range_from n 0 k test (omega arith) (omega arith) h

pub all_below-at : (n : ℕ) (test : ℕ → Bool) (k : ℕ) → all_below n test ≡ true → k < n → test k ≡ true
unfolding all_below
all_below-at n test k h below = all_range_at n 0 k test h (omega arith) (omega arith)

pub all_below-from : (n : ℕ) (test : ℕ → Bool) → ((k : ℕ) → k < n → test k ≡ true) → all_below n test ≡ true
unfolding all_below
all_below-from n test h = all_range_from n 0 test (λ k low high. h k (omega arith))

-- tests that agree below n
pub some_below-same : (n : ℕ) (p q : ℕ → Bool) → ((k : ℕ) → k < n → p k ≡ q k) → some_below n p ≡ some_below n q
some_below-same n p q same =
    same_tests (some_below n p) (some_below n q)
    (λ h. let f : Below n p = some_below-to n p h in some_below-from n q f.at f.below (sym (same f.at f.below) ∙ f.holds))
    (λ h. let f : Below n q = some_below-to n q h in some_below-from n p f.at f.below (same f.at f.below ∙ f.holds))
