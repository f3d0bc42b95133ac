-- Binomial numbers.
use Rattle.std.proofs.Common.{◌≡◌, ◌⊎◌, inl, inr, ℕ, zero, suc, ◌+◌, ◌-◌, ◌*◌, ◌^◌, ◌<◌, ◌≤◌, refl, ap, ◌∙◌, arith, lit<}
use Rattle.std.proofs.Math.Nat.{suc-mul, pow-suc, pow-zero, mul-le-mul_left, pow-le-pow_left, mul_comm, le_trans, add-mul, pow-le-pow_right}
use Rattle.std.proofs.lemmas.Bool.{cases_lt}
use Rattle.vp_sets.specs.Sets.{choose}

pub choose-zero : (n : ℕ) → choose n 0 ≡ 1
unfolding choose
choose-zero n = refl

pub choose-none : (k : ℕ) → choose 0 (suc k) ≡ 0
unfolding choose
choose-none k = refl

pub choose-suc : (n k : ℕ) → choose (suc n) (suc k) ≡ choose n k + choose n (suc k)
unfolding choose
choose-suc n k = refl

-- more members than things
pub choose-few : (n k : ℕ) → n < k → choose n k ≡ 0
choose-few n zero h = omega arith
choose-few zero (suc k) h = choose-none k
choose-few (suc n) (suc k) h =
    let a : choose n k ≡ 0 = choose-few n k (omega arith) in
    let b : choose n (suc k) ≡ 0 = choose-few n (suc k) (omega arith) in
    omega (arith, choose-suc n k)

-- more things have no fewer sets
pub choose_le : (n m k : ℕ) → n ≤ m → choose n k ≤ choose m k
choose_le n m zero l = omega (arith, choose-zero n, choose-zero m)
choose_le n zero (suc k) l = let z : n ≡ 0 = omega arith in rw z (omega arith)
choose_le n (suc m) (suc k) l = elim (cases_lt m n) [
  | inl h ↦ let e : n ≡ suc m = omega arith in rw e (omega arith)
  | inr h ↦ omega (arith, choose-suc m k, choose_le n m (suc k) h)
]

single_sum : (k n a b e : ℕ) → suc k * (a + b) ≡ suc n * a → suc (suc k) * e ≡ suc n * b → suc (suc k) * ((a + b) + e) ≡ suc (suc n) * (a + b)
single_sum k n a b e p q =
    let p' : k * (a + b) + (a + b) ≡ n * a + a = rw (suc-mul, suc-mul) at p in
    let q' : k * e + e + e ≡ n * b + b = rw (suc-mul (suc k) e, suc-mul k e, suc-mul n b) at q in
    rw (suc-mul (suc k) ((a + b) + e), suc-mul k ((a + b) + e), suc-mul (suc n) (a + b), suc-mul n (a + b)) (omega arith)

single_step : (k n a b d e f : ℕ) → suc k * d ≡ suc n * a → suc (suc k) * e ≡ suc n * b → f ≡ d + e → d ≡ a + b → suc (suc k) * f ≡ suc (suc n) * d
single_step k n a b d e f p q r s =
    let p' : suc k * (a + b) ≡ suc n * a = rw s at p in
    rw (r, s) (single_sum k n a b e p' q)

-- a member of each set singled out: first the set, or first the member
pub choose_single : (n k : ℕ) → suc k * choose (suc n) (suc k) ≡ suc n * choose n k
choose_single zero zero = omega (arith, choose-suc 0 0, choose-none 0)
choose_single zero (suc k) =
    let e : choose 1 (suc (suc k)) ≡ 0 = choose-few 1 (suc (suc k)) (omega arith) in
    rw (e, choose-none k) (omega arith)
choose_single (suc n) zero =
    let h : 1 * choose (suc n) 1 ≡ suc n * choose n 0 = choose_single n zero in
    let i : choose (suc (suc n)) 1 ≡ choose (suc n) 0 + choose (suc n) 1 = choose-suc (suc n) 0 in
    let j : 1 * choose (suc n) 1 ≡ suc n * 1 = rw (choose-zero n) at h in
    rw (i, choose-zero (suc n)) (omega (arith, j))
choose_single (suc n) (suc k) =
    single_step k n (choose n k) (choose n (suc k)) (choose (suc n) (suc k)) (choose (suc n) (suc (suc k))) (choose (suc (suc n)) (suc (suc k))) (choose_single n k) (choose_single n (suc k)) (choose-suc (suc n) (suc k)) (choose-suc n k)

next_step : (k n a b d : ℕ) → suc k * d ≡ suc n * a → d ≡ a + b → suc k * b + k * a ≡ n * a
next_step k n a b d p q =
    let p' : suc k * (a + b) ≡ suc n * a = rw q at p in
    let p'' : k * (a + b) + (a + b) ≡ n * a + a = rw (suc-mul k (a + b), suc-mul n a) at p' in
    rw suc-mul (omega arith)

-- from the number of sets of k members to that of k + 1
pub choose_next : (n k : ℕ) → suc k * choose n (suc k) + k * choose n k ≡ n * choose n k
choose_next n k = next_step k n (choose n k) (choose n (suc k)) (choose (suc n) (suc k)) (choose_single n k) (choose-suc n k)

-- a bound that needs no division
pub choose_le_pow : (n k : ℕ) → choose n k ≤ n ^ k
choose_le_pow n zero = rw (choose-zero n, pow-zero) (omega arith)
choose_le_pow zero (suc k) = rw (choose-none k) (omega arith)
choose_le_pow (suc n) (suc k) =
    let a : choose n k ≤ suc n ^ k = le_trans (choose_le_pow n k) (pow-le-pow_left (omega arith) k) in
    let b : choose n (suc k) ≤ n * suc n ^ k = le_trans (choose_le_pow n (suc k)) (rw (pow-suc n k, mul_comm (n ^ k) n) (mul-le-mul_left n (pow-le-pow_left (omega arith) k))) in
    rw (choose-suc n k, pow-suc (suc n) k, mul_comm (suc n ^ k) (suc n), suc-mul n (suc n ^ k)) (omega arith)

next_ratio : (n k a b : ℕ) → (n < k → a ≡ 0) → suc k * b + k * a ≡ n * a → suc k * b ≡ a * (n - k)
next_ratio n k a b none h =
    let e : (n < k) ⊎ (k ≤ n) = cases_lt n k in
    elim e [
      | inl l ↦
          let z : a ≡ 0 = none l in
          let h' : suc k * b + k * 0 ≡ n * 0 = rw z at h in
          rw z (omega arith)
      | inr l ↦
          let s : n ≡ (n - k) + k = omega arith in
          let t : n * a ≡ (n - k) * a + k * a = ap (λ m. m * a) s ∙ add-mul (n - k) k a in
          rw (mul_comm a (n - k)) (omega arith)
    ]

-- from the number of sets of k members to that of k + 1, as a product
pub choose_times : (n k : ℕ) → suc k * choose n (suc k) ≡ choose n k * (n - k)
choose_times n k = next_ratio n k (choose n k) (choose n (suc k)) (choose-few n k) (choose_next n k)

-- no number of sets of the decks is large
pub choose_small : (n k : ℕ) → n ≤ 54 → k ≤ 5 → choose n k ≤ 459165024
choose_small n k a b =
    let p : n ^ k ≤ 54 ^ k = pow-le-pow_left a k in
    let q : 54 ^ k ≤ 54 ^ 5 = pow-le-pow_right (lit< tt) b in
    le_trans (choose_le_pow n k) (le_trans p q)

-- there is a choice where there are members enough
pub choose_pos : (n k : ℕ) → k ≤ n → 0 < choose n k
choose_pos n zero h = omega (arith, choose-zero n)
choose_pos zero (suc k) h = absurd (omega arith)
choose_pos (suc n) (suc k) h =
    let p : 0 < choose n k = choose_pos n k (omega arith) in
    omega (arith, choose-suc n k)
