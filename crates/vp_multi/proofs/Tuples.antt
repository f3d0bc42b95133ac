-- Sums over all lists of k members.
use Rattle.std.proofs.Common.{◌≡◌, ℕ, zero, suc, ◌+◌, ◌-◌, ◌*◌, ◌/◌, ◌^◌, ◌<◌, ◌≤◌, List, [], ◌∷◌, length, map, refl, ap, sym, ◌∙◌, arith}
use Rattle.std.specs.Prelude.{sum_by, flat_map}
use Rattle.std.proofs.lemmas.List.Sums.{sum_by-append, sum_by-cons}
use Rattle.std.proofs.Math.Nat.{mul-div_cancel}
use native.Mathlib.Numerals.{unary_clauses}
use Rattle.vp_multi.specs.Moments.{tuples, total_of, squares_of}

-- the sum over a flat_map is the sum of the sums
sum_flat : {A B : Type 0} (f : B → ℕ) (g : A → List B) (xs : List A) → sum_by f (flat_map g xs) ≡ sum_by (λ x. sum_by f (g x)) xs
sum_flat f g [] = refl
sum_flat f g (x ∷ xs) = sum_by-append f (g x) (flat_map g xs) ∙ (ap (λ n. sum_by f (g x) + n) (sum_flat f g xs) ∙ sym (sum_by-cons (λ x. sum_by f (g x)) x xs))

-- the sum over a map
sum_map : {A B : Type 0} (f : B → ℕ) (g : A → B) (xs : List A) → sum_by f (map g xs) ≡ sum_by (λ x. f (g x)) xs
sum_map f g [] = refl
sum_map f g (x ∷ xs) = sum_by-cons f (g x) (map g xs) ∙ (ap (λ n. f (g x) + n) (sum_map f g xs) ∙ sym (sum_by-cons (λ x. f (g x)) x xs))

-- equal functions have equal sums
sum_same : {A : Type 0} (f g : A → ℕ) (xs : List A) → ((x : A) → f x ≡ g x) → sum_by f xs ≡ sum_by g xs
sum_same f g [] h = refl
sum_same f g (x ∷ xs) h = let a = sum_by-cons f x xs in let b = sum_by-cons g x xs in let c = h x in let d = sum_same f g xs h in omega arith

-- a sum over the lists of one more member
one_more : {A : Type 0} (F : List A → ℕ) (k : ℕ) (xs : List A) → sum_by F (tuples (suc k) xs) ≡ sum_by (λ x. sum_by (λ t. F (x ∷ t)) (tuples k xs)) xs
unfolding tuples
one_more F k xs =
    sum_flat F (λ x. map (λ t. x ∷ t) (tuples k xs)) xs
    ∙ sum_same (λ x. sum_by F (map (λ t. x ∷ t) (tuples k xs))) (λ x. sum_by (λ t. F (x ∷ t)) (tuples k xs)) xs (λ x. sum_map F (λ t. x ∷ t) (tuples k xs))

-- sums of constants, multiples and three parts
sum_linear : {A : Type 0} (f : A → ℕ) (a b : ℕ) (xs : List A) → sum_by (λ x. a * f x + b) xs ≡ a * sum_by f xs + b * length xs
sum_linear f a b [] = omega arith
sum_linear f a b (x ∷ xs) =
    let ih = sum_linear f a b xs in
    let whole = sum_by-cons (λ x. a * f x + b) x xs in
    let part : a * sum_by f (x ∷ xs) ≡ a * f x + a * sum_by f xs = ap (λ n. a * n) (sum_by-cons f x xs) ∙ mul_add a (f x) (sum_by f xs) in
    let count : b * length (x ∷ xs) ≡ b + b * length xs = mul_suc b (length xs) in
    omega arith
  where
    mul_add : (w b c : ℕ) → w * (b + c) ≡ w * b + w * c
    mul_add w b c = omega arith

    mul_suc : (b n : ℕ) → b * suc n ≡ b + b * n
    mul_suc b n = omega arith

sum_quadratic : {A : Type 0} (f : A → ℕ) (a b c : ℕ) (xs : List A) → sum_by (λ x. a * (f x * f x) + b * f x + c) xs ≡ a * sum_by (λ x. f x * f x) xs + b * sum_by f xs + c * length xs
sum_quadratic f a b c [] = omega arith
sum_quadratic f a b c (x ∷ xs) =
    let ih = sum_quadratic f a b c xs in
    let whole = sum_by-cons (λ x. a * (f x * f x) + b * f x + c) x xs in
    let square : a * sum_by (λ x. f x * f x) (x ∷ xs) ≡ a * (f x * f x) + a * sum_by (λ x. f x * f x) xs = ap (λ n. a * n) (sum_by-cons (λ x. f x * f x) x xs) ∙ mul_add a (f x * f x) (sum_by (λ x. f x * f x) xs) in
    let part : b * sum_by f (x ∷ xs) ≡ b * f x + b * sum_by f xs = ap (λ n. b * n) (sum_by-cons f x xs) ∙ mul_add b (f x) (sum_by f xs) in
    let count : c * length (x ∷ xs) ≡ c + c * length xs = mul_suc c (length xs) in
    omega arith
  where
    mul_add : (w b c : ℕ) → w * (b + c) ≡ w * b + w * c
    mul_add w b c = omega arith

    mul_suc : (b n : ℕ) → b * suc n ≡ b + b * n
    mul_suc b n = omega arith

pub power_zero : (q : ℕ) → q ^ 0 ≡ 1
power_zero q = simp unary_clauses refl

pub power_suc : (q k : ℕ) → q ^ suc k ≡ q ^ k * q
power_suc q k = simp unary_clauses (omega arith)

-- how many lists there are
count_tuples : {A : Type 0} (k : ℕ) (xs : List A) → sum_by (λ t. 1) (tuples k xs) ≡ length xs ^ k
unfolding tuples
count_tuples zero xs = sym (power_zero (length xs))
count_tuples (suc k) xs =
    one_more (λ t. 1) k xs ∙ (sum_same (λ x. sum_by (λ t. 1) (tuples k xs)) (λ x. 0 * 0 + length xs ^ k) xs (λ x. count_tuples k xs ∙ zero_plus (length xs ^ k))
    ∙ (sum_linear (λ x. 0) 0 (length xs ^ k) xs ∙ power (length xs) k))
  where
    zero_plus : (n : ℕ) → n ≡ 0 * 0 + n
    zero_plus n = omega arith

    power : (q k : ℕ) → 0 * sum_by (λ x. 0) xs + q ^ k * q ≡ q ^ suc k
    power q k = let e = power_suc q k in omega arith

sum_ones : {A : Type 0} (xs : List A) → length xs ≡ sum_by (λ x. 1) xs
sum_ones [] = refl
sum_ones (x ∷ xs) = let ih = sum_ones xs in let e = sum_by-cons (λ x. 1) x xs in omega arith

next : {A : Type 0} (f : A → ℕ) (k : ℕ) (xs : List A) → total_of f (suc k) xs ≡ sum_by (λ x. sum_by (λ t. sum_by f (x ∷ t)) (tuples k xs)) xs
unfolding total_of
next f k xs = one_more (λ t. sum_by f t) k xs

next_squares : {A : Type 0} (f : A → ℕ) (k : ℕ) (xs : List A) → squares_of f (suc k) xs ≡ sum_by (λ x. sum_by (λ t. sum_by f (x ∷ t) * sum_by f (x ∷ t)) (tuples k xs)) xs
unfolding squares_of
next_squares f k xs = one_more (λ t. sum_by f t * sum_by f t) k xs

-- the sums with one more member
total_each : {A : Type 0} (f : A → ℕ) (k : ℕ) (xs : List A) (x : A) → sum_by (λ t. sum_by f (x ∷ t)) (tuples k xs) ≡ length xs ^ k * f x + total_of f k xs
unfolding total_of
total_each f k xs x =
    let split = sum_same (λ t. sum_by f (x ∷ t)) (λ t. 1 * sum_by f t + f x) (tuples k xs) (λ t. sum_by-cons f x t ∙ swap (f x) (sum_by f t)) in
    let linear = sum_linear (λ t. sum_by f t) 1 (f x) (tuples k xs) in
    let many : f x * length (tuples k xs) ≡ f x * length xs ^ k = ap (λ n. f x * n) (sum_ones (tuples k xs) ∙ count_tuples k xs) in
    split ∙ (linear ∙ last (sum_by (λ t. sum_by f t) (tuples k xs)) (f x) (length (tuples k xs)) (length xs ^ k) many)
  where
    swap : (a b : ℕ) → a + b ≡ 1 * b + a
    swap a b = omega arith

    last : (s a n m : ℕ) → a * n ≡ a * m → 1 * s + a * n ≡ m * a + s
    last s a n m e = omega arith

pub total_next : {A : Type 0} (f : A → ℕ) (k : ℕ) (xs : List A) → total_of f (suc k) xs ≡ length xs ^ k * sum_by f xs + total_of f k xs * length xs
total_next f k xs =
    next f k xs
    ∙ (sum_same (λ x. sum_by (λ t. sum_by f (x ∷ t)) (tuples k xs)) (λ x. length xs ^ k * f x + total_of f k xs) xs (λ x. total_each f k xs x)
    ∙ sum_linear f (length xs ^ k) (total_of f k xs) xs)

squares_each : {A : Type 0} (f : A → ℕ) (k : ℕ) (xs : List A) (x : A)
    → sum_by (λ t. sum_by f (x ∷ t) * sum_by f (x ∷ t)) (tuples k xs) ≡ length xs ^ k * (f x * f x) + 2 * total_of f k xs * f x + squares_of f k xs
unfolding total_of squares_of
squares_each f k xs x =
    let split = sum_same (λ t. sum_by f (x ∷ t) * sum_by f (x ∷ t)) (λ t. 1 * (sum_by f t * sum_by f t) + 2 * f x * sum_by f t + f x * f x) (tuples k xs)
    (λ t. ap (λ n. n * n) (sum_by-cons f x t) ∙ square (f x) (sum_by f t)) in
    let quadratic = sum_quadratic (λ t. sum_by f t) 1 (2 * f x) (f x * f x) (tuples k xs) in
    let many : f x * f x * length (tuples k xs) ≡ f x * f x * length xs ^ k = ap (λ n. f x * f x * n) (sum_ones (tuples k xs) ∙ count_tuples k xs) in
    split ∙ (quadratic ∙ last (sum_by (λ t. sum_by f t * sum_by f t) (tuples k xs)) (sum_by (λ t. sum_by f t) (tuples k xs)) (f x) (length (tuples k xs)) (length xs ^ k) many)
  where
    square : (a b : ℕ) → (a + b) * (a + b) ≡ 1 * (b * b) + 2 * a * b + a * a
    square a b = omega arith

    last : (u s a n m : ℕ) → a * a * n ≡ a * a * m → 1 * u + 2 * a * s + a * a * n ≡ m * (a * a) + 2 * s * a + u
    last u s a n m e = omega arith

pub squares_next : {A : Type 0} (f : A → ℕ) (k : ℕ) (xs : List A)
    → squares_of f (suc k) xs ≡ length xs ^ k * sum_by (λ x. f x * f x) xs + 2 * total_of f k xs * sum_by f xs + squares_of f k xs * length xs
squares_next f k xs =
    next_squares f k xs
    ∙ (sum_same (λ x. sum_by (λ t. sum_by f (x ∷ t) * sum_by f (x ∷ t)) (tuples k xs)) (λ x. length xs ^ k * (f x * f x) + 2 * total_of f k xs * f x + squares_of f k xs) xs (λ x. squares_each f k xs x)
    ∙ sum_quadratic f (length xs ^ k) (2 * total_of f k xs) (squares_of f k xs) xs)

-- ---- in closed form

total_ring : (s q p k : ℕ) → (p * s + k * s * p) * q ≡ suc k * s * (p * q)
total_ring s q p k = omega arith

total_close : (t s q p r k : ℕ) → t * q ≡ k * s * p → r ≡ p * q → (p * s + t * q) * q ≡ suc k * s * r
total_close t s q p r k e f = rw (e, f) (total_ring s q p k)

total_none : (s q : ℕ) → 0 * q ≡ 0 * s * q ^ 0
total_none s q = omega arith

pub total_is : {A : Type 0} (f : A → ℕ) (k : ℕ) (xs : List A) → total_of f k xs * length xs ≡ k * sum_by f xs * length xs ^ k
unfolding total_of tuples
total_is f zero xs = total_none (sum_by f xs) (length xs)
total_is f (suc k) xs = ap (λ n. n * length xs) (total_next f k xs) ∙ total_close (total_of f k xs) (sum_by f xs) (length xs) (length xs ^ k) (length xs ^ suc k) k (total_is f k xs) (power_suc (length xs) k)

pairs : (k : ℕ) → k * (k - 1) + 2 * k ≡ suc k * (suc k - 1)
pairs zero = omega arith
pairs (suc k) = step k (suc k - 1) (suc (suc k) - 1) (omega arith) (omega arith)
  where
    step : (k a b : ℕ) → a ≡ k → b ≡ suc k → suc k * a + 2 * suc k ≡ suc (suc k) * b
    step k a b e f = rw (e, f) (omega arith)

squares_ring : (u t w s q p : ℕ) → (p * w + 2 * t * s + u * q) * (q * q) ≡ p * w * (q * q) + 2 * (t * q) * (s * q) + u * (q * q) * q
squares_ring u t w s q p = omega arith

squares_gather : (w s q p k j : ℕ) → p * w * (q * q) + 2 * (k * s * p) * (s * q) + (k * w * q + j * (s * s)) * p * q ≡ (suc k * w * q + (j + 2 * k) * (s * s)) * (p * q)
squares_gather w s q p k j = omega arith

squares_close : (u t w s q p r k j i : ℕ) → t * q ≡ k * s * p → u * (q * q) ≡ (k * w * q + j * (s * s)) * p → r ≡ p * q → j + 2 * k ≡ i
    → (p * w + 2 * t * s + u * q) * (q * q) ≡ (suc k * w * q + i * (s * s)) * r
squares_close u t w s q p r k j i e f g h = squares_ring u t w s q p ∙ (rw (e, f, g, ← h) (squares_gather w s q p k j))

squares_none : (w s q : ℕ) → 0 * (q * q) ≡ (0 * w * q + 0 * (0 - 1) * (s * s)) * q ^ 0
squares_none w s q = omega arith

pub squares_is : {A : Type 0} (f : A → ℕ) (k : ℕ) (xs : List A)
    → squares_of f k xs * (length xs * length xs) ≡ (k * sum_by (λ x. f x * f x) xs * length xs + k * (k - 1) * (sum_by f xs * sum_by f xs)) * length xs ^ k
unfolding squares_of tuples
squares_is f zero xs = squares_none (sum_by (λ x. f x * f x) xs) (sum_by f xs) (length xs)
squares_is f (suc k) xs =
    ap (λ n. n * (length xs * length xs)) (squares_next f k xs)
    ∙ squares_close (squares_of f k xs) (total_of f k xs) (sum_by (λ x. f x * f x) xs) (sum_by f xs) (length xs) (length xs ^ k) (length xs ^ suc k) k (k * (k - 1)) (suc k * (suc k - 1))
    (total_is f k xs) (squares_is f k xs) (power_suc (length xs) k) (pairs k)

-- ---- over the common denominator: value * q = s * l, and value2 * q = w * l

pub cancel : (a b q : ℕ) → 0 < q → a * q ≡ b * q → a ≡ b
cancel a b q pos e = sym (mul-div_cancel a pos) ∙ (ap (λ n. n / q) e ∙ mul-div_cancel b pos)

-- the sum of the totals times the common denominator
pub first_total : (t s q p k l value : ℕ) → 0 < q → t * q ≡ k * s * p → value * q ≡ s * l → t * l ≡ k * value * p
first_total t s q p k l value pos e f = cancel (t * l) (k * value * p) q pos (swap t l q ∙ (rw e (move k s p l ∙ (rw (← f) (back k value q p)))))
  where
    swap : (t l q : ℕ) → t * l * q ≡ t * q * l
    swap t l q = omega arith

    move : (k s p l : ℕ) → k * s * p * l ≡ k * (s * l) * p
    move k s p l = omega arith

    back : (k value q p : ℕ) → k * (value * q) * p ≡ k * value * p * q
    back k value q p = omega arith

-- the sum of the squares of the totals times the square of the common denominator
pub second_total : (u w s q p k j l value value_2 : ℕ) → 0 < q → u * (q * q) ≡ (k * w * q + j * (s * s)) * p → value * q ≡ s * l → value_2 * q ≡ w * l
    → u * l * l ≡ (k * value_2 * l + j * (value * value)) * p
second_total u w s q p k j l value value_2 pos e f g = cancel (u * l * l) ((k * value_2 * l + j * (value * value)) * p) (q * q) (grind arith)
    (swap u l q ∙ (rw e (move w s q p k j l ∙ (rw (← f, ← g) (back q p k j l value value_2)))))
  where
    swap : (u l q : ℕ) → u * l * l * (q * q) ≡ u * (q * q) * l * l
    swap u l q = omega arith

    move : (w s q p k j l : ℕ) → (k * w * q + j * (s * s)) * p * l * l ≡ (k * (w * l) * q * l + j * ((s * l) * (s * l))) * p
    move w s q p k j l = omega arith

    back : (q p k j l value value_2 : ℕ) → (k * (value_2 * q) * q * l + j * ((value * q) * (value * q))) * p ≡ (k * value_2 * l + j * (value * value)) * p * (q * q)
    back q p k j l value value_2 = omega arith

group : (k s l : ℕ) → k * s * l ≡ k * (s * l)
group k s l = omega arith

squared : (k a : ℕ) → k * k * (a * a) ≡ k * a * (k * a)
squared k a = omega arith

once : (k : ℕ) → k * (k - 1) + k ≡ k * k
once zero = omega arith
once (suc k) = one k (suc k - 1) (omega arith)
  where
    one : (k m : ℕ) → m ≡ k → suc k * m + suc k ≡ suc k * suc k
    one k m e = rw e (omega arith)

gather_parts : (n k j q d : ℕ) → n * (k * (q + d) + j * q) ≡ k * (n * d) + (j + k) * (n * q)
gather_parts n k j q d = omega arith

spread_parts : (n k square d e : ℕ) → k * (n * d) + k * k * (square + e) ≡ k * k * square + (k * (n * d) + k * k * e)
spread_parts n k square d e = omega arith

parts : {whole other : ℕ} (n k j square sl q d e : ℕ) → sl ≡ q + d → n * q ≡ square + e → j + k ≡ k * k → whole ≡ n * (k * sl + j * q) → k * k * square ≡ other
    → whole ≡ other + (k * (n * d) + k * k * e)
parts n k j square sl q d e is_sl is_nq is_j whole other =
    whole ∙ (ap (λ m. n * (k * m + j * q)) is_sl ∙ (gather_parts n k j q d ∙ (ap (λ m. k * (n * d) + m * (n * q)) is_j ∙ (ap (λ m. k * (n * d) + k * k * m) is_nq
    ∙ (spread_parts n k square d e ∙ ap (λ m. m + (k * (n * d) + k * k * e)) other)))))

-- the variance of k hands, by its two parts
pub parts_law : (n k a s q l : ℕ) → q ≤ s * l → a * a ≤ n * q
    → n * (k * s * l + k * (k - 1) * q) ≡ k * a * (k * a) + (k * (n * (s * l - q)) + k * k * (n * q - a * a))
parts_law n k a s q l within between =
    parts n k (k * (k - 1)) (a * a) (s * l) q (s * l - q) (n * q - a * a) (omega arith) (omega arith) (once k) (ap (λ m. n * (m + k * (k - 1) * q)) (group k s l)) (squared k a)
