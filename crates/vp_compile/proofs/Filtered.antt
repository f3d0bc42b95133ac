-- Rising places as the places that pass a test.
use Rattle.std.proofs.Common.{◌≡◌, ℕ, zero, suc, ◌+◌, ◌*◌, ◌<◌, ◌≤◌, Bool, true, false, cond, List, [], ◌∷◌, length, get_or, refl, arith, subst, ap, ◌∙◌, inl, inr}
use Rattle.std.specs.List.{Contains, range_with_len, sum_by, count_by, filter}
use Rattle.std.proofs.lemmas.Bool.{cases_lt, cases_Bool}
use Rattle.std.proofs.lemmas.List.FromFn.{length-range_with_len, get_or-range_with_len}
use Rattle.std.proofs.lemmas.List.Elements.{All-filter, All-contains, filter_passes}
use Rattle.std.proofs.lemmas.List.Kept.{IsStrictlyIncreasing-filter}
use Rattle.std.proofs.lemmas.List.Sums.{sum_by-cons, length-filter, count_by-le-length}
use Rattle.vp_compile.specs.Excepted.{ArePlaces}
use Rattle.vp_compile.proofs.Sums.{Rises, sum_from, sum_range}

-- sums over the places that pass
sum_filter : (f : ℕ → ℕ) (t : ℕ → Bool) (xs : List ℕ) → sum_by f (filter t xs) ≡ sum_by (λ x. cond (t x) (f x) 0) xs
sum_filter f t [] = refl
sum_filter f t (x ∷ xs) = elim (cases_Bool (t x)) as (λ _. sum_by f (filter t (x ∷ xs)) ≡ sum_by (λ x. cond (t x) (f x) 0) (x ∷ xs)) [
  | inl e ↦ rw (sum_by-cons (λ x. cond (t x) (f x) 0) x xs, e, sum_by-cons f x (filter t xs), sum_filter f t xs) refl
  | inr e ↦ rw (sum_by-cons (λ x. cond (t x) (f x) 0) x xs, e, sum_filter f t xs) (omega arith)
]

pub sum_passed : (f : ℕ → ℕ) (t : ℕ → Bool) (n : ℕ) → sum_by f (filter t (range_with_len 0 n)) ≡ sum_from (λ x. cond (t x) (f x) 0) 0 n
sum_passed f t n = sum_filter f t (range_with_len 0 n) ∙ sum_range (λ x. cond (t x) (f x) 0) 0 n

pub number_passed : (t : ℕ → Bool) (n : ℕ) → length (filter t (range_with_len 0 n)) ≡ sum_from (λ x. cond (t x) 1 0) 0 n
number_passed t n = length-filter t (range_with_len 0 n) ∙ sum_range (λ x. cond (t x) 1 0) 0 n

-- sums of terms that are no greater
pub sum_le : (f g : ℕ → ℕ) (lo k : ℕ) → ((x : ℕ) → x < lo + k → f x ≤ g x) → sum_from f lo k ≤ sum_from g lo k
unfolding sum_from
sum_le f g lo zero h = omega arith
sum_le f g lo (suc k) h = omega (arith, h lo (omega arith), sum_le f g (lo + 1) k (λ x l. h x (omega arith)))

pub sum_of_two : (f g h : ℕ → ℕ) (lo k : ℕ) → ((x : ℕ) → x < lo + k → f x ≤ g x + h x) → sum_from f lo k ≤ sum_from g lo k + sum_from h lo k
unfolding sum_from
sum_of_two f g h lo zero a = omega arith
sum_of_two f g h lo (suc k) a = omega (arith, a lo (omega arith), sum_of_two f g h (lo + 1) k (λ x l. a x (omega arith)))

pub sum_of_times : (t : ℕ) (f g h : ℕ → ℕ) (lo k : ℕ) → ((x : ℕ) → f x + g x * t ≤ h x) → sum_from f lo k + sum_from g lo k * t ≤ sum_from h lo k
unfolding sum_from
sum_of_times t f g h lo zero a = omega arith
sum_of_times t f g h lo (suc k) a = omega (arith, a lo, sum_of_times t f g h (lo + 1) k a)

-- the places that pass
pub are_places : (t : ℕ → Bool) (n : ℕ) → ArePlaces n (filter t (range_with_len 0 n))
are_places t n = record {
  rising = IsStrictlyIncreasing-filter t (range_with_len 0 n) (λ k h. omega (arith, length-range_with_len 0 n, get_or-range_with_len 0 n k 0 (omega (arith, length-range_with_len 0 n)), get_or-range_with_len 0 n (k + 1) 0 (omega (arith, length-range_with_len 0 n))));
  below = All-filter t (λ place. place < n) (range_with_len 0 n) (λ k d h. omega (arith, length-range_with_len 0 n, get_or-range_with_len 0 n k d (omega (arith, length-range_with_len 0 n))));
}

pub passes : (t : ℕ → Bool) (xs : List ℕ) (x : ℕ) → Contains (filter t xs) x → t x ≡ true
passes t xs x c = All-contains (λ x. t x ≡ true) (filter t xs) x (filter_passes t xs) c

behind : (x y : ℕ) (xs : List ℕ) → Contains xs x → Contains (y ∷ xs) x
behind x y xs c = (suc c.0, omega (arith, c.1), c.2)

in_front : (x : ℕ) (xs : List ℕ) → Contains (x ∷ xs) x
in_front x xs = (0, omega arith, refl)

kept : (t : ℕ → Bool) (b : Bool) (x y : ℕ) (xs : List ℕ) → t x ≡ b → Contains (filter t xs) y → Contains (filter t (x ∷ xs)) y
kept t true x y xs e c = rw e (behind y x (filter t xs) c)
kept t false x y xs e c = rw e c

pub passed : (t : ℕ → Bool) (lo k x : ℕ) → lo ≤ x → x < lo + k → t x ≡ true → Contains (filter t (range_with_len lo k)) x
passed t lo zero x h l e = absurd (omega arith)
passed t lo (suc k) x h l e = elim (cases_lt lo x) as (λ _. Contains (filter t (range_with_len lo (suc k))) x) [
  | inl m ↦ kept t (t lo) lo x (range_with_len (lo + 1) k) refl (passed t (lo + 1) k x (omega arith) (omega arith) e)
  | inr m ↦ let is : lo ≡ x = omega arith in rw (is, e) (in_front x (filter t (range_with_len (x + 1) k)))
]

-- what stands in rising places
low : (lo n : ℕ) (ps : List ℕ) (k d : ℕ) → Rises lo n ps → k < length ps → lo ≤ get_or ps k d
low lo n [] k d r l = absurd (omega arith)
low lo n (p ∷ ps) zero d r l = r.0
low lo n (p ∷ ps) (suc k) d r l = omega (arith, r.0, low (p + 1) n ps k d r.2 (omega arith))

too_low : (lo n x : ℕ) (ps : List ℕ) → Rises lo n ps → x < lo → Contains ps x → ⊥
too_low lo n x ps r l c = omega (arith, low lo n ps c.0 x r c.1, c.2)

front_or_behind : (p x : ℕ) (ps : List ℕ) (k : ℕ) → k < length (p ∷ ps) → get_or (p ∷ ps) k x ≡ x → (p ≡ x → ⊥) → Contains ps x
front_or_behind p x ps zero l e n = absurd (n e)
front_or_behind p x ps (suc k) l e n = (k, omega arith, e)

not_behind : (p x : ℕ) (ps : List ℕ) → (p ≡ x → ⊥) → (Contains ps x → ⊥) → Contains (p ∷ ps) x → ⊥
not_behind p x ps n out c = out (front_or_behind p x ps c.0 c.1 c.2 n)

-- rising places are those that pass, where just these pass
filter_is : (t : ℕ → Bool) (lo k n : ℕ) (ps : List ℕ) → n ≡ lo + k → Rises lo n ps → ((x : ℕ) → Contains ps x → t x ≡ true) → ((x : ℕ) → lo ≤ x → x < n → (Contains ps x → ⊥) → t x ≡ false) → ps ≡ filter t (range_with_len lo k)
filter_is t lo zero n [] e r ins out = refl
filter_is t lo zero n (p ∷ ps) e r ins out = absurd (omega (arith, r.0, r.1))
filter_is t lo (suc k) n [] e r ins out = rw (out lo (omega arith) (omega arith) (λ c. omega (arith, c.1))) (filter_is t (lo + 1) k n [] (omega arith) tt ins (λ x a b c. out x (omega arith) b c))
filter_is t lo (suc k) n (p ∷ ps) e r ins out = elim (cases_lt lo p) as (λ _. p ∷ ps ≡ filter t (range_with_len lo (suc k))) [
  | inl l ↦ rw (out lo (omega arith) (omega (arith, r.1)) (too_low p n lo (p ∷ ps) (omega arith, r.1, r.2) l)) (filter_is t (lo + 1) k n (p ∷ ps) (omega arith) (omega arith, r.1, r.2) ins (λ x a b c. out x (omega arith) b c))
  | inr l ↦
      let is : p ≡ lo = omega (arith, r.0) in
      let passing : t lo ≡ true = subst (λ x. t x ≡ true) is (ins p (in_front p ps)) in
      rw (passing, is) (ap (λ q. lo ∷ q) (filter_is t (lo + 1) k n ps (omega arith) (subst (λ x. Rises (x + 1) n ps) is r.2) (λ x c. ins x (behind x p ps c)) (λ x a b c. out x (omega arith) b (not_behind p x ps (λ same. omega arith) c))))
]

pub same_places : (t : ℕ → Bool) (n : ℕ) (ps : List ℕ) → Rises 0 n ps → ((x : ℕ) → Contains ps x → t x ≡ true) → ((x : ℕ) → x < n → (Contains ps x → ⊥) → t x ≡ false) → ps ≡ filter t (range_with_len 0 n)
same_places t n ps r ins out = filter_is t 0 n n ps (omega arith) r ins (λ x a b c. out x b c)

-- a sum over all places is one over those beside which its terms are 0
pub covers : (f : ℕ → ℕ) (lo k n : ℕ) (ps : List ℕ) → n ≡ lo + k → Rises lo n ps → ((x : ℕ) → lo ≤ x → x < n → (Contains ps x → ⊥) → f x ≡ 0) → sum_from f lo k ≤ sum_by f ps
unfolding sum_from
covers f lo zero n ps e r out = omega arith
covers f lo (suc k) n [] e r out = omega (arith, out lo (omega arith) (omega arith) (λ c. omega (arith, c.1)), covers f (lo + 1) k n [] (omega arith) tt (λ x a b c. out x (omega arith) b c))
covers f lo (suc k) n (p ∷ ps) e r out = elim (cases_lt lo p) as (λ _. f lo + sum_from f (lo + 1) k ≤ sum_by f (p ∷ ps)) [
  | inl l ↦ omega (arith, out lo (omega arith) (omega (arith, r.1)) (too_low p n lo (p ∷ ps) (omega arith, r.1, r.2) l), covers f (lo + 1) k n (p ∷ ps) (omega arith) (omega arith, r.1, r.2) (λ x a b c. out x (omega arith) b c))
  | inr l ↦
      let is : p ≡ lo = omega (arith, r.0) in
      omega (arith, ap f is, sum_by-cons f p ps, covers f (lo + 1) k n ps (omega arith) (subst (λ x. Rises (x + 1) n ps) is r.2) (λ x a b c. out x (omega arith) b (not_behind p x ps (λ same. omega arith) c)))
]

-- one that fails makes fewer that pass
pub fewer_pass : (t : ℕ → Bool) (ps : List ℕ) (k d : ℕ) → k < length ps → t (get_or ps k d) ≡ false → count_by t ps < length ps
fewer_pass t [] k d l e = absurd (omega arith)
fewer_pass t (p ∷ ps) zero d l e = rw (sum_by-cons (λ x. cond (t x) 1 0) p ps, e) (omega (arith, count_by-le-length t ps))
fewer_pass t (p ∷ ps) (suc k) d l e = omega (arith, sum_by-cons (λ x. cond (t x) 1 0) p ps, fewer_pass t ps k d (omega arith) e, count_by-le-length t (p ∷ []))
