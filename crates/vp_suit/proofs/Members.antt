-- Members of lists of numbers, and how many different ones there are.
use Rattle.std.proofs.Common.{◌≡◌, ◌⊎◌, inl, inr, ℕ, zero, suc, ◌+◌, ◌<◌, ◌≤◌, Bool, true, false, cond, ◌&&◌, ◌||◌, ◌==◌, leb, List, [], ◌∷◌, ◌++◌, length, map, refl, ap, sym, ◌∙◌, arith}
use Rattle.std.specs.List.{list_any, list_all}
use Rattle.std.proofs.lemmas.Bool.{cases_lt, cases_eq, eq-eqb, ne_eqb, eqb-true, cond-true, cond-false, cases_Bool, or_cases, or_left, or_right, and_parts, and_from, le-leb, leb-true, false≢true}
use Rattle.std.proofs.lemmas.Bool.Decides.{nat_tests}
use Rattle.vp_sets.specs.Sets.{deck, has}
use Rattle.vp_suit.specs.Images.{different, is_least}
use Rattle.vp_suit.proofs.Below.{below, below-same, below-plus, below-none, below-one}

-- a test that some member passes, at a list with one more at the end
list_any-push : {X : Type 0} (p : X → Bool) (xs : List X) (x : X) → list_any p (xs ++ x ∷ []) ≡ (list_any p xs || p x)
list_any-push p [] x = grind (arith, nat_tests)
list_any-push p (y ∷ ys) x =
    let a : list_any p (ys ++ x ∷ []) ≡ (list_any p ys || p x) = list_any-push p ys x in
    grind (arith, nat_tests)

list_all-push : {X : Type 0} (p : X → Bool) (xs : List X) (x : X) → list_all p (xs ++ x ∷ []) ≡ (list_all p xs && p x)
list_all-push p [] x = grind (arith, nat_tests)
list_all-push p (y ∷ ys) x =
    let a : list_all p (ys ++ x ∷ []) ≡ (list_all p ys && p x) = list_all-push p ys x in
    grind (arith, nat_tests)

map-push : {X Y : Type 0} (f : X → Y) (xs : List X) (x : X) → map f (xs ++ x ∷ []) ≡ map f xs ++ f x ∷ []
map-push f [] x = refl
map-push f (y ∷ ys) x = ap (λ r. f y ∷ r) (map-push f ys x)

-- the values of f at the numbers below m
pub has_value : (f : ℕ → ℕ) (m t : ℕ) → t < m → has (map f (deck m)) (f t) ≡ true
unfolding has deck
has_value f zero t l = absurd (omega arith)
has_value f (suc m) t l =
    let push : map f (deck m ++ m ∷ []) ≡ map f (deck m) ++ f m ∷ [] = map-push f (deck m) m in
    let e : (t ≡ m) ⊎ (t ≡ m → ⊥) = cases_eq t m in
    rw (push, list_any-push) (elim e [
      | inl s ↦ or_right _ _ (eq-eqb (f m) (f t) (ap f (sym s)))
      | inr d ↦ or_left _ _ (has_value f m t (omega arith))
    ])

-- a number that is one of them is the value at some place
pub record Value (f : ℕ → ℕ) (m v : ℕ) : Type 0 where
  pub at : ℕ
  pub inside : at < m
  pub is : f at ≡ v

pub value_of : (f : ℕ → ℕ) (m v : ℕ) → has (map f (deck m)) v ≡ true → Value f m v
unfolding has deck
value_of f zero v h = absurd (false≢true h)
value_of f (suc m) v h =
    let push : map f (deck m ++ m ∷ []) ≡ map f (deck m) ++ f m ∷ [] = map-push f (deck m) m in
    let k : (has (map f (deck m)) v || (f m == v)) ≡ true = rw (push, list_any-push) at h in
    elim (or_cases _ _ k) [
      | inl a ↦ let w = value_of f m v a in record { at = w.at; inside = omega arith; is = w.is }
      | inr a ↦ record { at = m; inside = omega arith; is = eqb-true (f m) v a }
    ]

-- the least of them
pub least_at : (x : ℕ) (f : ℕ → ℕ) (m t : ℕ) → is_least x (map f (deck m)) ≡ true → t < m → x ≤ f t
unfolding is_least deck
least_at x f zero t h l = absurd (omega arith)
least_at x f (suc m) t h l =
    let push : map f (deck m ++ m ∷ []) ≡ map f (deck m) ++ f m ∷ [] = map-push f (deck m) m in
    let k : (is_least x (map f (deck m)) && leb x (f m)) ≡ true = rw (push, list_all-push) at h in
    let two = and_parts _ _ k in
    let e : (t ≡ m) ⊎ (t ≡ m → ⊥) = cases_eq t m in
    elim e [
      | inl s ↦ rw s (leb-true x (f m) two.1)
      | inr d ↦ least_at x f m t two.0 (omega arith)
    ]

pub least_from : (x : ℕ) (f : ℕ → ℕ) (m : ℕ) → ((t : ℕ) → t < m → x ≤ f t) → is_least x (map f (deck m)) ≡ true
unfolding is_least deck
least_from x f zero h = refl
least_from x f (suc m) h =
    let push : map f (deck m ++ m ∷ []) ≡ map f (deck m) ++ f m ∷ [] = map-push f (deck m) m in
    rw (push, list_all-push) (and_from _ _ (least_from x f m (λ t l. h t (omega arith))) (le-leb x (f m) (h m (omega arith))))

-- there is a least one
pub record Least (f : ℕ → ℕ) (m : ℕ) : Type 0 where
  pub at : ℕ
  pub inside : at < m
  pub least : (t : ℕ) → t < m → f at ≤ f t

pub least_of : (f : ℕ → ℕ) (m : ℕ) → Least f (suc m)
least_of f zero = record { at = 0; inside = omega arith; least = λ t l. let s : t ≡ 0 = omega arith in rw s (omega arith) }
least_of f (suc m) =
    let w = least_of f m in
    elim (cases_lt (f (suc m)) (f w.at)) [
      | inl l ↦ record {
        at = suc m;
        inside = omega arith;
        least = λ t k. elim (cases_eq t (suc m)) [
          | inl s ↦ rw s (omega arith)
          | inr d ↦ let a : f w.at ≤ f t = w.least t (omega arith) in omega arith
        ];
      }
      | inr l ↦ record {
        at = w.at;
        inside = omega (arith, w.inside);
        least = λ t k. elim (cases_eq t (suc m)) [
          | inl s ↦ rw s (omega arith)
          | inr d ↦ w.least t (omega arith)
        ];
      }
    ]

-- the members of a list, counted below a bound of them all
pub count_different : (n : ℕ) (xs : List ℕ) → ((v : ℕ) → has xs v ≡ true → v < n) → below (λ i. cond (has xs i) 1 0) n ≡ length (different xs)
unfolding has different
count_different n [] h = below-none (λ i. 0) n (λ i l. refl)
count_different n (x ∷ xs) h =
    let inside : x < n = h x (or_left _ _ (eq-eqb x x refl)) in
    let rest : below (λ i. cond (has xs i) 1 0) n ≡ length (different xs) = count_different n xs (λ v k. h v (or_right _ _ k)) in
    elim (cases_Bool (has xs x)) [
      | inl old ↦
          let a : below (λ i. cond (has (x ∷ xs) i) 1 0) n ≡ below (λ i. cond (has xs i) 1 0) n =
          below-same (λ i. cond (has (x ∷ xs) i) 1 0) (λ i. cond (has xs i) 1 0) n (λ i l. elim (cases_eq x i) [
            | inl s ↦ let b : has xs i ≡ true = rw s at old in ap (λ t. cond t 1 0) (or_right (x == i) (has xs i) b ∙ sym b)
            | inr d ↦ rw (ne_eqb x i d) refl
          ]) in
          a ∙ rest ∙ ap (λ (l : List ℕ). length l) (sym (cond-true (has xs x) (different xs) (x ∷ different xs) old))
      | inr new ↦
          let one : below (λ i. cond (x == i) 1 0) n ≡ 1 =
          below-one (λ i. cond (x == i) 1 0) n x inside (λ i l d. rw (ne_eqb x i (λ t. d (sym t))) refl) ∙ rw (eq-eqb x x refl) refl in
          let a : below (λ i. cond (has (x ∷ xs) i) 1 0) n ≡ below (λ i. cond (x == i) 1 0 + cond (has xs i) 1 0) n =
          below-same (λ i. cond (has (x ∷ xs) i) 1 0) (λ i. cond (x == i) 1 0 + cond (has xs i) 1 0) n (λ i l. elim (cases_eq x i) [
            | inl s ↦ let b : has xs i ≡ false = rw s at new in rw (b, eq-eqb x i s) refl
            | inr d ↦ rw (ne_eqb x i d) (omega arith)
          ]) in
          let p : below (λ i. cond (x == i) 1 0 + cond (has xs i) 1 0) n ≡ below (λ i. cond (x == i) 1 0) n + below (λ i. cond (has xs i) 1 0) n = below-plus (λ i. cond (x == i) 1 0) (λ i. cond (has xs i) 1 0) n in
          let q : length (different (x ∷ xs)) ≡ suc (length (different xs)) = ap (λ (l : List ℕ). length l) (cond-false (has xs x) (different xs) (x ∷ different xs) new) in
          omega arith
    ]
