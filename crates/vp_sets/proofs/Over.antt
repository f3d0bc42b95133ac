-- Sums over the sublists of a list, and what one member does to them.
use Rattle.std.proofs.Common.{◌≡◌, ℕ, zero, suc, ◌+◌, refl, ap, sym, ◌∙◌, arith, zero-add, Bool, false, not, ◌||◌, ◌==◌, List, [], ◌∷◌, ◌++◌, length, map, filter}
use Rattle.std.specs.List.{sum_by}
use Rattle.std.proofs.lemmas.List.Sums.{sum_by-append, sum_by-cons}
use Rattle.std.proofs.lemmas.Bool.{or_parts, or_from}
use Rattle.vp_card.specs.Rising.{IsBelow, IsRising}
use Rattle.vp_sets.specs.Sets.{combos, has}

-- the members other than c
unfoldable pub less : ℕ → List ℕ → List ℕ
less c s = filter (λ d. not (c == d)) s

-- the sum of f over the sublists of k members
unfoldable pub over : ℕ → List ℕ → (List ℕ → ℕ) → ℕ
over zero s f = f []
over (suc k) [] f = 0
over (suc k) (x ∷ s) f = over k s (λ y. f (x ∷ y)) + over (suc k) s f

pub over-zero : (s : List ℕ) (f : List ℕ → ℕ) → over zero s f ≡ f []
unfolding over
over-zero [] f = refl
over-zero (x ∷ s) f = refl

pub over-none : (k : ℕ) (f : List ℕ → ℕ) → over (suc k) [] f ≡ 0
unfolding over
over-none k f = refl

pub over-cons : (k x : ℕ) (s : List ℕ) (f : List ℕ → ℕ) → over (suc k) (x ∷ s) f ≡ over k s (λ y. f (x ∷ y)) + over (suc k) s f
unfolding over
over-cons k x s f = refl

sum_by-mapped : (f : List ℕ → ℕ) (x : ℕ) (ys : List (List ℕ)) → sum_by f (map (λ y. x ∷ y) ys) ≡ sum_by (λ y. f (x ∷ y)) ys
sum_by-mapped f x [] = refl
sum_by-mapped f x (y ∷ ys) = sum_by-cons f (x ∷ y) (map (λ z. x ∷ z) ys) ∙ ap (λ m. f (x ∷ y) + m) (sum_by-mapped f x ys) ∙ sym (sum_by-cons (λ z. f (x ∷ z)) y ys)

-- it is the sum over their list
pub over_is : (k : ℕ) (s : List ℕ) (f : List ℕ → ℕ) → over k s f ≡ sum_by f (combos k s)
unfolding over combos
over_is zero [] f = sym (zero-add (f []))
over_is zero (x ∷ s) f = sym (zero-add (f []))
over_is (suc k) [] f = refl
over_is (suc k) (x ∷ s) f =
    let a : over k s (λ y. f (x ∷ y)) ≡ sum_by (λ y. f (x ∷ y)) (combos k s) = over_is k s (λ y. f (x ∷ y)) in
    let b : over (suc k) s f ≡ sum_by f (combos (suc k) s) = over_is (suc k) s f in
    let d : sum_by f (map (λ y. x ∷ y) (combos k s) ++ combos (suc k) s) ≡ sum_by f (map (λ y. x ∷ y) (combos k s)) + sum_by f (combos (suc k) s) = sum_by-append f (map (λ y. x ∷ y) (combos k s)) (combos (suc k) s) in
    let e : sum_by f (map (λ y. x ∷ y) (combos k s)) ≡ sum_by (λ y. f (x ∷ y)) (combos k s) = sum_by-mapped f x (combos k s) in
    omega arith

-- what is known of a sublist
pub record Picked (s : List ℕ) (k : ℕ) (y : List ℕ) : Type 0 where
  pub many : length y ≡ k
  pub within : (c : ℕ) → has s c ≡ false → has y c ≡ false
  pub above : (c : ℕ) → IsBelow c s → IsBelow c y
  pub rises : IsRising s → IsRising y

picked_none : (s : List ℕ) → Picked s 0 []
unfolding has
picked_none s = record { many = refl; within = λ c h. refl; above = λ c h. tt; rises = λ h. tt }

picked_first : (x : ℕ) (s : List ℕ) (k : ℕ) (y : List ℕ) → Picked s k y → Picked (x ∷ s) (suc k) (x ∷ y)
unfolding has
picked_first x s k y p = record {
  many = ap suc p.many;
  within = λ c h. let (a, b) = or_parts (x == c) (has s c) h in or_false (x == c) (has y c) a (p.within c b);
  above = λ c h. (h.0, p.above c h.1);
  rises = λ h. (p.above x h.0, p.rises h.1);
}
  where
    or_false : (a b : Bool) → a ≡ false → b ≡ false → (a || b) ≡ false
    or_false a b p q = or_from a b p q

picked_rest : (x : ℕ) (s : List ℕ) (k : ℕ) (y : List ℕ) → Picked s k y → Picked (x ∷ s) k y
unfolding has
picked_rest x s k y p = record {
  many = p.many;
  within = λ c h. let (a, b) = or_parts (x == c) (has s c) h in p.within c b;
  above = λ c h. p.above c h.1;
  rises = λ h. p.rises h.1;
}

-- functions that agree on the sublists have one sum
pub over_agree : (k : ℕ) (s : List ℕ) (f g : List ℕ → ℕ) → ((y : List ℕ) → Picked s k y → f y ≡ g y) → over k s f ≡ over k s g
over_agree zero s f g h = over-zero s f ∙ h [] (picked_none s) ∙ sym (over-zero s g)
over_agree (suc k) [] f g h = over-none k f ∙ sym (over-none k g)
over_agree (suc k) (x ∷ s) f g h =
    let a : over k s (λ y. f (x ∷ y)) ≡ over k s (λ y. g (x ∷ y)) = over_agree k s (λ y. f (x ∷ y)) (λ y. g (x ∷ y)) (λ y p. h (x ∷ y) (picked_first x s k y p)) in
    let b : over (suc k) s f ≡ over (suc k) s g = over_agree (suc k) s f g (λ y p. h y (picked_rest x s (suc k) y p)) in
    omega (arith, over-cons k x s f, over-cons k x s g)

pub over-nought : (k : ℕ) (s : List ℕ) → over k s (λ _. 0) ≡ 0
over-nought zero s = over-zero s (λ _. 0)
over-nought (suc k) [] = over-none k (λ _. 0)
over-nought (suc k) (x ∷ s) =
    let a : over k s (λ _. 0) ≡ 0 = over-nought k s in
    let b : over (suc k) s (λ _. 0) ≡ 0 = over-nought (suc k) s in
    omega (arith, over-cons k x s (λ _. 0))

-- a function that is 0 on the sublists has the sum 0
pub over_none : (k : ℕ) (s : List ℕ) (f : List ℕ → ℕ) → ((y : List ℕ) → Picked s k y → f y ≡ 0) → over k s f ≡ 0
over_none k s f h = over_agree k s f (λ _. 0) h ∙ over-nought k s

pub over-plus : (k : ℕ) (s : List ℕ) (f g : List ℕ → ℕ) → over k s (λ y. f y + g y) ≡ over k s f + over k s g
over-plus zero s f g = omega (arith, over-zero s (λ y. f y + g y), over-zero s f, over-zero s g)
over-plus (suc k) [] f g = omega (arith, over-none k (λ y. f y + g y), over-none k f, over-none k g)
over-plus (suc k) (x ∷ s) f g =
    let a : over k s (λ y. f (x ∷ y) + g (x ∷ y)) ≡ over k s (λ y. f (x ∷ y)) + over k s (λ y. g (x ∷ y)) = over-plus k s (λ y. f (x ∷ y)) (λ y. g (x ∷ y)) in
    let b : over (suc k) s (λ y. f y + g y) ≡ over (suc k) s f + over (suc k) s g = over-plus (suc k) s f g in
    omega (arith, over-cons k x s (λ y. f y + g y), over-cons k x s f, over-cons k x s g)
