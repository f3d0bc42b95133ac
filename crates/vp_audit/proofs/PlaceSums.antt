-- A sum over all places, without the terms at some of them.
use Rattle.std.proofs.Common.{◌≡◌, ℕ, zero, suc, ◌+◌, ◌<◌, ◌≤◌, true, false, cond, List, [], ◌∷◌, drop, length, get_or, refl, sym, ap, subst, ◌∙◌, arith, inl, inr}
use Rattle.std.specs.List.{sum_by}
use Rattle.std.proofs.lemmas.Bool.{cases_eq, eq-eqb, ne_eqb}
use Rattle.std.proofs.lemmas.List.{drop_all}
use Rattle.std.proofs.lemmas.List.Sums.{sum_by-cons, sum_by-drop_more}
use Rattle.vp_sets.specs.Sets.{has}
use Rattle.vp_compile.proofs.Sums.{Rises, sum_from}

-- equal terms have equal sums
pub sum_from_same : (f g : ℕ → ℕ) (lo k : ℕ) → ((i : ℕ) → lo ≤ i → i < lo + k → f i ≡ g i) → sum_from f lo k ≡ sum_from g lo k
unfolding sum_from
sum_from_same f g lo zero same = refl
sum_from_same f g lo (suc k) same =
    let here : f lo ≡ g lo = same lo (omega arith) (omega arith) in
    let rest = sum_from_same f g (lo + 1) k (λ i low high. same i (omega arith) (omega arith)) in
    omega (arith, here, rest)

-- the sum over a list, place by place
pub sum_of_list : {X : Type 0} (f : X → ℕ) (xs : List X) (d : X) (lo k : ℕ) → lo + k ≡ length xs → sum_from (λ i. f (get_or xs i d)) lo k ≡ sum_by f (drop lo xs)
unfolding sum_from
sum_of_list f xs d lo zero e = sym (ap (sum_by f) (drop_all lo xs (omega arith)))
sum_of_list f xs d lo (suc k) e = ap (λ s. f (get_or xs lo d) + s) (sum_of_list f xs d (lo + 1) k (omega arith)) ∙ sym (sum_by-drop_more f xs lo d (omega arith))

abbrev pub without_at : List ℕ → (ℕ → ℕ) → ℕ → ℕ
without_at places f i = cond (has places i) 0 (f i)

has_not : (i lo n : ℕ) (places : List ℕ) → i < lo → Rises lo n places → has places i ≡ false
unfolding has
has_not i lo n [] l rises = refl
has_not i lo n (p ∷ places) l rises =
    rw (ne_eqb p i (λ e. omega (arith, rises.0)), has_not i (p + 1) n places (omega (arith, rises.0)) rises.2) refl

has_here : (p : ℕ) (places : List ℕ) → has (p ∷ places) p ≡ true
unfolding has
has_here p places = rw (eq-eqb p p refl) refl

has_later : (i p : ℕ) (places : List ℕ) → p < i → has (p ∷ places) i ≡ has places i
unfolding has
has_later i p places l = rw (ne_eqb p i (λ e. omega arith)) refl

all_there : (f : ℕ → ℕ) (i : ℕ) → without_at [] f i ≡ f i
unfolding has
all_there f i = refl

-- the terms at the places and the others are all
pub sum_without : (f : ℕ → ℕ) (lo k n : ℕ) (places : List ℕ) → n ≡ lo + k → Rises lo n places → sum_by f places + sum_from (without_at places f) lo k ≡ sum_from f lo k
unfolding sum_from
sum_without f lo zero n [] e rises = refl
sum_without f lo zero n (p ∷ places) e rises = absurd (omega (arith, rises.0, rises.1))
sum_without f lo (suc k) n [] e rises = let rest = sum_without f (lo + 1) k n [] (omega arith) tt in omega (arith, rest, all_there f lo)
sum_without f lo (suc k) n (p ∷ places) e rises = elim (cases_eq p lo) [
  | inl same ↦
      let here : without_at (p ∷ places) f lo ≡ 0 = subst (λ i. without_at (p ∷ places) f i ≡ 0) same (ap (λ b. cond b 0 (f p)) (has_here p places)) in
      let later : Rises (lo + 1) n places = subst (λ i. Rises (i + 1) n places) same rises.2 in
      let rest = sum_without f (lo + 1) k n places (omega arith) later in
      let others = sum_from_same (without_at (p ∷ places) f) (without_at places f) (lo + 1) k (λ i low high. ap (λ b. cond b 0 (f i)) (has_later i p places (omega arith))) in
      omega (arith, here, rest, others, sum_by-cons f p places, ap f same)
  | inr d ↦
      let up : lo + 1 ≤ p = omega (arith, rises.0) in
      let here : without_at (p ∷ places) f lo ≡ f lo = ap (λ b. cond b 0 (f lo)) (has_not lo (lo + 1) n (p ∷ places) (omega arith) (up, rises.1, rises.2)) in
      let rest = sum_without f (lo + 1) k n (p ∷ places) (omega arith) (up, rises.1, rises.2) in
      omega (arith, here, rest)
]
