-- One member singled out of the sublists of a list, and the sum over the draws of a hold.
use Rattle.std.proofs.Common.{◌≡◌, ◌⊎◌, inl, inr, ℕ, zero, suc, ◌+◌, ◌<◌, refl, ap, sym, ◌∙◌, arith, Bool, true, false, cond, not, ◌||◌, ◌==◌, List, [], ◌∷◌}
use Rattle.std.proofs.lemmas.Bool.{cases_eq, cases_Bool, eq-eqb, ne_eqb, or_parts, or_left, cond-true, cond-false, false≢true}
use Rattle.vp_card.specs.Cards.{place}
use Rattle.vp_card.specs.Rising.{IsBelow, IsRising}
use Rattle.vp_card.proofs.Rising.{place-later, place-first}
use Rattle.vp_sets.specs.Sets.{has}
use Rattle.vp_sets.proofs.Over.{less, over, over-zero, over-none, over-cons, over_agree, over_none, over-plus}

eq_same : (c : ℕ) → (c == c) ≡ true
eq_same c = eq-eqb c c refl

pub has-none : (c : ℕ) → has [] c ≡ false
unfolding has
has-none c = refl

pub has-here : (c : ℕ) (s : List ℕ) → has (c ∷ s) c ≡ true
unfolding has
has-here c s = or_left (c == c) (has s c) (eq_same c)

pub has-later : (d : ℕ) (s : List ℕ) (c : ℕ) → (d ≡ c → ⊥) → has (d ∷ s) c ≡ has s c
unfolding has
has-later d s c ne = ap (λ b. b || has s c) (ne_eqb d c ne)

pub has-cons : (d : ℕ) (s : List ℕ) (c : ℕ) → has (d ∷ s) c ≡ ((d == c) || has s c)
unfolding has
has-cons d s c = refl

-- c is no member of a list above it
pub above_absent : (c : ℕ) (s : List ℕ) → IsBelow c s → has s c ≡ false
above_absent c [] h = has-none c
above_absent c (d ∷ s) h = has-later d s c (λ e. let k : c < d = h.0 in omega arith) ∙ above_absent c s h.1

pub less-none : (c : ℕ) → less c [] ≡ []
unfolding less
less-none c = refl

pub less-here : (c : ℕ) (s : List ℕ) → less c (c ∷ s) ≡ less c s
unfolding less
less-here c s = cond-false (not (c == c)) (c ∷ less c s) (less c s) (ap not (eq_same c))

pub less-later : (c d : ℕ) (s : List ℕ) → (c ≡ d → ⊥) → less c (d ∷ s) ≡ d ∷ less c s
unfolding less
less-later c d s ne = cond-true (not (c == d)) (d ∷ less c s) (less c s) (ap not (ne_eqb c d ne))

pub less-absent : (c : ℕ) (s : List ℕ) → has s c ≡ false → less c s ≡ s
unfolding has
less-absent c [] h = less-none c
less-absent c (d ∷ s) h =
    let (a, b) = or_parts (d == c) (has s c) h in
    less-later c d s (λ e. false≢true (sym a ∙ eq-eqb d c (sym e))) ∙ ap (λ r. d ∷ r) (less-absent c s b)

pub less-has : (c : ℕ) (s : List ℕ) → has (less c s) c ≡ false
less-has c [] = ap (λ r. has r c) (less-none c) ∙ has-none c
less-has c (d ∷ s) =
    let e : (c ≡ d) ⊎ (c ≡ d → ⊥) = cases_eq c d in
    elim e [
      | inl p ↦ ap (λ x. has (less c (x ∷ s)) c) (sym p) ∙ ap (λ r. has r c) (less-here c s) ∙ less-has c s
      | inr ne ↦ ap (λ r. has r c) (less-later c d s ne) ∙ has-later d (less c s) c (λ q. ne (sym q)) ∙ less-has c s
    ]

-- a member stays where another is taken away
pub less-keeps : (c : ℕ) (s : List ℕ) (x : ℕ) → (c ≡ x → ⊥) → has (less c s) x ≡ has s x
less-keeps c [] x ne = ap (λ r. has r x) (less-none c)
less-keeps c (d ∷ s) x ne =
    let e : (c ≡ d) ⊎ (c ≡ d → ⊥) = cases_eq c d in
    elim e [
      | inl p ↦ ap (λ z. has (less c (z ∷ s)) x) (sym p) ∙ ap (λ r. has r x) (less-here c s) ∙ less-keeps c s x ne ∙ sym (has-later d s x (λ q. ne (p ∙ q)))
      | inr nd ↦ ap (λ r. has r x) (less-later c d s nd) ∙ has-cons d (less c s) x ∙ ap (λ b. (d == x) || b) (less-keeps c s x ne) ∙ sym (has-cons d s x)
    ]

pub less-above : (c x : ℕ) (s : List ℕ) → IsBelow x s → IsBelow x (less c s)
unfolding less
less-above c x [] h = tt
less-above c x (d ∷ s) h = go (not (c == d)) (less-above c x s h.1)
  where
    go : (b : Bool) → IsBelow x (less c s) → IsBelow x (cond b (d ∷ less c s) (less c s))
    go true rest = (h.0, rest)
    go false rest = rest

pub less-rises : (c : ℕ) (s : List ℕ) → IsRising s → IsRising (less c s)
unfolding less
less-rises c [] h = tt
less-rises c (d ∷ s) h = go (not (c == d)) (less-rises c s h.1)
  where
    front : IsBelow d (less c s)
    front = less-above c d s h.0

    go : (b : Bool) → IsRising (less c s) → IsRising (cond b (d ∷ less c s) (less c s))
    go true rest = (front, rest)
    go false rest = rest

-- f where c is a member, else 0; and the other way round
unfoldable pub only_with : ℕ → (List ℕ → ℕ) → List ℕ → ℕ
only_with c f h = cond (has h c) (f h) 0

unfoldable pub only_without : ℕ → (List ℕ → ℕ) → List ℕ → ℕ
only_without c f h = cond (has h c) 0 (f h)

pub only_with-yes : (c : ℕ) (f : List ℕ → ℕ) (h : List ℕ) → has h c ≡ true → only_with c f h ≡ f h
unfolding only_with
only_with-yes c f h p = cond-true (has h c) (f h) 0 p

pub only_with-no : (c : ℕ) (f : List ℕ → ℕ) (h : List ℕ) → has h c ≡ false → only_with c f h ≡ 0
unfolding only_with
only_with-no c f h p = cond-false (has h c) (f h) 0 p

pub only_without-yes : (c : ℕ) (f : List ℕ → ℕ) (h : List ℕ) → has h c ≡ true → only_without c f h ≡ 0
unfolding only_without
only_without-yes c f h p = cond-true (has h c) 0 (f h) p

pub only_without-no : (c : ℕ) (f : List ℕ → ℕ) (h : List ℕ) → has h c ≡ false → only_without c f h ≡ f h
unfolding only_without
only_without-no c f h p = cond-false (has h c) 0 (f h) p

only_with-cons : (c x : ℕ) (f : List ℕ → ℕ) (h : List ℕ) → (x ≡ c → ⊥) → only_with c f (x ∷ h) ≡ only_with c (λ y. f (x ∷ y)) h
unfolding only_with
only_with-cons c x f h ne = ap (λ b. cond b (f (x ∷ h)) 0) (has-later x h c ne)

only_without-cons : (c x : ℕ) (f : List ℕ → ℕ) (h : List ℕ) → (x ≡ c → ⊥) → only_without c f (x ∷ h) ≡ only_without c (λ y. f (x ∷ y)) h
unfolding only_without
only_without-cons c x f h ne = ap (λ b. cond b 0 (f (x ∷ h))) (has-later x h c ne)

-- with and without a member make up the whole
pub with_or_without : (k : ℕ) (s : List ℕ) (c : ℕ) (f : List ℕ → ℕ) → over k s f ≡ over k s (only_without c f) + over k s (only_with c f)
with_or_without k s c f =
    over_agree k s f (λ h. only_without c f h + only_with c f h) (λ h _. each h)
    ∙ over-plus k s (only_without c f) (only_with c f)
  where
    by_case : (h : List ℕ) → (has h c ≡ true) ⊎ (has h c ≡ false) → f h ≡ only_without c f h + only_with c f h
    by_case h (inl t) = omega (arith, only_without-yes c f h t, only_with-yes c f h t)
    by_case h (inr t) = omega (arith, only_without-no c f h t, only_with-no c f h t)

    each : (h : List ℕ) → f h ≡ only_without c f h + only_with c f h
    each h = by_case h (cases_Bool (has h c))

-- the sublists without c are those of the list without c
pub over_without : (k : ℕ) (s : List ℕ) (c : ℕ) (f : List ℕ → ℕ) → over k s (only_without c f) ≡ over k (less c s) f
over_without zero s c f = over-zero s (only_without c f) ∙ only_without-no c f [] (has-none c) ∙ sym (over-zero (less c s) f)
over_without (suc k) [] c f = over-none k (only_without c f) ∙ sym (over-none k f) ∙ ap (λ r. over (suc k) r f) (sym (less-none c))
over_without (suc k) (x ∷ s) c f =
    let e : (c ≡ x) ⊎ (c ≡ x → ⊥) = cases_eq c x in
    elim e [
      | inl p ↦
          let a : over k s (λ y. only_without c f (x ∷ y)) ≡ 0 = over_none k s (λ y. only_without c f (x ∷ y)) (λ y _. only_without-yes c f (x ∷ y) (ap (λ z. has (x ∷ y) z) p ∙ has-here x y)) in
          let b : over (suc k) s (only_without c f) ≡ over (suc k) (less c s) f = over_without (suc k) s c f in
          let d : over (suc k) (less c (x ∷ s)) f ≡ over (suc k) (less c s) f = ap (λ z. over (suc k) (less c (z ∷ s)) f) (sym p) ∙ ap (λ r. over (suc k) r f) (less-here c s) in
          omega (arith, over-cons k x s (only_without c f))
      | inr ne ↦
          let a : over k s (λ y. only_without c f (x ∷ y)) ≡ over k s (only_without c (λ y. f (x ∷ y))) = over_agree k s (λ y. only_without c f (x ∷ y)) (only_without c (λ y. f (x ∷ y))) (λ y _. only_without-cons c x f y (λ q. ne (sym q))) in
          let a' : over k s (only_without c (λ y. f (x ∷ y))) ≡ over k (less c s) (λ y. f (x ∷ y)) = over_without k s c (λ y. f (x ∷ y)) in
          let b : over (suc k) s (only_without c f) ≡ over (suc k) (less c s) f = over_without (suc k) s c f in
          let d : over (suc k) (less c (x ∷ s)) f ≡ over (suc k) (x ∷ less c s) f = ap (λ r. over (suc k) r f) (less-later c x s ne) in
          omega (arith, over-cons k x s (only_without c f), over-cons k x (less c s) f)
    ]

-- where a list starts with c, its sublists with c are c and a sublist of the rest
over_with_first : (k c : ℕ) (s : List ℕ) (f : List ℕ → ℕ) → IsBelow c s → over (suc k) (c ∷ s) (only_with c f) ≡ over k (less c (c ∷ s)) (λ y. f (place c y))
over_with_first k c s f a =
    let absent : has s c ≡ false = above_absent c s a in
    let here : over k s (λ y. only_with c f (c ∷ y)) ≡ over k s (λ y. f (place c y)) = over_agree k s (λ y. only_with c f (c ∷ y)) (λ y. f (place c y)) (λ y p. only_with-yes c f (c ∷ y) (has-here c y) ∙ ap f (sym (place-first c y (p.above c a)))) in
    let rest : over (suc k) s (only_with c f) ≡ 0 = over_none (suc k) s (only_with c f) (λ y p. only_with-no c f y (p.within c absent)) in
    let same : over k (less c (c ∷ s)) (λ y. f (place c y)) ≡ over k s (λ y. f (place c y)) = ap (λ r. over k r (λ y. f (place c y))) (less-here c s ∙ less-absent c s absent) in
    omega (arith, over-cons k c s (only_with c f))

-- where it starts with another member, below c
over_with_later : (k x c : ℕ) (s : List ℕ) (f : List ℕ → ℕ) → x < c → ((k : ℕ) (g : List ℕ → ℕ) → over (suc k) s (only_with c g) ≡ over k (less c s) (λ y. g (place c y))) → over (suc k) (x ∷ s) (only_with c f) ≡ over k (less c (x ∷ s)) (λ y. f (place c y))
over_with_later zero x c s f below ih =
    let here : over zero s (λ y. only_with c f (x ∷ y)) ≡ 0 = over-zero s (λ y. only_with c f (x ∷ y)) ∙ only_with-no c f (x ∷ []) (has-later x [] c (λ e. omega arith) ∙ has-none c) in
    let rest : over 1 s (only_with c f) ≡ over zero (less c s) (λ y. f (place c y)) = ih zero f in
    let a : over zero (less c s) (λ y. f (place c y)) ≡ f (place c []) = over-zero (less c s) (λ y. f (place c y)) in
    let b : over zero (less c (x ∷ s)) (λ y. f (place c y)) ≡ f (place c []) = over-zero (less c (x ∷ s)) (λ y. f (place c y)) in
    omega (arith, over-cons zero x s (only_with c f))
over_with_later (suc k) x c s f below ih =
    let here : over (suc k) s (λ y. only_with c f (x ∷ y)) ≡ over (suc k) s (only_with c (λ y. f (x ∷ y))) = over_agree (suc k) s (λ y. only_with c f (x ∷ y)) (only_with c (λ y. f (x ∷ y))) (λ y _. only_with-cons c x f y (λ e. omega arith)) in
    let moved : over (suc k) s (only_with c (λ y. f (x ∷ y))) ≡ over k (less c s) (λ y. f (x ∷ place c y)) = ih k (λ y. f (x ∷ y)) in
    let rest : over (suc (suc k)) s (only_with c f) ≡ over (suc k) (less c s) (λ y. f (place c y)) = ih (suc k) f in
    let kept : over (suc k) (less c (x ∷ s)) (λ y. f (place c y)) ≡ over (suc k) (x ∷ less c s) (λ y. f (place c y)) = ap (λ r. over (suc k) r (λ y. f (place c y))) (less-later c x s (λ e. omega arith)) in
    let placed : over k (less c s) (λ y. f (place c (x ∷ y))) ≡ over k (less c s) (λ y. f (x ∷ place c y)) = over_agree k (less c s) (λ y. f (place c (x ∷ y))) (λ y. f (x ∷ place c y)) (λ y _. ap f (place-later c x y (omega arith))) in
    omega (arith, over-cons (suc k) x s (only_with c f), over-cons k x (less c s) (λ y. f (place c y)))

pub above_member : (x c : ℕ) (s : List ℕ) → IsBelow x s → has s c ≡ true → x < c
above_member x c [] a h = absurd (false≢true (sym (has-none c) ∙ h))
above_member x c (d ∷ s) a h =
    let e : (c ≡ d) ⊎ (c ≡ d → ⊥) = cases_eq c d in
    elim e [
      | inl p ↦ let l : x < d = a.0 in omega arith
      | inr ne ↦ above_member x c s a.1 (sym (has-later d s c (λ q. ne (sym q))) ∙ h)
    ]

-- the sublists with c, each made from one without it by putting c into its place
pub over_with : (k : ℕ) (s : List ℕ) (c : ℕ) (f : List ℕ → ℕ) → IsRising s → has s c ≡ true → over (suc k) s (only_with c f) ≡ over k (less c s) (λ y. f (place c y))
over_with k [] c f r h = absurd (false≢true (sym (has-none c) ∙ h))
over_with k (x ∷ s) c f r h =
    let e : (c ≡ x) ⊎ (c ≡ x → ⊥) = cases_eq c x in
    elim e [
      | inl p ↦
          let a : IsBelow c s = rw p r.0 in
          rw (← p) (over_with_first k c s f a)
      | inr ne ↦
          let later : has s c ≡ true = sym (has-later x s c (λ q. ne (sym q))) ∙ h in
          over_with_later k x c s f (above_member x c s r.0 later) (λ j g. over_with j s c g r.1 later)
    ]

-- one member singled out: the sublists with it, and those without it
pub split_at : (k : ℕ) (s : List ℕ) (c : ℕ) (f : List ℕ → ℕ) → IsRising s → has s c ≡ true → over (suc k) s f ≡ over k (less c s) (λ y. f (place c y)) + over (suc k) (less c s) f
split_at k s c f r h =
    let a : over (suc k) s f ≡ over (suc k) s (only_without c f) + over (suc k) s (only_with c f) = with_or_without (suc k) s c f in
    omega (arith, over_without (suc k) s c f, over_with k s c f r h)
