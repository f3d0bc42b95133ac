-- The sums over the sets of one size, from the sums over the sets with one member more.
use Rattle.std.proofs.Common.{◌≡◌, ◌⊎◌, inl, inr, ℕ, zero, suc, ◌+◌, ◌-◌, ◌*◌, ◌<◌, ◌≤◌, refl, ap, sym, ◌∙◌, subst, arith, add-one, Bool, true, false, cond, not, ◌&&◌, ◌==◌, nat_lt, List, [], ◌∷◌, ◌++◌, length, filter, get_or}
use Rattle.std.specs.List.{sum_by, All}
use Rattle.std.proofs.Math.Nat.{suc-mul, mul-add}
use Rattle.std.proofs.lemmas.List.Sums.{sum_by-cons, sum_by-le}
use Rattle.std.proofs.lemmas.Bool.{cases_lt, cases_eq, cases_Bool, eq-eqb, ne_eqb, or_right, false≢true}
use Rattle.vp_card.specs.Cards.{place, joined}
use Rattle.vp_card.specs.Rising.{IsBelow, IsRising}
use Rattle.vp_sets.specs.Sets.{deck, combos, choose, has, without}
use Rattle.vp_sets.specs.Subsets.{has_all}
use Rattle.vp_sets.specs.Index.{IsSet, set_index}
use Rattle.vp_card.proofs.Rising.{joined-rising, place-first, place-later, place-here, place-none, joined-none, joined-cons}
use Rattle.vp_sets.proofs.Decks.{rising-deck, length-deck}
use Rattle.vp_sets.proofs.Holds.{rising-without}
use Rattle.vp_sets.proofs.Sublists.{length-combos}
use Rattle.vp_sets.proofs.Colex.{set_rises, set_below}
use Rattle.vp_sets.proofs.Over.{less, over, over-zero, over-none, over-cons, over_is, over_agree}
use Rattle.vp_sets.proofs.Spread.{has-none, has-here, has-later, has-cons, above_absent, less-none, less-here, less-later, less-absent, less-rises, less-keeps, only_with, over_with, above_member}
use Rattle.vp_sets.proofs.Bridge.{within_deck, Within, with_all, has-place, with_alike, without-none, without-cons}
use Rattle.std.proofs.lemmas.List.{get_or_past}
use Rattle.vp_count.specs.Sums.{number, containing}
use Rattle.vp_count.proofs.Exclusion.{with_all-none, with_all-cons, containing_is}

-- no card stands twice in the list
abbrev pub Apart : List ℕ → Type 0
Apart [] = Unit {0}
Apart (c ∷ cs) = (has cs c ≡ false) × Apart cs

pub rises_apart : (s : List ℕ) → IsRising s → Apart s
rises_apart [] h = tt
rises_apart (c ∷ s) h = (above_absent c s h.0, rises_apart s h.1)

-- two cards put in either order
place_below : (a b : ℕ) (s : List ℕ) → a < b → place a (place b s) ≡ place b (place a s)
place_below a b [] l =
    ap (λ z. place a z) (place-none b) ∙ place-here a b [] l ∙ ap (λ z. a ∷ z) (sym (place-none b)) ∙ sym (place-later b a [] (omega arith)) ∙ ap (λ z. place b z) (sym (place-none a))
place_below a b (d ∷ s) l =
    let e : (b < d) ⊎ (d ≤ b) = cases_lt b d in
    elim e [
      | inl k ↦
          ap (λ z. place a z) (place-here b d s k) ∙ place-here a b (d ∷ s) l ∙ ap (λ z. a ∷ z) (sym (place-here b d s k)) ∙ sym (place-later b a (d ∷ s) (omega arith)) ∙ ap (λ z. place b z) (sym (place-here a d s (omega arith)))
      | inr k ↦ low k (place_below a b s l) (cases_lt a d)
    ]
  where
    low : d ≤ b → place a (place b s) ≡ place b (place a s) → (a < d) ⊎ (d ≤ a) → place a (place b (d ∷ s)) ≡ place b (place a (d ∷ s))
    low k ih (inl m) =
        ap (λ z. place a z) (place-later b d s k) ∙ place-here a d (place b s) m ∙ ap (λ z. a ∷ z) (sym (place-later b d s k)) ∙ sym (place-later b a (d ∷ s) (omega arith)) ∙ ap (λ z. place b z) (sym (place-here a d s m))
    low k ih (inr m) =
        ap (λ z. place a z) (place-later b d s k) ∙ place-later a d (place b s) m ∙ ap (λ z. d ∷ z) ih ∙ sym (place-later b d (place a s) k) ∙ ap (λ z. place b z) (sym (place-later a d s m))

pub place_comm : (a b : ℕ) (s : List ℕ) → place a (place b s) ≡ place b (place a s)
place_comm a b s =
    let e : (a < b) ⊎ (b ≤ a) = cases_lt a b in
    elim e [
      | inl l ↦ place_below a b s l
      | inr l ↦ elim (cases_lt b a) [ inl k ↦ sym (place_below b a s k) | inr k ↦ same (omega arith) ]
    ]
  where
    same : a ≡ b → place a (place b s) ≡ place b (place a s)
    same e = ap (λ z. place z (place b s)) e ∙ ap (λ z. place b (place z s)) (sym e)

pub joined_place : (a : List ℕ) (c : ℕ) (y : List ℕ) → joined a (place c y) ≡ place c (joined a y)
joined_place [] c y = joined-none (place c y) ∙ ap (λ z. place c z) (sym (joined-none y))
joined_place (d ∷ a) c y = joined-cons d a (place c y) ∙ ap (λ z. place d z) (joined_place a c y) ∙ place_comm d c (joined a y) ∙ ap (λ z. place c z) (sym (joined-cons d a y))

with_all_place : (a : List ℕ) (c : ℕ) (f : List ℕ → ℕ) (y : List ℕ) → has a c ≡ false → with_all a f (place c y) ≡ with_all a (λ z. f (place c z)) y
with_all_place [] c f y h = ap (λ (g : List ℕ → ℕ). g (place c y)) (with_all-none f) ∙ sym (ap (λ (g : List ℕ → ℕ). g y) (with_all-none (λ z. f (place c z))))
with_all_place (d ∷ a) c f y h =
    let ne : c ≡ d → ⊥ = (λ e. false≢true (sym h ∙ ap (λ x. has (d ∷ a) x) e ∙ has-here d a)) in
    let k : has a c ≡ false = sym (has-later d a c (λ e. ne (sym e))) ∙ h in
    ap (λ (g : List ℕ → ℕ). g (place c y)) (with_all-cons d a f)
    ∙ with_alike d (with_all a f) (with_all a (λ z. f (place c z))) (place c y) y (has-place c d y ne) (with_all_place a c f y k)
    ∙ sym (ap (λ (g : List ℕ → ℕ). g y) (with_all-cons d a (λ z. f (place c z))))

within_apart : (c : ℕ) (cs s : List ℕ) → has cs c ≡ false → Within cs s → Within cs (less c s)
within_apart c [] s a h = tt
within_apart c (d ∷ cs) s a h =
    let ne : c ≡ d → ⊥ = (λ e. false≢true (sym a ∙ ap (λ x. has (d ∷ cs) x) e ∙ has-here d cs)) in
    let k : has cs c ≡ false = sym (has-later d cs c (λ e. ne (sym e))) ∙ a in
    (less-keeps c s d ne ∙ h.0, within_apart c cs s k h.1)

-- the sets that have the cards of a, made from what stands beside them
pub with_all_over : (a s : List ℕ) (j : ℕ) (f : List ℕ → ℕ) → IsRising s → Apart a → Within a s → over (length a + j) s (with_all a f) ≡ over j (without s a) (λ y. f (joined a y))
with_all_over [] s j f r q w =
    let e : 0 + j ≡ j = omega arith in
    let b : over (0 + j) s (with_all [] f) ≡ over j s f = ap (λ i. over i s (with_all [] f)) e ∙ ap (λ g. over j s g) (with_all-none f) in
    let d : over j (without s []) (λ y. f (joined [] y)) ≡ over j s (λ y. f (joined [] y)) = ap (λ z. over j z (λ y. f (joined [] y))) (without-none s) in
    b ∙ sym (d ∙ over_agree j s (λ y. f (joined [] y)) f (λ y _. ap f (joined-none y)))
with_all_over (c ∷ a) s j f r q w =
    let k : ℕ = length a + j in
    let e0 : suc (length a) + j ≡ suc k = omega arith in
    let e1 : over (suc (length a) + j) s (with_all (c ∷ a) f) ≡ over (suc k) s (only_with c (with_all a f)) = ap (λ i. over i s (with_all (c ∷ a) f)) e0 ∙ ap (λ g. over (suc k) s g) (with_all-cons c a f) in
    let e2 : over (suc k) s (only_with c (with_all a f)) ≡ over k (less c s) (λ y. with_all a f (place c y)) = over_with k s c (with_all a f) r w.0 in
    let e3 : over k (less c s) (λ y. with_all a f (place c y)) ≡ over k (less c s) (with_all a (λ y. f (place c y))) = over_agree k (less c s) (λ y. with_all a f (place c y)) (with_all a (λ y. f (place c y))) (λ y _. with_all_place a c f y q.0) in
    let e4 : over k (less c s) (with_all a (λ y. f (place c y))) ≡ over j (without (less c s) a) (λ y. f (place c (joined a y))) = with_all_over a (less c s) j (λ y. f (place c y)) (less-rises c s r) q.1 (within_apart c a s q.0 w.1) in
    let e5 : over j (without s (c ∷ a)) (λ y. f (joined (c ∷ a) y)) ≡ over j (without (less c s) a) (λ y. f (joined (c ∷ a) y)) = ap (λ z. over j z (λ y. f (joined (c ∷ a) y))) (without-cons s c a) in
    let e6 : over j (without (less c s) a) (λ y. f (joined (c ∷ a) y)) ≡ over j (without (less c s) a) (λ y. f (place c (joined a y))) = over_agree j (without (less c s) a) (λ y. f (joined (c ∷ a) y)) (λ y. f (place c (joined a y))) (λ y _. ap f (joined-cons c a y)) in
    e1 ∙ e2 ∙ e3 ∙ e4 ∙ sym e6 ∙ sym e5

-- sums over a list of functions that agree on its members
pub sum_agree : (f g : ℕ → ℕ) (s : List ℕ) → ((c : ℕ) → has s c ≡ true → f c ≡ g c) → sum_by f s ≡ sum_by g s
sum_agree f g [] h = refl
sum_agree f g (d ∷ s) h =
    let a : f d ≡ g d = h d (has-here d s) in
    let b : sum_by f s ≡ sum_by g s = sum_agree f g s (λ c k. h c (has-cons d s c ∙ or_true (d == c) (has s c) k)) in
    omega (arith, sum_by-cons f d s, sum_by-cons g d s)
  where
    or_true : (b t : Bool) → t ≡ true → Rattle.std.proofs.Common.◌||◌ b t ≡ true
    or_true b t k = Rattle.std.proofs.lemmas.Bool.or_right b t k

sum-plus : (f g : ℕ → ℕ) (s : List ℕ) → sum_by (λ c. f c + g c) s ≡ sum_by f s + sum_by g s
sum-plus f g [] = refl
sum-plus f g (d ∷ s) = omega (arith, sum-plus f g s, sum_by-cons (λ c. f c + g c) d s, sum_by-cons f d s, sum_by-cons g d s)

member_above : (x : ℕ) (s : List ℕ) (c : ℕ) → IsBelow x s → has s c ≡ true → x < c
member_above x s c a h = above_member x c s a h

first_single : (j x : ℕ) (s : List ℕ) (f : List ℕ → ℕ) → IsBelow x s → over j (less x (x ∷ s)) (λ y. f (place x y)) ≡ over j s (λ y. f (x ∷ y))
first_single j x s f a =
    ap (λ z. over j z (λ y. f (place x y))) (less-here x s ∙ less-absent x s (above_absent x s a))
    ∙ over_agree j s (λ y. f (place x y)) (λ y. f (x ∷ y)) (λ y p. ap f (place-first x y (p.above x a)))

later_single : (i x c : ℕ) (s : List ℕ) (f : List ℕ → ℕ) → x < c → over (suc i) (less c (x ∷ s)) (λ y. f (place c y)) ≡ over i (less c s) (λ y. f (x ∷ place c y)) + over (suc i) (less c s) (λ y. f (place c y))
later_single i x c s f l =
    let ne : c ≡ x → ⊥ = (λ e. omega arith) in
    let a : over i (less c s) (λ y. f (place c (x ∷ y))) ≡ over i (less c s) (λ y. f (x ∷ place c y)) = over_agree i (less c s) (λ y. f (place c (x ∷ y))) (λ y. f (x ∷ place c y)) (λ y _. ap f (place-later c x y (omega arith))) in
    let b : over (suc i) (less c (x ∷ s)) (λ y. f (place c y)) ≡ over (suc i) (x ∷ less c s) (λ y. f (place c y)) = ap (λ z. over (suc i) z (λ y. f (place c y))) (less-later c x s ne) in
    omega (arith, over-cons i x (less c s) (λ y. f (place c y)))

times_step : (i a b t u v : ℕ) → t ≡ a → u ≡ suc i * a → v ≡ suc (suc i) * b → t + (u + v) ≡ suc (suc i) * (a + b)
times_step i a b t u v p q r = rw (p, q, r) (omega (arith, suc-mul (suc i) a, suc-mul (suc i) (a + b), mul-add (suc (suc i)) a b, suc-mul (suc i) b, mul-add (suc i) a b))

-- each set is met once for each of its members
pub singled : (j : ℕ) (s : List ℕ) (f : List ℕ → ℕ) → IsRising s → sum_by (λ c. over j (less c s) (λ y. f (place c y))) s ≡ suc j * over (suc j) s f
singled j [] f r = rw (over-none j f) (omega arith)
singled zero (x ∷ s) f r =
    let a : over 0 (less x (x ∷ s)) (λ y. f (place x y)) ≡ over 0 s (λ y. f (x ∷ y)) = first_single 0 x s f r.0 in
    let b : sum_by (λ c. over 0 (less c (x ∷ s)) (λ y. f (place c y))) s ≡ sum_by (λ c. over 0 (less c s) (λ y. f (place c y))) s = sum_agree (λ c. over 0 (less c (x ∷ s)) (λ y. f (place c y))) (λ c. over 0 (less c s) (λ y. f (place c y))) s (λ c _. over-zero (less c (x ∷ s)) (λ y. f (place c y)) ∙ sym (over-zero (less c s) (λ y. f (place c y)))) in
    let ih : sum_by (λ c. over 0 (less c s) (λ y. f (place c y))) s ≡ 1 * over 1 s f = singled 0 s f r.1 in
    let e : sum_by (λ c. over 0 (less c (x ∷ s)) (λ y. f (place c y))) (x ∷ s) ≡ over 0 (less x (x ∷ s)) (λ y. f (place x y)) + sum_by (λ c. over 0 (less c (x ∷ s)) (λ y. f (place c y))) s = sum_by-cons (λ c. over 0 (less c (x ∷ s)) (λ y. f (place c y))) x s in
    e ∙ omega (arith, over-cons 0 x s f)
singled (suc i) (x ∷ s) f r =
    let t : ℕ → ℕ = λ c. over (suc i) (less c (x ∷ s)) (λ y. f (place c y)) in
    let u : ℕ → ℕ = λ c. over i (less c s) (λ y. f (x ∷ place c y)) in
    let v : ℕ → ℕ = λ c. over (suc i) (less c s) (λ y. f (place c y)) in
    let a : t x ≡ over (suc i) s (λ y. f (x ∷ y)) = first_single (suc i) x s f r.0 in
    let b : sum_by t s ≡ sum_by (λ c. u c + v c) s = sum_agree t (λ c. u c + v c) s (λ c h. later_single i x c s f (member_above x s c r.0 h)) in
    let d : sum_by (λ c. u c + v c) s ≡ sum_by u s + sum_by v s = sum-plus u v s in
    let p : sum_by u s ≡ suc i * over (suc i) s (λ y. f (x ∷ y)) = singled i s (λ y. f (x ∷ y)) r.1 in
    let q : sum_by v s ≡ suc (suc i) * over (suc (suc i)) s f = singled (suc i) s f r.1 in
    let e : sum_by t (x ∷ s) ≡ t x + sum_by t s = sum_by-cons t x s in
    let w : t x + (sum_by u s + sum_by v s) ≡ suc (suc i) * (over (suc i) s (λ y. f (x ∷ y)) + over (suc (suc i)) s f) = times_step i (over (suc i) s (λ y. f (x ∷ y))) (over (suc (suc i)) s f) (t x) (sum_by u s) (sum_by v s) a p q in
    e ∙ ap (λ m. t x + m) (b ∙ d) ∙ w ∙ ap (λ m. suc (suc i) * m) (sym (over-cons (suc i) x s f))

without-keep : (d : ℕ) (s a : List ℕ) → has a d ≡ false → without (d ∷ s) a ≡ d ∷ without s a
unfolding without
without-keep d s a h = ap (λ b. cond (not b) (d ∷ without s a) (without s a)) h

without-drop : (d : ℕ) (s a : List ℕ) → has a d ≡ true → without (d ∷ s) a ≡ without s a
unfolding without
without-drop d s a h = ap (λ b. cond (not b) (d ∷ without s a) (without s a)) h

without-nothing : (a : List ℕ) → without [] a ≡ []
unfolding without
without-nothing a = refl

-- taking one card away and taking a list away, in either order
pub without_less : (s a : List ℕ) (c : ℕ) → without (less c s) a ≡ less c (without s a)
without_less [] a c = ap (λ z. without z a) (less-none c) ∙ without-nothing a ∙ sym (less-none c) ∙ ap (λ z. less c z) (sym (without-nothing a))
without_less (d ∷ s) a c = elim (cases_eq c d) [
  | inl e ↦ here e (without_less s a c) (cases_Bool (has a d))
  | inr ne ↦ later ne (without_less s a c) (cases_Bool (has a d))
]
  where
    here : c ≡ d → without (less c s) a ≡ less c (without s a) → (has a d ≡ true) ⊎ (has a d ≡ false) → without (less c (d ∷ s)) a ≡ less c (without (d ∷ s) a)
    here e ih t =
        let p : without (less c (d ∷ s)) a ≡ less c (without s a) = ap (λ z. without (less c (z ∷ s)) a) (sym e) ∙ ap (λ z. without z a) (less-here c s) ∙ ih in
        elim t [
          | inl h ↦ p ∙ ap (λ z. less c z) (sym (without-drop d s a h))
          | inr h ↦ p ∙ sym (less-here c (without s a)) ∙ ap (λ z. less c (z ∷ without s a)) e ∙ ap (λ z. less c z) (sym (without-keep d s a h))
        ]

    later : (c ≡ d → ⊥) → without (less c s) a ≡ less c (without s a) → (has a d ≡ true) ⊎ (has a d ≡ false) → without (less c (d ∷ s)) a ≡ less c (without (d ∷ s) a)
    later ne ih (inl h) = ap (λ z. without z a) (less-later c d s ne) ∙ without-drop d (less c s) a h ∙ ih ∙ ap (λ z. less c z) (sym (without-drop d s a h))
    later ne ih (inr h) = ap (λ z. without z a) (less-later c d s ne) ∙ without-keep d (less c s) a h ∙ ap (λ z. d ∷ z) ih ∙ sym (less-later c d (without s a) ne) ∙ ap (λ z. less c z) (sym (without-keep d s a h))

later_has : (d : ℕ) (s : List ℕ) (c : ℕ) → has s c ≡ true → has (d ∷ s) c ≡ true
later_has d s c h = has-cons d s c ∙ or_right (d == c) (has s c) h

pub without_has : (s a : List ℕ) (c : ℕ) → has (without s a) c ≡ true → (has s c ≡ true) × (has a c ≡ false)
without_has [] a c h = absurd (false≢true (sym (ap (λ z. has z c) (without-nothing a) ∙ has-none c) ∙ h))
without_has (d ∷ s) a c h = by_case (cases_Bool (has a d)) (cases_eq d c) (λ k. without_has s a c k)
  where
    by_case : (has a d ≡ true) ⊎ (has a d ≡ false) → (d ≡ c) ⊎ (d ≡ c → ⊥) → (has (without s a) c ≡ true → (has s c ≡ true) × (has a c ≡ false)) → (has (d ∷ s) c ≡ true) × (has a c ≡ false)
    by_case (inl k) q ih = let r : (has s c ≡ true) × (has a c ≡ false) = ih (sym (ap (λ z. has z c) (without-drop d s a k)) ∙ h) in (later_has d s c r.0, r.1)
    by_case (inr k) (inl e) ih = (ap (λ z. has (d ∷ s) z) (sym e) ∙ has-here d s, ap (λ z. has a z) (sym e) ∙ k)
    by_case (inr k) (inr ne) ih =
        let r : (has s c ≡ true) × (has a c ≡ false) = ih (sym (has-later d (without s a) c ne) ∙ sym (ap (λ z. has z c) (without-keep d s a k)) ∙ h) in
        (later_has d s c r.0, r.1)

-- one member more
one_more_over : (n j : ℕ) (s : List ℕ) (f : List ℕ → ℕ) (c : ℕ) → IsRising s → Within s (deck n) → length s + suc j ≡ 5 → has (without (deck n) s) c ≡ true →
    over 5 (deck n) (with_all (c ∷ s) f) ≡ over j (less c (without (deck n) s)) (λ y. f (joined s (place c y)))
one_more_over n j s f c r w five h =
    let k : (has (deck n) c ≡ true) × (has s c ≡ false) = without_has (deck n) s c h in
    let e0 : 5 ≡ suc (length s) + j = omega arith in
    let e1 : over 5 (deck n) (with_all (c ∷ s) f) ≡ over (suc (length s) + j) (deck n) (with_all (c ∷ s) f) = ap (λ i. over i (deck n) (with_all (c ∷ s) f)) e0 in
    let e2 : over (suc (length s) + j) (deck n) (with_all (c ∷ s) f) ≡ over j (without (deck n) (c ∷ s)) (λ y. f (joined (c ∷ s) y)) = with_all_over (c ∷ s) (deck n) j f (rising-deck n) (k.1, rises_apart s r) (k.0, w) in
    let e3 : over j (without (deck n) (c ∷ s)) (λ y. f (joined (c ∷ s) y)) ≡ over j (less c (without (deck n) s)) (λ y. f (joined (c ∷ s) y)) = ap (λ z. over j z (λ y. f (joined (c ∷ s) y))) (without-cons (deck n) c s ∙ without_less (deck n) s c) in
    let e4 : over j (less c (without (deck n) s)) (λ y. f (joined (c ∷ s) y)) ≡ over j (less c (without (deck n) s)) (λ y. f (joined s (place c y))) = over_agree j (less c (without (deck n) s)) (λ y. f (joined (c ∷ s) y)) (λ y. f (joined s (place c y))) (λ y _. ap f (joined-cons c s y ∙ sym (joined_place s c y))) in
    e1 ∙ e2 ∙ e3 ∙ e4

-- the sums over the sets with one member more meet each set of five once for each of its other members
pub level : (n j : ℕ) (s : List ℕ) (f : List ℕ → ℕ) → IsRising s → Within s (deck n) → length s + suc j ≡ 5 → sum_by (λ c. over 5 (deck n) (with_all (c ∷ s) f)) (without (deck n) s) ≡ suc j * over 5 (deck n) (with_all s f)
level n j s f r w five =
    let rest : List ℕ = without (deck n) s in
    let g : List ℕ → ℕ = λ y. f (joined s y) in
    let a : sum_by (λ c. over 5 (deck n) (with_all (c ∷ s) f)) rest ≡ sum_by (λ c. over j (less c rest) (λ y. g (place c y))) rest = sum_agree (λ c. over 5 (deck n) (with_all (c ∷ s) f)) (λ c. over j (less c rest) (λ y. g (place c y))) rest (λ c h. one_more_over n j s f c r w five h) in
    let b : sum_by (λ c. over j (less c rest) (λ y. g (place c y))) rest ≡ suc j * over (suc j) rest g = singled j rest g (rising-without n s) in
    let d : over (suc j) rest g ≡ over 5 (deck n) (with_all s f) = sym (with_all_over s (deck n) (suc j) f (rising-deck n) (rises_apart s r) w) ∙ ap (λ i. over i (deck n) (with_all s f)) five in
    a ∙ b ∙ ap (λ m. suc j * m) d

has_all_place : (h : List ℕ) (c : ℕ) (s : List ℕ) → has_all h (place c s) ≡ has_all h (c ∷ s)
unfolding has_all
has_all_place h c [] = ap (λ z. has_all h z) (place-none c)
has_all_place h c (d ∷ s) =
    let e : (c < d) ⊎ (d ≤ c) = cases_lt c d in
    elim e [
      | inl l ↦ ap (λ z. has_all h z) (place-here c d s l)
      | inr l ↦ ap (λ z. has_all h z) (place-later c d s l) ∙ ap (λ b. has h d && b) (has_all_place h c s) ∙ swap (has h d) (has h c) (has_all h s)
    ]
  where
    swap : (a b t : Bool) → (a && (b && t)) ≡ (b && (a && t))
    swap true true t = refl
    swap true false t = refl
    swap false true t = refl
    swap false false t = refl

containing_place : (n : ℕ) (w : List ℕ) (c : ℕ) (s : List ℕ) → containing n w (place c s) ≡ over 5 (deck n) (with_all (c ∷ s) (number w))
unfolding containing
containing_place n w c s =
    sym (over_is 5 (deck n) (λ h. cond (has_all h (place c s)) (number w h) 0))
    ∙ over_agree 5 (deck n) (λ h. cond (has_all h (place c s)) (number w h) 0) (λ h. cond (has_all h (c ∷ s)) (number w h) 0) (λ h _. ap (λ b. cond b (number w h) 0) (has_all_place h c s))
    ∙ over_is 5 (deck n) (λ h. cond (has_all h (c ∷ s)) (number w h) 0)
    ∙ sym (containing_is n w (c ∷ s))

-- the sum for a set, from those for the sets with one member more
pub level_sum : (n j : ℕ) (w s : List ℕ) → IsSet n s → length s + suc j ≡ 5 → sum_by (λ c. containing n w (place c s)) (without (deck n) s) ≡ suc j * containing n w s
level_sum n j w s h five =
    sum_agree (λ c. containing n w (place c s)) (λ c. over 5 (deck n) (with_all (c ∷ s) (number w))) (without (deck n) s) (λ c _. containing_place n w c s)
    ∙ level n j s (number w) (set_rises n s h) (within_deck n s (set_below n s h)) five
    ∙ ap (λ m. suc j * m) (containing_is n w s)

-- a set of five has its own number alone
pub containing_five : (n : ℕ) (w s : List ℕ) → IsSet n s → length s ≡ 5 → containing n w s ≡ number w s
containing_five n w s h five =
    let e0 : 5 ≡ length s + 0 = omega arith in
    sym (containing_is n w s)
    ∙ ap (λ i. over i (deck n) (with_all s (number w))) e0
    ∙ with_all_over s (deck n) 0 (number w) (rising-deck n) (rises_apart s (set_rises n s h)) (within_deck n s (set_below n s h))
    ∙ over-zero (without (deck n) s) (λ y. number w (joined s y))
    ∙ ap (number w) (joined-rising s (set_rises n s h))

get_or_le : (w : List ℕ) (m i : ℕ) → All (λ x. x ≤ m) w → get_or w i 0 ≤ m
get_or_le w m i h =
    let e : (i < length w) ⊎ (length w ≤ i) = cases_lt i (length w) in
    elim e [ inl l ↦ h i 0 l | inr l ↦ subst (λ v. v ≤ m) (sym (get_or_past w i 0 l)) (omega arith) ]

number_le : (w : List ℕ) (m : ℕ) (s h : List ℕ) → All (λ x. x ≤ m) w → cond (has_all h s) (number w h) 0 ≤ m
unfolding number
number_le w m s h a = by_test (has_all h s)
  where
    by_test : (b : Bool) → cond b (get_or w (set_index h) 0) 0 ≤ m
    by_test true = get_or_le w m (set_index h) a
    by_test false = omega arith

-- a bound on the numbers bounds the sums
pub containing_le : (n : ℕ) (w s : List ℕ) (m : ℕ) → All (λ x. x ≤ m) w → containing n w s ≤ choose n 5 * m
unfolding containing
containing_le n w s m a =
    let b : sum_by (λ h. cond (has_all h s) (number w h) 0) (combos 5 (deck n)) ≤ length (combos 5 (deck n)) * m = sum_by-le (λ h. cond (has_all h s) (number w h) 0) m (combos 5 (deck n)) (λ k d l. number_le w m s (get_or (combos 5 (deck n)) k d) a) in
    subst (λ x. sum_by (λ h. cond (has_all h s) (number w h) 0) (combos 5 (deck n)) ≤ x * m) (length-combos 5 (deck n) ∙ ap (λ x. choose x 5) (length-deck n)) b
