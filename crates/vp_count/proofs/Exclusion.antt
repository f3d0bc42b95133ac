-- Inclusion and exclusion, one card at a time.
use Rattle.std.proofs.Common.{◌≡◌, ◌⊎◌, inl, inr, ℕ, ◌+◌, ◌/◌, ◌%◌, refl, ap, sym, ◌∙◌, arith, zero-add, Bool, true, false, cond, not, ◌&&◌, ◌==◌, List, [], ◌∷◌, ◌++◌, length, append_assoc, append-nil}
use Rattle.std.specs.List.{sum_by}
use Rattle.std.proofs.Math.Path.{fun_ext}
use Rattle.std.proofs.lemmas.Bool.{cases_Bool}
use Rattle.std.proofs.lemmas.List.Folds.{list_all-append}
use Rattle.vp_card.specs.Cards.{held}
use Rattle.vp_sets.specs.Sets.{deck, combos, has}
use Rattle.vp_sets.specs.Subsets.{has_all}
use Rattle.vp_sets.specs.Index.{IsSet}
use Rattle.vp_sets.specs.Draws.{discarded}
use Rattle.vp_sets.proofs.Sublists.{sum_by-plus}
use Rattle.vp_sets.proofs.Over.{over, over_is, over_agree}
use Rattle.vp_sets.proofs.Spread.{only_with, only_without, only_with-yes, only_with-no, only_without-yes, only_without-no}
use Rattle.vp_sets.proofs.Bridge.{with_all, kept, kept-none, kept-held, kept-discarded, held-held, held-discarded, discarded-none, discarded-held, discarded-discarded, spread_is}
use Rattle.vp_count.specs.Sums.{number, containing, excluding, has_none, part, spread}

pub with_all-none : (f : List ℕ → ℕ) → with_all [] f ≡ f
unfolding with_all
with_all-none f = refl

pub with_all-cons : (c : ℕ) (a : List ℕ) (f : List ℕ → ℕ) → with_all (c ∷ a) f ≡ only_with c (with_all a f)
unfolding with_all
with_all-cons c a f = refl

with_all_at : (a : List ℕ) (f : List ℕ → ℕ) (h : List ℕ) → with_all a f h ≡ cond (has_all h a) (f h) 0
unfolding with_all has_all only_with
with_all_at [] f h = refl
with_all_at (c ∷ a) f h = by_test (has h c) (with_all_at a f h)
  where
    by_test : (b : Bool) → with_all a f h ≡ cond (has_all h a) (f h) 0 → cond b (with_all a f h) 0 ≡ cond (b && has_all h a) (f h) 0
    by_test true ih = ih
    by_test false ih = refl

-- the sum over the sets that contain a
pub containing_is : (n : ℕ) (w a : List ℕ) → over 5 (deck n) (with_all a (number w)) ≡ containing n w a
unfolding containing
containing_is n w a =
    over_agree 5 (deck n) (with_all a (number w)) (λ h. cond (has_all h a) (number w h) 0) (λ h _. with_all_at a (number w) h)
    ∙ over_is 5 (deck n) (λ h. cond (has_all h a) (number w h) 0)

only_with-at : (c : ℕ) (f : List ℕ → ℕ) (h : List ℕ) → only_with c f h ≡ cond (has h c) (f h) 0
unfolding only_with
only_with-at c f h = refl

only_without-at : (c : ℕ) (f : List ℕ → ℕ) (h : List ℕ) → only_without c f h ≡ cond (has h c) 0 (f h)
unfolding only_without
only_without-at c f h = refl

pub only_sum : (d : ℕ) (f g e : List ℕ → ℕ) (h : List ℕ) → f h + g h ≡ e h → only_with d f h + only_with d g h ≡ only_with d e h
only_sum d f g e h s =
    let t : (has h d ≡ true) ⊎ (has h d ≡ false) = cases_Bool (has h d) in
    elim t [
      | inl y ↦ omega (arith, only_with-yes d f h y, only_with-yes d g h y, only_with-yes d e h y)
      | inr z ↦ omega (arith, only_with-no d f h z, only_with-no d g h z, only_with-no d e h z)
    ]

pub parts : (c : ℕ) (g : List ℕ → ℕ) (h : List ℕ) → only_without c g h + only_with c g h ≡ g h
parts c g h =
    let t : (has h c ≡ true) ⊎ (has h c ≡ false) = cases_Bool (has h c) in
    elim t [
      | inl y ↦ omega (arith, only_without-yes c g h y, only_with-yes c g h y)
      | inr z ↦ omega (arith, only_without-no c g h z, only_with-no c g h z)
    ]

-- ---- sets with some cards and none of others

has_all-cons : (h : List ℕ) (c : ℕ) (s : List ℕ) → has_all h (c ∷ s) ≡ (has h c && has_all h s)
unfolding has_all
has_all-cons h c s = refl

has_none-cons : (h : List ℕ) (c : ℕ) (s : List ℕ) → has_none h (c ∷ s) ≡ (not (has h c) && has_none h s)
unfolding has_none
has_none-cons h c s = refl

has_all-append : (h a b : List ℕ) → has_all h (a ++ b) ≡ (has_all h a && has_all h b)
unfolding has_all
has_all-append h a b = list_all-append (λ c. has h c) a b

-- the number of a set that has all of s and none of d, 0 for another
counted : List ℕ → List ℕ → List ℕ → List ℕ → ℕ
counted w s d h = cond (has_all h s && has_none h d) (number w h) 0

excluding_is : (n : ℕ) (w s d : List ℕ) → excluding n w s d ≡ sum_by (counted w s d) (combos 5 (deck n))
unfolding excluding counted
excluding_is n w s d = refl

-- the same sets are meant
excluding_alike : (n : ℕ) (w s t d e : List ℕ) → ((h : List ℕ) → (has_all h s && has_none h d) ≡ (has_all h t && has_none h e)) → excluding n w s d ≡ excluding n w t e
unfolding excluding
excluding_alike n w s t d e same = ap (λ (f : List ℕ → ℕ). sum_by f (combos 5 (deck n))) (fun_ext (λ h. ap (λ b. cond b (number w h) 0) (same h)))

pub nothing_excluded : (n : ℕ) (w s : List ℕ) → excluding n w s [] ≡ containing n w s
unfolding excluding containing has_none
nothing_excluded n w s = ap (λ (f : List ℕ → ℕ). sum_by f (combos 5 (deck n))) (fun_ext (λ h. ap (λ b. cond b (number w h) 0) (also_true (has_all h s))))
  where
    also_true : (b : Bool) → (b && true) ≡ b
    also_true true = refl
    also_true false = refl

one_at : (w s d : List ℕ) (x : ℕ) (h : List ℕ) → counted w s (x ∷ d) h + counted w (x ∷ s) d h ≡ counted w s d h
unfolding counted
one_at w s d x h = rw (has_none-cons h x d, has_all-cons h x s) (by_tests (has h x) (has_all h s) (has_none h d) (number w h))
  where
    by_tests : (b p q : Bool) (v : ℕ) → cond (p && (not b && q)) v 0 + cond ((b && p) && q) v 0 ≡ cond (p && q) v 0
    by_tests true true q v = zero-add (cond q v 0)
    by_tests true false q v = refl
    by_tests false true q v = omega arith
    by_tests false false q v = refl

-- the sets without a card and those with it
pub one_excluded : (n : ℕ) (w s d : List ℕ) (x : ℕ) → excluding n w s (x ∷ d) + excluding n w (x ∷ s) d ≡ excluding n w s d
one_excluded n w s d x =
    let all : List (List ℕ) = combos 5 (deck n) in
    let both : sum_by (λ h. counted w s (x ∷ d) h + counted w (x ∷ s) d h) all ≡ sum_by (counted w s (x ∷ d)) all + sum_by (counted w (x ∷ s) d) all = sum_by-plus (counted w s (x ∷ d)) (counted w (x ∷ s) d) all in
    let same : sum_by (λ h. counted w s (x ∷ d) h + counted w (x ∷ s) d h) all ≡ sum_by (counted w s d) all = ap (λ (f : List ℕ → ℕ). sum_by f all) (fun_ext (one_at w s d x)) in
    omega (arith, excluding_is n w s (x ∷ d), excluding_is n w (x ∷ s) d, excluding_is n w s d)

-- a card may stand in front of the others or among them
moved : (n : ℕ) (w a : List ℕ) (c : ℕ) (b d : List ℕ) → excluding n w (a ++ c ∷ b) d ≡ excluding n w (c ∷ (a ++ b)) d
moved n w a c b d = excluding_alike n w (a ++ c ∷ b) (c ∷ (a ++ b)) d d (λ h. ap (λ p. p && has_none h d) (at h))
  where
    swap : (p q r : Bool) → (p && (q && r)) ≡ (q && (p && r))
    swap true true r = refl
    swap true false r = refl
    swap false true r = refl
    swap false false r = refl

    at : (h : List ℕ) → has_all h (a ++ c ∷ b) ≡ has_all h (c ∷ (a ++ b))
    at h = has_all-append h a (c ∷ b) ∙ ap (λ q. has_all h a && q) (has_all-cons h c b) ∙ swap (has_all h a) (has h c) (has_all h b) ∙ ap (λ q. has h c && q) (sym (has_all-append h a b)) ∙ sym (has_all-cons h c (a ++ b))

-- ---- parts of a hold, card by card

pub part-none : (n : ℕ) (w a : List ℕ) (m : ℕ) → part n w a [] m ≡ containing n w a
unfolding part
part-none n w a m = ap (λ z. excluding n w z (discarded m [])) (append-nil a) ∙ ap (λ z. excluding n w a z) (discarded-none m) ∙ nothing_excluded n w a

pub part-held : (n : ℕ) (w a : List ℕ) (c : ℕ) (rest : List ℕ) (m : ℕ) → (m % 2 == 1) ≡ true → part n w a (c ∷ rest) m ≡ part n w (a ++ c ∷ []) rest (m / 2)
unfolding part
part-held n w a c rest m h =
    ap (λ z. excluding n w (a ++ z) (discarded m (c ∷ rest))) (held-held m c rest h)
    ∙ ap (λ z. excluding n w (a ++ c ∷ held (m / 2) rest) z) (discarded-held m c rest h)
    ∙ ap (λ z. excluding n w z (discarded (m / 2) rest)) (sym (append_assoc a (c ∷ []) (held (m / 2) rest)))

-- the sets without a discard and those with it are the sets of the hold of the other cards
pub part-discarded : (n : ℕ) (w a : List ℕ) (c : ℕ) (rest : List ℕ) (m : ℕ) → (m % 2 == 1) ≡ false → part n w a (c ∷ rest) m + part n w (a ++ c ∷ []) rest (m / 2) ≡ part n w a rest (m / 2)
unfolding part
part-discarded n w a c rest m h =
    let b : List ℕ = held (m / 2) rest in
    let d : List ℕ = discarded (m / 2) rest in
    let p : excluding n w (a ++ held m (c ∷ rest)) (discarded m (c ∷ rest)) ≡ excluding n w (a ++ b) (c ∷ d) =
    ap (λ z. excluding n w (a ++ z) (discarded m (c ∷ rest))) (held-discarded m c rest h) ∙ ap (λ z. excluding n w (a ++ b) z) (discarded-discarded m c rest h) in
    let q : excluding n w ((a ++ c ∷ []) ++ b) d ≡ excluding n w (c ∷ (a ++ b)) d = ap (λ z. excluding n w z d) (append_assoc a (c ∷ []) b) ∙ moved n w a c b d in
    omega (arith, one_excluded n w (a ++ b) d c)

-- ---- the draws of a hold

all_of_none : (h : List ℕ) → (has_all h [] && has_none h []) ≡ true
unfolding has_all has_none
all_of_none h = refl

kept_at : (m : ℕ) (cs : List ℕ) (f : List ℕ → ℕ) (h : List ℕ) → kept m cs f h ≡ cond (has_all h (held m cs) && has_none h (discarded m cs)) (f h) 0
kept_at m [] f h = ap (λ (g : List ℕ → ℕ). g h) (kept-none m f) ∙ sym (ap (λ z. cond (has_all h [] && has_none h z) (f h) 0) (discarded-none m) ∙ nothing h)
  where
    nothing : (h : List ℕ) → cond (has_all h [] && has_none h []) (f h) 0 ≡ f h
    nothing h = ap (λ b. cond b (f h) 0) (all_of_none h)
kept_at m (c ∷ cs) f h = by_mask (cases_Bool (m % 2 == 1)) (kept_at (m / 2) cs f h)
  where
    with : (b p q : Bool) (v : ℕ) → cond b (cond (p && q) v 0) 0 ≡ cond ((b && p) && q) v 0
    with true p q v = refl
    with false p q v = refl

    none : (b p q : Bool) (v : ℕ) → cond b 0 (cond (p && q) v 0) ≡ cond (p && (not b && q)) v 0
    none true true q v = refl
    none true false q v = refl
    none false p q v = refl

    by_mask : ((m % 2 == 1) ≡ true) ⊎ ((m % 2 == 1) ≡ false) → kept (m / 2) cs f h ≡ cond (has_all h (held (m / 2) cs) && has_none h (discarded (m / 2) cs)) (f h) 0
        → kept m (c ∷ cs) f h ≡ cond (has_all h (held m (c ∷ cs)) && has_none h (discarded m (c ∷ cs))) (f h) 0
    by_mask (inl t) ih =
        ap (λ (g : List ℕ → ℕ). g h) (kept-held m c cs f t)
        ∙ only_with-at c (kept (m / 2) cs f) h
        ∙ ap (λ v. cond (has h c) v 0) ih
        ∙ with (has h c) (has_all h (held (m / 2) cs)) (has_none h (discarded (m / 2) cs)) (f h)
        ∙ ap (λ p. cond (p && has_none h (discarded (m / 2) cs)) (f h) 0) (sym (has_all-cons h c (held (m / 2) cs)))
        ∙ ap (λ z. cond (has_all h z && has_none h (discarded (m / 2) cs)) (f h) 0) (sym (held-held m c cs t))
        ∙ ap (λ z. cond (has_all h (held m (c ∷ cs)) && has_none h z) (f h) 0) (sym (discarded-held m c cs t))
    by_mask (inr t) ih =
        ap (λ (g : List ℕ → ℕ). g h) (kept-discarded m c cs f t)
        ∙ only_without-at c (kept (m / 2) cs f) h
        ∙ ap (λ v. cond (has h c) 0 v) ih
        ∙ none (has h c) (has_all h (held (m / 2) cs)) (has_none h (discarded (m / 2) cs)) (f h)
        ∙ ap (λ p. cond (has_all h (held (m / 2) cs) && p) (f h) 0) (sym (has_none-cons h c (discarded (m / 2) cs)))
        ∙ ap (λ z. cond (has_all h z && has_none h (c ∷ discarded (m / 2) cs)) (f h) 0) (sym (held-discarded m c cs t))
        ∙ ap (λ z. cond (has_all h (held m (c ∷ cs)) && has_none h z) (f h) 0) (sym (discarded-discarded m c cs t))

-- the sum over all draws is the sum over the sets that have the held cards and no discard
pub draws_exclude : (n : ℕ) (w hand : List ℕ) (m : ℕ) → IsSet n hand → length hand ≡ 5 → spread n w hand m ≡ excluding n w (held m hand) (discarded m hand)
unfolding spread excluding
draws_exclude n w hand m h five =
    sym (spread_is (number w) n hand m h five)
    ∙ over_agree 5 (deck n) (kept m hand (number w)) (λ h. cond (has_all h (held m hand) && has_none h (discarded m hand)) (number w h) 0) (λ h _. kept_at m hand (number w) h)
    ∙ over_is 5 (deck n) (λ h. cond (has_all h (held m hand) && has_none h (discarded m hand)) (number w h) 0)

pub part_spread : (n : ℕ) (w hand : List ℕ) (m : ℕ) → IsSet n hand → length hand ≡ 5 → part n w [] hand m ≡ spread n w hand m
unfolding part
part_spread n w hand m h five = sym (draws_exclude n w hand m h five)
