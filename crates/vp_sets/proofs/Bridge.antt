-- The sum over the draws of a hold is a sum over all sets, of which those count that have the held cards and no discard.
use Rattle.std.proofs.Common.{◌≡◌, ◌⊎◌, inl, inr, ℕ, zero, suc, ◌+◌, ◌/◌, ◌%◌, ◌<◌, ◌≤◌, refl, ap, sym, ◌∙◌, arith, Bool, true, false, cond, not, ◌||◌, ◌==◌, List, [], ◌∷◌, ◌++◌, length}
use Rattle.std.proofs.lemmas.Bool.{cases_eq, cases_Bool, eq-eqb, ne_eqb, or_left, or_right, cond-true, cond-false, false≢true, true≢false}
use Rattle.vp_sets.specs.Sets.{deck, has, without}
use Rattle.vp_card.specs.Cards.{held, place, joined}
use Rattle.vp_card.specs.Rising.{IsBelow, IsRising}
use Rattle.vp_sets.specs.Draws.{discarded, draws, sum_over_draws}
use Rattle.vp_sets.specs.Index.{IsSet}
use Rattle.vp_sets.proofs.Decks.{rising-deck}
use Rattle.vp_sets.proofs.Colex.{Below, set_rises, set_below}
use Rattle.vp_sets.proofs.Holds.{length-held}
use Rattle.vp_sets.proofs.Over.{less, over, over_is, over_agree}
use Rattle.vp_card.proofs.Rising.{place-none, place-here, place-later, joined-none, joined-cons}
use Rattle.vp_sets.proofs.Spread.{has-none, has-here, has-later, has-cons, less-rises, less-keeps, only_with, only_without, over_with, over_without}

-- all members of the one list are in the other
abbrev pub Within : List ℕ → List ℕ → Type 0
Within [] s = Unit {0}
Within (c ∷ cs) s = (has s c ≡ true) × Within cs s

-- f of the sets that have every card of a; 0 for the others
unfoldable pub with_all : List ℕ → (List ℕ → ℕ) → List ℕ → ℕ
with_all [] f = f
with_all (c ∷ a) f = only_with c (with_all a f)

-- f of the sets that have the held cards and none of the discards; 0 for the others
unfoldable pub kept : ℕ → List ℕ → (List ℕ → ℕ) → List ℕ → ℕ
kept mask [] f = f
kept mask (c ∷ cs) f = cond (mask % 2 == 1) (only_with c (kept (mask / 2) cs f)) (only_without c (kept (mask / 2) cs f))

pub kept-none : (m : ℕ) (f : List ℕ → ℕ) → kept m [] f ≡ f
unfolding kept
kept-none m f = refl

pub kept-held : (m c : ℕ) (cs : List ℕ) (f : List ℕ → ℕ) → (m % 2 == 1) ≡ true → kept m (c ∷ cs) f ≡ only_with c (kept (m / 2) cs f)
unfolding kept
kept-held m c cs f h = ap (λ b. cond b (only_with c (kept (m / 2) cs f)) (only_without c (kept (m / 2) cs f))) h

pub kept-discarded : (m c : ℕ) (cs : List ℕ) (f : List ℕ → ℕ) → (m % 2 == 1) ≡ false → kept m (c ∷ cs) f ≡ only_without c (kept (m / 2) cs f)
unfolding kept
kept-discarded m c cs f h = ap (λ b. cond b (only_with c (kept (m / 2) cs f)) (only_without c (kept (m / 2) cs f))) h

pub held-none : (m : ℕ) → held m [] ≡ []
held-none m = refl

pub held-held : (m c : ℕ) (cs : List ℕ) → (m % 2 == 1) ≡ true → held m (c ∷ cs) ≡ c ∷ held (m / 2) cs
held-held m c cs h = cond-true (m % 2 == 1) (c ∷ held (m / 2) cs) (held (m / 2) cs) h

pub held-discarded : (m c : ℕ) (cs : List ℕ) → (m % 2 == 1) ≡ false → held m (c ∷ cs) ≡ held (m / 2) cs
held-discarded m c cs h = cond-false (m % 2 == 1) (c ∷ held (m / 2) cs) (held (m / 2) cs) h

pub discarded-none : (m : ℕ) → discarded m [] ≡ []
unfolding discarded
discarded-none m = refl

pub discarded-held : (m c : ℕ) (cs : List ℕ) → (m % 2 == 1) ≡ true → discarded m (c ∷ cs) ≡ discarded (m / 2) cs
unfolding discarded
discarded-held m c cs h = cond-true (m % 2 == 1) (discarded (m / 2) cs) (c ∷ discarded (m / 2) cs) h

pub discarded-discarded : (m c : ℕ) (cs : List ℕ) → (m % 2 == 1) ≡ false → discarded m (c ∷ cs) ≡ c ∷ discarded (m / 2) cs
unfolding discarded
discarded-discarded m c cs h = cond-false (m % 2 == 1) (discarded (m / 2) cs) (c ∷ discarded (m / 2) cs) h

pub has-place : (c x : ℕ) (y : List ℕ) → (c ≡ x → ⊥) → has (place c y) x ≡ has y x
has-place c x [] ne = ap (λ r. has r x) (place-none c) ∙ has-later c [] x ne
has-place c x (d ∷ y) ne =
    let e : (c < d) ⊎ (d ≤ c) = cases_at c d in
    elim e [
      | inl l ↦ ap (λ r. has r x) (place-here c d y l) ∙ has-later c (d ∷ y) x ne
      | inr l ↦ ap (λ r. has r x) (place-later c d y l) ∙ has-cons d (place c y) x ∙ ap (λ b. (d == x) || b) (has-place c x y ne) ∙ sym (has-cons d y x)
    ]
  where
    cases_at : (c d : ℕ) → (c < d) ⊎ (d ≤ c)
    cases_at c d = Rattle.std.proofs.lemmas.Bool.cases_lt c d

pub with_alike : (d : ℕ) (f g : List ℕ → ℕ) (x y : List ℕ) → has x d ≡ has y d → f x ≡ g y → only_with d f x ≡ only_with d g y
unfolding only_with
with_alike d f g x y h e = ap (λ b. cond b (f x) 0) h ∙ ap (λ v. cond (has y d) v 0) e

without_alike : (d : ℕ) (f g : List ℕ → ℕ) (x y : List ℕ) → has x d ≡ has y d → f x ≡ g y → only_without d f x ≡ only_without d g y
unfolding only_without
without_alike d f g x y h e = ap (λ b. cond b 0 (f x)) h ∙ ap (λ v. cond (has y d) 0 v) e

kept_place_at : (m c : ℕ) (cs : List ℕ) (f : List ℕ → ℕ) (y : List ℕ) → IsBelow c cs → kept m cs f (place c y) ≡ kept m cs (λ z. f (place c z)) y
kept_place_at m c [] f y a = ap (λ (g : List ℕ → ℕ). g (place c y)) (kept-none m f) ∙ sym (ap (λ (g : List ℕ → ℕ). g y) (kept-none m (λ z. f (place c z))))
kept_place_at m c (d ∷ cs) f y a =
    let ih : kept (m / 2) cs f (place c y) ≡ kept (m / 2) cs (λ z. f (place c z)) y = kept_place_at (m / 2) c cs f y a.1 in
    let ne : c ≡ d → ⊥ = (λ q. let l : c < d = a.0 in omega arith) in
    let same : has (place c y) d ≡ has y d = has-place c d y ne in
    let e : ((m % 2 == 1) ≡ true) ⊎ ((m % 2 == 1) ≡ false) = cases_Bool (m % 2 == 1) in
    elim e [
      | inl h ↦ ap (λ (g : List ℕ → ℕ). g (place c y)) (kept-held m d cs f h) ∙ with_alike d (kept (m / 2) cs f) (kept (m / 2) cs (λ z. f (place c z))) (place c y) y same ih ∙ sym (ap (λ (g : List ℕ → ℕ). g y) (kept-held m d cs (λ z. f (place c z)) h))
      | inr h ↦ ap (λ (g : List ℕ → ℕ). g (place c y)) (kept-discarded m d cs f h) ∙ without_alike d (kept (m / 2) cs f) (kept (m / 2) cs (λ z. f (place c z))) (place c y) y same ih ∙ sym (ap (λ (g : List ℕ → ℕ). g y) (kept-discarded m d cs (λ z. f (place c z)) h))
    ]

pub within_less : (c : ℕ) (cs s : List ℕ) → IsBelow c cs → Within cs s → Within cs (less c s)
within_less c [] s a h = tt
within_less c (d ∷ cs) s a h = (less-keeps c s d (λ q. let l : c < d = a.0 in omega arith) ∙ h.0, within_less c cs s a.1 h.1)

pub without-none : (s : List ℕ) → without s [] ≡ s
unfolding without has
without-none [] = refl
without-none (d ∷ s) = ap (λ r. d ∷ r) (without-none s)

pub without-cons : (s : List ℕ) (c : ℕ) (cs : List ℕ) → without s (c ∷ cs) ≡ without (less c s) cs
unfolding without has less
without-cons [] c cs = refl
without-cons (d ∷ s) c cs = by_test (c == d) (without-cons s c cs)
  where
    by_test : (b : Bool) → without s (c ∷ cs) ≡ without (less c s) cs → cond (not (b || has cs d)) (d ∷ without s (c ∷ cs)) (without s (c ∷ cs)) ≡ without (cond (not b) (d ∷ less c s) (less c s)) cs
    by_test true ih = ih
    by_test false ih = by_has (not (has cs d)) ih
      where
        by_has : (t : Bool) → without s (c ∷ cs) ≡ without (less c s) cs → cond t (d ∷ without s (c ∷ cs)) (without s (c ∷ cs)) ≡ cond t (d ∷ without (less c s) cs) (without (less c s) cs)
        by_has true ih = ap (λ r. d ∷ r) ih
        by_has false ih = ih

-- a sum over the sets that have the held cards and no discard is a sum over what stands beside the held cards
pub bridge : (m : ℕ) (hand s : List ℕ) (j : ℕ) (f : List ℕ → ℕ) → IsRising s → IsRising hand → Within hand s → over (length (held m hand) + j) s (kept m hand f) ≡ over j (without s hand) (λ y. f (joined (held m hand) y))
bridge m [] s j f r q w =
    let a : length (held m []) + j ≡ j = omega (arith, ap length (held-none m)) in
    let b : over (length (held m []) + j) s (kept m [] f) ≡ over j s f = ap (λ i. over i s (kept m [] f)) a ∙ ap (λ g. over j s g) (kept-none m f) in
    let d : over j (without s []) (λ y. f (joined (held m []) y)) ≡ over j s (λ y. f (joined (held m []) y)) = ap (λ z. over j z (λ y. f (joined (held m []) y))) (without-none s) in
    let e : over j s (λ y. f (joined (held m []) y)) ≡ over j s f = over_agree j s (λ y. f (joined (held m []) y)) f (λ y _. ap (λ h. f (joined h y)) (held-none m) ∙ ap f (joined-none y)) in
    b ∙ sym e ∙ sym d
bridge m (c ∷ cs) s j f r q w =
    let t : ((m % 2 == 1) ≡ true) ⊎ ((m % 2 == 1) ≡ false) = cases_Bool (m % 2 == 1) in
    let r' : IsRising (less c s) = less-rises c s r in
    let w' : Within cs (less c s) = within_less c cs s q.0 w.1 in
    elim t [
      | inl h ↦ hold m c cs s j f h r q w (bridge (m / 2) cs (less c s) j (λ y. f (place c y)) r' q.1 w')
      | inr h ↦ discard m c cs s j f h (bridge (m / 2) cs (less c s) j f r' q.1 w')
    ]
  where
    hold : (m c : ℕ) (cs s : List ℕ) (j : ℕ) (f : List ℕ → ℕ) → (m % 2 == 1) ≡ true → IsRising s → IsRising (c ∷ cs) → Within (c ∷ cs) s →
        over (length (held (m / 2) cs) + j) (less c s) (kept (m / 2) cs (λ y. f (place c y))) ≡ over j (without (less c s) cs) (λ y. f (place c (joined (held (m / 2) cs) y))) →
        over (length (held m (c ∷ cs)) + j) s (kept m (c ∷ cs) f) ≡ over j (without s (c ∷ cs)) (λ y. f (joined (held m (c ∷ cs)) y))
    hold m c cs s j f h r q w ih =
        let e1 : length (held m (c ∷ cs)) + j ≡ suc (length (held (m / 2) cs) + j) = omega (arith, ap length (held-held m c cs h)) in
        let e2 : over (length (held m (c ∷ cs)) + j) s (kept m (c ∷ cs) f) ≡ over (suc (length (held (m / 2) cs) + j)) s (only_with c (kept (m / 2) cs f)) = ap (λ i. over i s (kept m (c ∷ cs) f)) e1 ∙ ap (λ g. over (suc (length (held (m / 2) cs) + j)) s g) (kept-held m c cs f h) in
        let e3 : over (suc (length (held (m / 2) cs) + j)) s (only_with c (kept (m / 2) cs f)) ≡ over (length (held (m / 2) cs) + j) (less c s) (λ y. kept (m / 2) cs f (place c y)) = over_with (length (held (m / 2) cs) + j) s c (kept (m / 2) cs f) r w.0 in
        let e4 : over (length (held (m / 2) cs) + j) (less c s) (λ y. kept (m / 2) cs f (place c y)) ≡ over (length (held (m / 2) cs) + j) (less c s) (kept (m / 2) cs (λ y. f (place c y))) = over_agree (length (held (m / 2) cs) + j) (less c s) (λ y. kept (m / 2) cs f (place c y)) (kept (m / 2) cs (λ y. f (place c y))) (λ y _. kept_place_at (m / 2) c cs f y q.0) in
        let e5 : over j (without s (c ∷ cs)) (λ y. f (joined (held m (c ∷ cs)) y)) ≡ over j (without (less c s) cs) (λ y. f (joined (held m (c ∷ cs)) y)) = ap (λ z. over j z (λ y. f (joined (held m (c ∷ cs)) y))) (without-cons s c cs) in
        let e6 : over j (without (less c s) cs) (λ y. f (joined (held m (c ∷ cs)) y)) ≡ over j (without (less c s) cs) (λ y. f (place c (joined (held (m / 2) cs) y))) = over_agree j (without (less c s) cs) (λ y. f (joined (held m (c ∷ cs)) y)) (λ y. f (place c (joined (held (m / 2) cs) y))) (λ y _. ap (λ z. f (joined z y)) (held-held m c cs h) ∙ ap f (joined-cons c (held (m / 2) cs) y)) in
        e2 ∙ e3 ∙ e4 ∙ ih ∙ sym e6 ∙ sym e5

    discard : (m c : ℕ) (cs s : List ℕ) (j : ℕ) (f : List ℕ → ℕ) → (m % 2 == 1) ≡ false →
        over (length (held (m / 2) cs) + j) (less c s) (kept (m / 2) cs f) ≡ over j (without (less c s) cs) (λ y. f (joined (held (m / 2) cs) y)) →
        over (length (held m (c ∷ cs)) + j) s (kept m (c ∷ cs) f) ≡ over j (without s (c ∷ cs)) (λ y. f (joined (held m (c ∷ cs)) y))
    discard m c cs s j f h ih =
        let e2 : over (length (held m (c ∷ cs)) + j) s (kept m (c ∷ cs) f) ≡ over (length (held (m / 2) cs) + j) s (only_without c (kept (m / 2) cs f)) = ap (λ z. over (length z + j) s (kept m (c ∷ cs) f)) (held-discarded m c cs h) ∙ ap (λ g. over (length (held (m / 2) cs) + j) s g) (kept-discarded m c cs f h) in
        let e3 : over (length (held (m / 2) cs) + j) s (only_without c (kept (m / 2) cs f)) ≡ over (length (held (m / 2) cs) + j) (less c s) (kept (m / 2) cs f) = over_without (length (held (m / 2) cs) + j) s c (kept (m / 2) cs f) in
        let e5 : over j (without s (c ∷ cs)) (λ y. f (joined (held m (c ∷ cs)) y)) ≡ over j (without (less c s) cs) (λ y. f (joined (held m (c ∷ cs)) y)) = ap (λ z. over j z (λ y. f (joined (held m (c ∷ cs)) y))) (without-cons s c cs) in
        let e6 : over j (without (less c s) cs) (λ y. f (joined (held m (c ∷ cs)) y)) ≡ over j (without (less c s) cs) (λ y. f (joined (held (m / 2) cs) y)) = ap (λ z. over j (without (less c s) cs) (λ y. f (joined z y))) (held-discarded m c cs h) in
        e2 ∙ e3 ∙ ih ∙ sym e6 ∙ sym e5

-- the sum over all draws of a hold
pub draws_are : (f : List ℕ → ℕ) (n : ℕ) (hand : List ℕ) (m : ℕ) → IsRising (deck n) → IsRising hand → Within hand (deck n) → over (length hand) (deck n) (kept m hand f) ≡ sum_over_draws f n hand m
unfolding sum_over_draws draws
draws_are f n hand m r q w =
    let a : over (length hand) (deck n) (kept m hand f) ≡ over (length (held m hand) + length (discarded m hand)) (deck n) (kept m hand f) = ap (λ i. over i (deck n) (kept m hand f)) (sym (length-held m hand)) in
    a ∙ bridge m hand (deck n) (length (discarded m hand)) f r q w ∙ over_is (length (discarded m hand)) (without (deck n) hand) (λ y. f (joined (held m hand) y))

has-behind : (s : List ℕ) (n c : ℕ) → has s c ≡ true → has (s ++ n ∷ []) c ≡ true
has-behind [] n c h = absurd (false≢true (sym (has-none c) ∙ h))
has-behind (d ∷ s) n c h = has-cons d (s ++ n ∷ []) c ∙ by_test (d == c) (sym (has-cons d s c) ∙ h) (λ k. has-behind s n c k)
  where
    by_test : (b : Bool) → (b || has s c) ≡ true → (has s c ≡ true → has (s ++ n ∷ []) c ≡ true) → (b || has (s ++ n ∷ []) c) ≡ true
    by_test true k ih = refl
    by_test false k ih = ih k

has-last : (s : List ℕ) (n : ℕ) → has (s ++ n ∷ []) n ≡ true
has-last [] n = has-here n []
has-last (d ∷ s) n = has-cons d (s ++ n ∷ []) n ∙ or_right (d == n) (has (s ++ n ∷ []) n) (has-last s n)

-- the deck has each number below n
pub deck_has : (n c : ℕ) → c < n → has (deck n) c ≡ true
unfolding deck
deck_has zero c l = absurd (omega arith)
deck_has (suc n) c l =
    let e : (c ≡ n) ⊎ (c ≡ n → ⊥) = cases_eq c n in
    elim e [
      | inl p ↦ rw p (has-last (deck n) n)
      | inr ne ↦ has-behind (deck n) n c (deck_has n c (omega arith))
    ]

pub within_deck : (n : ℕ) (s : List ℕ) → Below n s → Within s (deck n)
within_deck n [] h = tt
within_deck n (c ∷ s) h = (deck_has n c h.0, within_deck n s h.1)

-- the sum over all draws of a hold is the sum over the sets of five that have the held cards and no discard
pub spread_is : (f : List ℕ → ℕ) (n : ℕ) (hand : List ℕ) (m : ℕ) → IsSet n hand → length hand ≡ 5 → over 5 (deck n) (kept m hand f) ≡ sum_over_draws f n hand m
spread_is f n hand m h five = ap (λ k. over k (deck n) (kept m hand f)) (sym five) ∙ draws_are f n hand m (rising-deck n) (set_rises n hand h) (within_deck n hand (set_below n hand h))
