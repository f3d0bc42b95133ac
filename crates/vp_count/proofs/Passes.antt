-- All 32 totals of a hand, one card after another.
use Rattle.std.proofs.Common.{◌≡◌, ◌⊎◌, inl, inr, ℕ, zero, suc, ◌+◌, ◌*◌, ◌/◌, ◌%◌, ◌^◌, ◌<◌, ◌≤◌, refl, ap, sym, ◌∙◌, arith, eq-eqb, true, false, cond, ◌==◌, List, [], ◌∷◌, length}
use Rattle.std.proofs.Math.Nat.{pow-suc, mul_comm, div-div-eq-div-mul}
use Rattle.std.proofs.lemmas.Bool.{ne_eqb, cases_Bool}
use Rattle.vp_card.specs.Cards.{held}
use Rattle.vp_sets.specs.Sets.{deck, has}
use Rattle.vp_sets.specs.Index.{IsSet}
use Rattle.vp_sets.proofs.Sublists.{Sub, nothing, take, skip, sub_rising}
use Rattle.vp_sets.proofs.Holds.{sub-held}
use Rattle.vp_sets.proofs.Over.{over, over_agree, over-plus}
use Rattle.vp_sets.proofs.Spread.{only_with, only_without, only_without-yes, only_without-no}
use Rattle.vp_sets.proofs.Colex.{Below, set_rises, set_below, set_from}
use Rattle.vp_sets.proofs.Bridge.{with_all, kept, held-held, held-discarded, kept-none, kept-held, kept-discarded, spread_is}
use Rattle.vp_count.specs.Sums.{number, containing, spread}
use Rattle.vp_count.proofs.Exclusion.{with_all-cons, containing_is, only_sum, parts}

-- the held cards are a set
pub held_is_set : (n m : ℕ) (hand : List ℕ) → IsSet n hand → IsSet n (held m hand)
held_is_set n m hand h = set_from n (held m hand) (sub_rising (sub-held m hand) (set_rises n hand h)) (sub_bounded n (sub-held m hand) (set_below n hand h))
  where
    sub_bounded : (n : ℕ) {y s : List ℕ} → Sub y s → Below n s → Below n y
    sub_bounded n nothing b = tt
    sub_bounded n (take p) b = (b.0, sub_bounded n p b.1)
    sub_bounded n (skip p) b = sub_bounded n p b.1

-- f of the sets that have the held cards, and none of the discards among the first p cards; 0 for the others
unfoldable pub stage : ℕ → ℕ → List ℕ → (List ℕ → ℕ) → List ℕ → ℕ
stage p m [] f = f
stage zero m (c ∷ cs) f = with_all (held m (c ∷ cs)) f
stage (suc p) m (c ∷ cs) f = cond (m % 2 == 1) (only_with c (stage p (m / 2) cs f)) (only_without c (stage p (m / 2) cs f))

stage-none : (p m : ℕ) (f : List ℕ → ℕ) → stage p m [] f ≡ f
unfolding stage
stage-none zero m f = refl
stage-none (suc p) m f = refl

stage-zero : (m : ℕ) (hand : List ℕ) (f : List ℕ → ℕ) → stage 0 m hand f ≡ with_all (held m hand) f
unfolding stage with_all
stage-zero m [] f = refl
stage-zero m (c ∷ cs) f = refl

stage-held : (p m c : ℕ) (cs : List ℕ) (f : List ℕ → ℕ) → (m % 2 == 1) ≡ true → stage (suc p) m (c ∷ cs) f ≡ only_with c (stage p (m / 2) cs f)
unfolding stage
stage-held p m c cs f h = ap (λ b. cond b (only_with c (stage p (m / 2) cs f)) (only_without c (stage p (m / 2) cs f))) h

stage-discarded : (p m c : ℕ) (cs : List ℕ) (f : List ℕ → ℕ) → (m % 2 == 1) ≡ false → stage (suc p) m (c ∷ cs) f ≡ only_without c (stage p (m / 2) cs f)
unfolding stage
stage-discarded p m c cs f h = ap (λ b. cond b (only_with c (stage p (m / 2) cs f)) (only_without c (stage p (m / 2) cs f))) h

-- after all cards the sets that keep to the hold are left
stage_all : (p m : ℕ) (hand : List ℕ) (f : List ℕ → ℕ) → length hand ≤ p → stage p m hand f ≡ kept m hand f
stage_all p m [] f l = stage-none p m f ∙ sym (kept-none m f)
stage_all zero m (c ∷ cs) f l = absurd (omega arith)
stage_all (suc p) m (c ∷ cs) f l =
    let ih : stage p (m / 2) cs f ≡ kept (m / 2) cs f = stage_all p (m / 2) cs f (omega arith) in
    let t : ((m % 2 == 1) ≡ true) ⊎ ((m % 2 == 1) ≡ false) = cases_Bool (m % 2 == 1) in
    elim t [
      | inl h ↦ stage-held p m c cs f h ∙ ap (λ g. only_with c g) ih ∙ sym (kept-held m c cs f h)
      | inr h ↦ stage-discarded p m c cs f h ∙ ap (λ g. only_without c g) ih ∙ sym (kept-discarded m c cs f h)
    ]

test_odd : (m : ℕ) → m % 2 ≡ 1 → (m % 2 == 1) ≡ true
test_odd m h = eq-eqb (m % 2) 1 h

test_even : (m : ℕ) → m % 2 ≡ 0 → (m % 2 == 1) ≡ false
test_even m h = ne_eqb (m % 2) 1 (λ e. omega arith)

-- bit p + 1 of a mask is bit p of its half
halved : (p m : ℕ) → m / 2 ^ suc p ≡ m / 2 / 2 ^ p
halved p m = ap (λ x. m / x) (pow-suc 2 p ∙ mul_comm (2 ^ p) 2) ∙ sym (div-div-eq-div-mul m 2 (2 ^ p))

without_sum : (d : ℕ) (f g e : List ℕ → ℕ) (h : List ℕ) → f h + g h ≡ e h → only_without d f h + only_without d g h ≡ only_without d e h
without_sum d f g e h s =
    let t : (has h d ≡ true) ⊎ (has h d ≡ false) = cases_Bool (has h d) in
    elim t [
      | inl y ↦ omega (arith, only_without-yes d f h y, only_without-yes d g h y, only_without-yes d e h y)
      | inr z ↦ omega (arith, only_without-no d f h z, only_without-no d g h z, only_without-no d e h z)
    ]

-- a held card changes nothing
stage_same : (p m : ℕ) (hand : List ℕ) (f : List ℕ → ℕ) → p < length hand → m / 2 ^ p % 2 ≡ 1 → stage (suc p) m hand f ≡ stage p m hand f
stage_same p m [] f l h = absurd (omega arith)
stage_same zero m (c ∷ cs) f l h =
    let o : m % 2 ≡ 1 = at_one h in
    stage-held 0 m c cs f (test_odd m o) ∙ ap (λ g. only_with c g) (stage-zero (m / 2) cs f) ∙ sym (with_all-cons c (held (m / 2) cs) f) ∙ ap (λ a. with_all a f) (sym (held-held m c cs (test_odd m o))) ∙ sym (stage-zero m (c ∷ cs) f)
  where
    at_one : m / 2 ^ 0 % 2 ≡ 1 → m % 2 ≡ 1
    at_one h = omega arith
stage_same (suc p) m (c ∷ cs) f l h =
    let o : m / 2 / 2 ^ p % 2 ≡ 1 = ap (λ x. x % 2) (sym (halved p m)) ∙ h in
    let ih : stage (suc p) (m / 2) cs f ≡ stage p (m / 2) cs f = stage_same p (m / 2) cs f (omega arith) o in
    let t : ((m % 2 == 1) ≡ true) ⊎ ((m % 2 == 1) ≡ false) = cases_Bool (m % 2 == 1) in
    elim t [
      | inl k ↦ stage-held (suc p) m c cs f k ∙ ap (λ g. only_with c g) ih ∙ sym (stage-held p m c cs f k)
      | inr k ↦ stage-discarded (suc p) m c cs f k ∙ ap (λ g. only_without c g) ih ∙ sym (stage-discarded p m c cs f k)
    ]

-- a discard takes away what the hold with it has
stage_less : (p m : ℕ) (hand : List ℕ) (f : List ℕ → ℕ) (h : List ℕ) → p < length hand → m / 2 ^ p % 2 ≡ 0 → stage (suc p) m hand f h + stage p (m + 2 ^ p) hand f h ≡ stage p m hand f h
stage_less p m [] f h l e = absurd (omega arith)
stage_less zero m (c ∷ cs) f h l e =
    let o : m % 2 ≡ 0 = omega arith in
    let o' : (m + 2 ^ 0) % 2 ≡ 1 = omega arith in
    let q : (m + 2 ^ 0) / 2 ≡ m / 2 = omega arith in
    let g : List ℕ → ℕ = with_all (held (m / 2) cs) f in
    let a : stage 1 m (c ∷ cs) f ≡ only_without c g = stage-discarded 0 m c cs f (test_even m o) ∙ ap (λ z. only_without c z) (stage-zero (m / 2) cs f) in
    let b : stage 0 (m + 2 ^ 0) (c ∷ cs) f ≡ only_with c g = stage-zero (m + 2 ^ 0) (c ∷ cs) f ∙ ap (λ z. with_all z f) (held-held (m + 2 ^ 0) c cs (test_odd (m + 2 ^ 0) o')) ∙ ap (λ z. with_all (c ∷ held z cs) f) q ∙ with_all-cons c (held (m / 2) cs) f in
    let d : stage 0 m (c ∷ cs) f ≡ g = stage-zero m (c ∷ cs) f ∙ ap (λ z. with_all z f) (held-discarded m c cs (test_even m o)) in
    let a' : stage 1 m (c ∷ cs) f h ≡ only_without c g h = ap (λ (z : List ℕ → ℕ). z h) a in
    let b' : stage 0 (m + 2 ^ 0) (c ∷ cs) f h ≡ only_with c g h = ap (λ (z : List ℕ → ℕ). z h) b in
    let d' : stage 0 m (c ∷ cs) f h ≡ g h = ap (λ (z : List ℕ → ℕ). z h) d in
    omega (arith, parts c g h)
stage_less (suc p) m (c ∷ cs) f h l e =
    let o : m / 2 / 2 ^ p % 2 ≡ 0 = ap (λ x. x % 2) (sym (halved p m)) ∙ e in
    let w : 2 ^ suc p ≡ 2 ^ p * 2 = pow-suc 2 p in
    let q : (m + 2 ^ suc p) / 2 ≡ m / 2 + 2 ^ p = omega arith in
    let r : (m + 2 ^ suc p) % 2 ≡ m % 2 = omega arith in
    let ih : stage (suc p) (m / 2) cs f h + stage p (m / 2 + 2 ^ p) cs f h ≡ stage p (m / 2) cs f h = stage_less p (m / 2) cs f h (omega arith) o in
    let t : ((m % 2 == 1) ≡ true) ⊎ ((m % 2 == 1) ≡ false) = cases_Bool (m % 2 == 1) in
    elim t [
      | inl k ↦
          let k' : ((m + 2 ^ suc p) % 2 == 1) ≡ true = ap (λ x. x == 1) r ∙ k in
          let a : stage (suc (suc p)) m (c ∷ cs) f h ≡ only_with c (stage (suc p) (m / 2) cs f) h = ap (λ (z : List ℕ → ℕ). z h) (stage-held (suc p) m c cs f k) in
          let b : stage (suc p) (m + 2 ^ suc p) (c ∷ cs) f h ≡ only_with c (stage p (m / 2 + 2 ^ p) cs f) h = ap (λ (z : List ℕ → ℕ). z h) (stage-held p (m + 2 ^ suc p) c cs f k' ∙ ap (λ x. only_with c (stage p x cs f)) q) in
          let d : stage (suc p) m (c ∷ cs) f h ≡ only_with c (stage p (m / 2) cs f) h = ap (λ (z : List ℕ → ℕ). z h) (stage-held p m c cs f k) in
          omega (arith, only_sum c (stage (suc p) (m / 2) cs f) (stage p (m / 2 + 2 ^ p) cs f) (stage p (m / 2) cs f) h ih)
      | inr k ↦
          let k' : ((m + 2 ^ suc p) % 2 == 1) ≡ false = ap (λ x. x == 1) r ∙ k in
          let a : stage (suc (suc p)) m (c ∷ cs) f h ≡ only_without c (stage (suc p) (m / 2) cs f) h = ap (λ (z : List ℕ → ℕ). z h) (stage-discarded (suc p) m c cs f k) in
          let b : stage (suc p) (m + 2 ^ suc p) (c ∷ cs) f h ≡ only_without c (stage p (m / 2 + 2 ^ p) cs f) h = ap (λ (z : List ℕ → ℕ). z h) (stage-discarded p (m + 2 ^ suc p) c cs f k' ∙ ap (λ x. only_without c (stage p x cs f)) q) in
          let d : stage (suc p) m (c ∷ cs) f h ≡ only_without c (stage p (m / 2) cs f) h = ap (λ (z : List ℕ → ℕ). z h) (stage-discarded p m c cs f k) in
          omega (arith, without_sum c (stage (suc p) (m / 2) cs f) (stage p (m / 2 + 2 ^ p) cs f) (stage p (m / 2) cs f) h ih)
    ]

-- the entry of a mask after p passes
unfoldable pub entry : ℕ → List ℕ → List ℕ → ℕ → ℕ → ℕ
entry n w hand p m = over 5 (deck n) (stage p m hand (number w))

pub entry-zero : (n : ℕ) (w hand : List ℕ) (m : ℕ) → entry n w hand 0 m ≡ containing n w (held m hand)
unfolding entry
entry-zero n w hand m = ap (λ g. over 5 (deck n) g) (stage-zero m hand (number w)) ∙ containing_is n w (held m hand)

pub entry-five : (n : ℕ) (w hand : List ℕ) (m : ℕ) → IsSet n hand → length hand ≡ 5 → entry n w hand 5 m ≡ spread n w hand m
unfolding entry spread
entry-five n w hand m h five = ap (λ g. over 5 (deck n) g) (stage_all 5 m hand (number w) (omega arith)) ∙ spread_is (number w) n hand m h five

pub entry_same : (n : ℕ) (w hand : List ℕ) (p m : ℕ) → p < length hand → m / 2 ^ p % 2 ≡ 1 → entry n w hand (suc p) m ≡ entry n w hand p m
unfolding entry
entry_same n w hand p m l h = ap (λ g. over 5 (deck n) g) (stage_same p m hand (number w) l h)

pub entry_less : (n : ℕ) (w hand : List ℕ) (p m : ℕ) → p < length hand → m / 2 ^ p % 2 ≡ 0 → entry n w hand (suc p) m + entry n w hand p (m + 2 ^ p) ≡ entry n w hand p m
unfolding entry
entry_less n w hand p m l h =
    sym (over-plus 5 (deck n) (stage (suc p) m hand (number w)) (stage p (m + 2 ^ p) hand (number w)))
    ∙ over_agree 5 (deck n) (λ x. stage (suc p) m hand (number w) x + stage p (m + 2 ^ p) hand (number w) x) (stage p m hand (number w)) (λ x _. stage_less p m hand (number w) x l h)
