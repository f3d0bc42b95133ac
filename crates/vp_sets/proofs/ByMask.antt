-- The sum over the draws of a hold is the sum over all hands of the deck that have, of the dealt cards, just the held ones.
use Rattle.std.proofs.Common.{◌≡◌, ◌⊎◌, inl, inr, ℕ, zero, suc, ◌+◌, ◌*◌, ◌^◌, ◌/◌, ◌%◌, ◌<◌, refl, ap, sym, ◌∙◌, arith, Bool, true, false, cond, if◌then◌else◌, ◌||◌, ◌==◌, List, [], ◌∷◌, ◌++◌, length}
use Rattle.std.specs.List.{sum_by}
use Rattle.std.proofs.Math.Nat.{pow-suc, pow-zero}
use Rattle.std.proofs.lemmas.Bool.{cases_Bool, cases_eq, eq-eqb, ne_eqb, eqb-true, cond-true, cond-false, false≢true}
use Rattle.vp_sets.specs.Sets.{combos, deck, has}
use Rattle.vp_sets.specs.Draws.{at_mask, mask_of, sum_over_draws}
use Rattle.vp_sets.specs.Index.{IsSet}
use Rattle.vp_sets.proofs.Over.{over, over_is, over_agree}
use Rattle.vp_sets.proofs.Spread.{has-none, only_with, only_without, only_with-yes, only_with-no, only_without-yes, only_without-no}
use Rattle.vp_sets.proofs.Bridge.{kept, kept-none, kept-held, kept-discarded, spread_is}

pub at_mask-is : (f : List ℕ → ℕ) (cards : List ℕ) (mask : ℕ) (hand : List ℕ) → at_mask f cards mask hand ≡ cond (mask_of hand cards == mask) (f hand) 0
unfolding at_mask
at_mask-is f cards mask hand = refl

pub mask_of-none : (hand : List ℕ) → mask_of hand [] ≡ 0
unfolding mask_of
mask_of-none hand = refl

pub mask_of-cons : (hand : List ℕ) (c : ℕ) (cs : List ℕ) → mask_of hand (c ∷ cs) ≡ cond (has hand c) 1 0 + 2 * mask_of hand cs
unfolding mask_of
mask_of-cons hand c cs = refl

same_test : (a b a' b' : ℕ) → (a ≡ b → a' ≡ b') → (a' ≡ b' → a ≡ b) → (a == b) ≡ (a' == b')
same_test a b a' b' f g =
    let e : (a ≡ b) ⊎ (a ≡ b → ⊥) = cases_eq a b in
    elim e [
      | inl p ↦ eq-eqb a b p ∙ sym (eq-eqb a' b' (f p))
      | inr n ↦ ne_eqb a b n ∙ sym (ne_eqb a' b' (λ q. n (g q)))
    ]

other_test : (a b : ℕ) → (a ≡ b → ⊥) → (a == b) ≡ false
other_test a b n = ne_eqb a b n

-- the hands that have the held cards and no discard are those that have, of the cards, just the held ones
pub kept_at : (m : ℕ) (cards : List ℕ) (f : List ℕ → ℕ) (hand : List ℕ) → m < 2 ^ length cards → kept m cards f hand ≡ at_mask f cards m hand
kept_at m [] f hand l =
    let p : 2 ^ 0 ≡ 1 = pow-zero 2 in
    let z : m ≡ 0 = omega arith in
    ap (λ (g : List ℕ → ℕ). g hand) (kept-none m f) ∙ sym (cond-true (mask_of hand [] == m) (f hand) 0 (eq-eqb (mask_of hand []) m (mask_of-none hand ∙ sym z))) ∙ sym (at_mask-is f [] m hand)
kept_at m (c ∷ cs) f hand l =
    let p : 2 ^ suc (length cs) ≡ 2 ^ length cs * 2 = pow-suc 2 (length cs) in
    let ih : kept (m / 2) cs f hand ≡ at_mask f cs (m / 2) hand = kept_at (m / 2) cs f hand (omega arith) in
    let ih' : kept (m / 2) cs f hand ≡ cond (mask_of hand cs == m / 2) (f hand) 0 = ih ∙ at_mask-is f cs (m / 2) hand in
    by_bit (cases_Bool (m % 2 == 1)) (cases_Bool (has hand c)) ih' ∙ sym (at_mask-is f (c ∷ cs) m hand)
  where
    one : (b : Bool) → b ≡ true → ◌≡◌ {A = ℕ} (cond b 1 0) 1
    one b h = cond-true b 1 0 h

    none : (b : Bool) → b ≡ false → ◌≡◌ {A = ℕ} (cond b 1 0) 0
    none b h = cond-false b 1 0 h

    odd : (m % 2 == 1) ≡ true → m % 2 ≡ 1
    odd h = eqb-true (m % 2) 1 h

    even : (m % 2 == 1) ≡ false → m % 2 ≡ 1 → ⊥
    even h e = false≢true (sym h ∙ eq-eqb (m % 2) 1 e)

    by_bit : ((m % 2 == 1) ≡ true) ⊎ ((m % 2 == 1) ≡ false) → (has hand c ≡ true) ⊎ (has hand c ≡ false)
        → kept (m / 2) cs f hand ≡ cond (mask_of hand cs == m / 2) (f hand) 0
        → kept m (c ∷ cs) f hand ≡ cond (mask_of hand (c ∷ cs) == m) (f hand) 0
    by_bit (inl b) (inl h) ih =
        let o : m % 2 ≡ 1 = odd b in
        let w : mask_of hand (c ∷ cs) ≡ 1 + 2 * mask_of hand cs = omega (arith, mask_of-cons hand c cs, one (has hand c) h) in
        let t : (mask_of hand cs == m / 2) ≡ (mask_of hand (c ∷ cs) == m) = same_test (mask_of hand cs) (m / 2) (mask_of hand (c ∷ cs)) m (λ q. omega arith) (λ q. omega arith) in
        ap (λ (g : List ℕ → ℕ). g hand) (kept-held m c cs f b) ∙ only_with-yes c (kept (m / 2) cs f) hand h ∙ ih ∙ ap (λ v. cond v (f hand) 0) t
    by_bit (inl b) (inr h) ih =
        let o : m % 2 ≡ 1 = odd b in
        let w : mask_of hand (c ∷ cs) ≡ 2 * mask_of hand cs = omega (arith, mask_of-cons hand c cs, none (has hand c) h) in
        let t : (mask_of hand (c ∷ cs) == m) ≡ false = other_test (mask_of hand (c ∷ cs)) m (λ q. omega arith) in
        ap (λ (g : List ℕ → ℕ). g hand) (kept-held m c cs f b) ∙ only_with-no c (kept (m / 2) cs f) hand h ∙ sym (cond-false (mask_of hand (c ∷ cs) == m) (f hand) 0 t)
    by_bit (inr b) (inl h) ih =
        let o : m % 2 ≡ 1 → ⊥ = even b in
        let w : mask_of hand (c ∷ cs) ≡ 1 + 2 * mask_of hand cs = omega (arith, mask_of-cons hand c cs, one (has hand c) h) in
        let t : (mask_of hand (c ∷ cs) == m) ≡ false = other_test (mask_of hand (c ∷ cs)) m (λ q. o (omega arith)) in
        ap (λ (g : List ℕ → ℕ). g hand) (kept-discarded m c cs f b) ∙ only_without-yes c (kept (m / 2) cs f) hand h ∙ sym (cond-false (mask_of hand (c ∷ cs) == m) (f hand) 0 t)
    by_bit (inr b) (inr h) ih =
        let o : m % 2 ≡ 1 → ⊥ = even b in
        let w : mask_of hand (c ∷ cs) ≡ 2 * mask_of hand cs = omega (arith, mask_of-cons hand c cs, none (has hand c) h) in
        let t : (mask_of hand cs == m / 2) ≡ (mask_of hand (c ∷ cs) == m) = same_test (mask_of hand cs) (m / 2) (mask_of hand (c ∷ cs)) m (λ q. half_even o w q) (λ q. omega arith) in
        ap (λ (g : List ℕ → ℕ). g hand) (kept-discarded m c cs f b) ∙ only_without-no c (kept (m / 2) cs f) hand h ∙ ih ∙ ap (λ v. cond v (f hand) 0) t
      where
        half_even : (m % 2 ≡ 1 → ⊥) → mask_of hand (c ∷ cs) ≡ 2 * mask_of hand cs → mask_of hand cs ≡ m / 2 → mask_of hand (c ∷ cs) ≡ m
        half_even o w q = elim (parity m) [ inl z ↦ omega arith | inr z ↦ absurd (o z) ]
          where
            parity : (m : ℕ) → (m % 2 ≡ 0) ⊎ (m % 2 ≡ 1)
            parity m = let k : m % 2 < 2 = omega arith in two (m % 2) k
              where
                two : (r : ℕ) → r < 2 → (r ≡ 0) ⊎ (r ≡ 1)
                two zero l = inl refl
                two (suc zero) l = inr refl
                two (suc (suc r)) l = absurd (omega arith)

-- the sum over all draws of a hold, as a sum over the sublists of the deck
pub over_mask : (f : List ℕ → ℕ) (n : ℕ) (cards : List ℕ) (mask : ℕ) → IsSet n cards → length cards ≡ 5 → mask < 32 → over 5 (deck n) (at_mask f cards mask) ≡ sum_over_draws f n cards mask
over_mask f n cards mask set five small =
    let p : 2 ^ length cards ≡ 32 = ap (λ k. 2 ^ k) five in
    sym (over_agree 5 (deck n) (kept mask cards f) (at_mask f cards mask) (λ hand _. kept_at mask cards f hand (omega arith))) ∙ spread_is f n cards mask set five

-- the sum over all draws of a hold is the sum over all hands of the deck
pub draws_by_mask : (f : List ℕ → ℕ) (n : ℕ) (cards : List ℕ) (mask : ℕ) → IsSet n cards → length cards ≡ 5 → mask < 32 → sum_over_draws f n cards mask ≡ sum_by (at_mask f cards mask) (combos 5 (deck n))
draws_by_mask f n cards mask set five small = sym (over_mask f n cards mask set five small) ∙ over_is 5 (deck n) (at_mask f cards mask)

-- ---- the mask of a set that grows

pub has-push : (hand : List ℕ) (c d : ℕ) → has (hand ++ c ∷ []) d ≡ (has hand d || (c == d))
unfolding has
has-push [] c d = or_none (c == d)
  where
    or_none : (b : Bool) → (b || false) ≡ b
    or_none true = refl
    or_none false = refl
has-push (x ∷ hand) c d = ap (λ b. (x == d) || b) (has-push hand c d) ∙ sym (or_or (x == d) (has hand d) (c == d))
  where
    or_or : (a b e : Bool) → ((a || b) || e) ≡ (a || (b || e))
    or_or true b e = refl
    or_or false b e = refl

-- a card more adds its own mask
pub mask_push : (hand : List ℕ) (c : ℕ) (cards : List ℕ) → has hand c ≡ false → mask_of (hand ++ c ∷ []) cards ≡ mask_of hand cards + mask_of (c ∷ []) cards
mask_push hand c [] h = omega (arith, mask_of-none (hand ++ c ∷ []), mask_of-none hand, mask_of-none (c ∷ []))
mask_push hand c (d ∷ cards) h =
    let ih : mask_of (hand ++ c ∷ []) cards ≡ mask_of hand cards + mask_of (c ∷ []) cards = mask_push hand c cards h in
    let bit : cond (has (hand ++ c ∷ []) d) 1 0 ≡ cond (has hand d) 1 0 + cond (has (c ∷ []) d) 1 0 = one_bit (cases_eq c d) in
    omega (arith, mask_of-cons (hand ++ c ∷ []) d cards, mask_of-cons hand d cards, mask_of-cons (c ∷ []) d cards)
  where
    has-one : (c d : ℕ) → has (c ∷ []) d ≡ (c == d)
    has-one c d = has-push [] c d ∙ ap (λ b. b || (c == d)) (has-none d)

    bits : (x y z : Bool) → x ≡ (y || z) → (z ≡ true → y ≡ false) → ◌≡◌ {A = ℕ} (cond x 1 0) (cond y 1 0 + cond z 1 0)
    bits x true true e k = let q : true ≡ false = k refl in cc
    bits x true false e k = ap (λ v. cond v 1 0) e
    bits x false true e k = ap (λ v. cond v 1 0) e
    bits x false false e k = ap (λ v. cond v 1 0) e

    one_bit : (c ≡ d) ⊎ (c ≡ d → ⊥) → cond (has (hand ++ c ∷ []) d) 1 0 ≡ cond (has hand d) 1 0 + cond (has (c ∷ []) d) 1 0
    one_bit (inl e) = bits (has (hand ++ c ∷ []) d) (has hand d) (has (c ∷ []) d) (has-push hand c d ∙ ap (λ b. has hand d || b) (sym (has-one c d))) (λ _. ap (has hand) (sym e) ∙ h)
    one_bit (inr n) = bits (has (hand ++ c ∷ []) d) (has hand d) (has (c ∷ []) d) (has-push hand c d ∙ ap (λ b. has hand d || b) (sym (has-one c d))) (λ t. absurd (false≢true (sym (ne_eqb c d n) ∙ sym (has-one c d) ∙ t)))
