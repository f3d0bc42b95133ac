-- The bits of masks, and the entries of masks after one pass.
use Rattle.std.proofs.Common.{◌≡◌, ◌⊎◌, inl, inr, ℕ, zero, suc, ◌+◌, ◌-◌, ◌*◌, ◌/◌, ◌%◌, ◌^◌, ◌<◌, ◌≤◌, refl, ap, sym, ◌∙◌, subst, arith, add-one, List, length, get_or, set, get_or-set_same, get_or-set_other}
use Rattle.std.proofs.Math.Nat.{add-div_right, pow-suc}
use Rattle.std.proofs.lemmas.Bool.{cases_eq, cases_lt}
use Rattle.vp_count.specs.HeldMasks.{IsOneBit}
use Rattle.vp_count.proofs.Passes.{entry, entry_same, entry_less}

-- the masks below i are done: those without the bit have lost the entry with it
pub record Left (old new : List ℕ) (bit i : ℕ) : Type 0 where
  pub discarded : (k : ℕ) → k < i → k < 32 → k / bit % 2 ≡ 0 → get_or new k 0 + get_or old (k + bit) 0 ≡ get_or old k 0
  pub held : (k : ℕ) → k < 32 → k / bit % 2 ≡ 1 → get_or new k 0 ≡ get_or old k 0
  pub later : (k : ℕ) → i ≤ k → k < 32 → get_or new k 0 ≡ get_or old k 0

pub left_start : (old : List ℕ) (bit : ℕ) → Left old old bit 0
left_start old bit = record { discarded = λ k l. absurd (omega arith); held = λ k l h. refl; later = λ k l h. refl }

with_bit : (i bit : ℕ) → 0 < bit → i / bit % 2 ≡ 0 → (i + bit) / bit % 2 ≡ 1
with_bit i bit pos e =
    let d : (i + bit) / bit ≡ i / bit + 1 = add-div_right i pos in
    let r : (i + bit) / bit % 2 ≡ (i / bit + 1) % 2 = ap (λ x. x % 2) d in
    omega arith

pub left_there : (old t : List ℕ) (bit i : ℕ) → 0 < bit → i < 32 → i / bit % 2 ≡ 0 → i + bit < 32 → Left old t bit i → get_or t (i + bit) 0 ≡ get_or old (i + bit) 0
left_there old t bit i pos l e w h = h.held (i + bit) w (with_bit i bit pos e)

pub left_le : (old t : List ℕ) (bit i : ℕ) → 0 < bit → i < 32 → i / bit % 2 ≡ 0 → i + bit < 32 → get_or old (i + bit) 0 ≤ get_or old i 0 → Left old t bit i → get_or t (i + bit) 0 ≤ get_or t i 0
left_le old t bit i pos l e w m h = omega (arith, left_there old t bit i pos l e w h, h.later i (omega arith) l)

pub left_discard : (old t : List ℕ) (bit i : ℕ) → length t ≡ 32 → 0 < bit → i < 32 → i / bit % 2 ≡ 0 → i + bit < 32 → get_or old (i + bit) 0 ≤ get_or old i 0 → Left old t bit i → Left old (set t i (get_or t i 0 - get_or t (i + bit) 0)) bit (i + 1)
left_discard old t bit i long pos l e w m h = record {
  discarded = λ k a b d. one k a b d (cases_eq k i);
  held = λ k b d. other k (λ q. let z : k / bit % 2 ≡ i / bit % 2 = ap (λ x. x / bit % 2) q in omega arith) ∙ h.held k b d;
  later = λ k a b. other k (λ q. omega arith) ∙ h.later k (omega arith) b;
}
  where
    v : ℕ
    v = get_or t i 0 - get_or t (i + bit) 0

    other : (k : ℕ) → (k ≡ i → ⊥) → get_or (set t i v) k 0 ≡ get_or t k 0
    other k ne = get_or-set_other t i k v 0 ne

    here : get_or (set t i v) i 0 ≡ get_or t i 0 - get_or t (i + bit) 0
    here = get_or-set_same t i v 0 (omega arith)

    one : (k : ℕ) → k < i + 1 → k < 32 → k / bit % 2 ≡ 0 → (k ≡ i) ⊎ (k ≡ i → ⊥) → get_or (set t i v) k 0 + get_or old (k + bit) 0 ≡ get_or old k 0
    one k a b d (inl q) =
        let x : get_or (set t i v) i 0 + get_or old (i + bit) 0 ≡ get_or old i 0 = omega (arith, here, left_there old t bit i pos l e w h, h.later i (omega arith) l) in
        subst (λ j. get_or (set t i v) j 0 + get_or old (j + bit) 0 ≡ get_or old j 0) (sym q) x
    one k a b d (inr ne) = omega (arith, other k ne, h.discarded k (omega arith) b d)

pub left_hold : (old t : List ℕ) (bit i : ℕ) → (i / bit % 2 ≡ 0 → ⊥) → Left old t bit i → Left old t bit (i + 1)
left_hold old t bit i ne h = record {
  discarded = λ k a b d. one k a b d (cases_eq k i);
  held = h.held;
  later = λ k a b. h.later k (omega arith) b;
}
  where
    one : (k : ℕ) → k < i + 1 → k < 32 → k / bit % 2 ≡ 0 → (k ≡ i) ⊎ (k ≡ i → ⊥) → get_or t k 0 + get_or old (k + bit) 0 ≡ get_or old k 0
    one k a b d (inl q) = absurd (ne (subst (λ j. j / bit % 2 ≡ 0) q d))
    one k a b d (inr nk) = h.discarded k (omega arith) b d

-- a mask without a bit has room for it
pub room : (p m : ℕ) → p < 5 → m < 32 → m / 2 ^ p % 2 ≡ 0 → m + 2 ^ p < 32
room zero m l h e = omega arith
room (suc zero) m l h e = omega arith
room (suc (suc zero)) m l h e = omega arith
room (suc (suc (suc zero))) m l h e = omega arith
room (suc (suc (suc (suc zero)))) m l h e = omega arith
room (suc (suc (suc (suc (suc p))))) m l h e = absurd (omega arith)

pub bit_small : (p : ℕ) → p < 5 → 2 ^ p ≤ 16
bit_small zero l = omega arith
bit_small (suc zero) l = omega arith
bit_small (suc (suc zero)) l = omega arith
bit_small (suc (suc (suc zero))) l = omega arith
bit_small (suc (suc (suc (suc zero)))) l = omega arith
bit_small (suc (suc (suc (suc (suc p))))) l = absurd (omega arith)

pub bit_pos : (p : ℕ) → 0 < 2 ^ p
bit_pos zero = omega arith
bit_pos (suc p) = omega (arith, bit_pos p, pow-suc 2 p)

-- the entries after p passes
pub record Passed (n : ℕ) (w hand totals : List ℕ) (bit p : ℕ) : Type 0 where
  pub bit_is : bit ≡ 2 ^ p
  pub entries : (m : ℕ) → m < 32 → get_or totals m 0 ≡ entry n w hand p m

pub passed_part : (n : ℕ) (w hand totals : List ℕ) (bit p : ℕ) → length hand ≡ 5 → p < 5 → Passed n w hand totals bit p → (m : ℕ) → m < 32 → m / bit % 2 ≡ 0 → get_or totals (m + bit) 0 ≤ get_or totals m 0
passed_part n w hand totals bit p five l h m b e =
    let e' : m / 2 ^ p % 2 ≡ 0 = subst (λ x. m / x % 2 ≡ 0) h.bit_is e in
    let r : m + 2 ^ p < 32 = room p m l b e' in
    let q : get_or totals (m + bit) 0 ≡ entry n w hand p (m + 2 ^ p) = ap (λ x. get_or totals (m + x) 0) h.bit_is ∙ h.entries (m + 2 ^ p) r in
    omega (arith, h.entries m b, entry_less n w hand p m (omega arith) e')

pub passed_within : (n : ℕ) (w hand totals : List ℕ) (bit p : ℕ) → p < 5 → Passed n w hand totals bit p → (m : ℕ) → m < 32 → m / bit % 2 ≡ 0 → m + bit < 32
passed_within n w hand totals bit p l h m b e = subst (λ x. m + x < 32) (sym h.bit_is) (room p m l b (subst (λ x. m / x % 2 ≡ 0) h.bit_is e))

pub passed_more : (n : ℕ) (w hand old new : List ℕ) (bit p : ℕ) → length hand ≡ 5 → p < 5 → Passed n w hand old bit p →
    ((m : ℕ) → m < 32 → m / bit % 2 ≡ 0 → get_or new m 0 + get_or old (m + bit) 0 ≡ get_or old m 0) →
    ((m : ℕ) → m < 32 → m / bit % 2 ≡ 1 → get_or new m 0 ≡ get_or old m 0) → Passed n w hand new (bit * 2) (p + 1)
passed_more n w hand old new bit p five l h less same = record {
  bit_is = ap (λ x. x * 2) h.bit_is ∙ sym (pow-suc 2 p) ∙ ap (λ x. 2 ^ x) (sym (add-one p));
  entries = λ m b. one m b (cases_eq (m / bit % 2) 0) ∙ ap (λ x. entry n w hand x m) (sym (add-one p));
}
  where
    one : (m : ℕ) → m < 32 → (m / bit % 2 ≡ 0) ⊎ (m / bit % 2 ≡ 0 → ⊥) → get_or new m 0 ≡ entry n w hand (suc p) m
    one m b (inl e) =
        let e' : m / 2 ^ p % 2 ≡ 0 = subst (λ x. m / x % 2 ≡ 0) h.bit_is e in
        let r : m + 2 ^ p < 32 = room p m l b e' in
        let q : get_or old (m + bit) 0 ≡ entry n w hand p (m + 2 ^ p) = ap (λ x. get_or old (m + x) 0) h.bit_is ∙ h.entries (m + 2 ^ p) r in
        omega (arith, h.entries m b, less m b e, entry_less n w hand p m (omega arith) e')
    one m b (inr ne) =
        let e : m / bit % 2 ≡ 1 = omega arith in
        let e' : m / 2 ^ p % 2 ≡ 1 = subst (λ x. m / x % 2 ≡ 1) h.bit_is e in
        same m b e ∙ h.entries m b ∙ sym (entry_same n w hand p m (omega arith) e')

-- ---- runs of masks without the bit

-- where a run begins
pub record Run (bit base : ℕ) : Type 0 where
  pub whole : base % (2 * bit) ≡ 0
  pub within : base ≤ 32

run_by : (bit base : ℕ) → IsOneBit bit → (P : ℕ → Type 0) → P 1 → P 2 → P 4 → P 8 → P 16 → P bit
run_by bit base (inl e) P a b c d f = subst P (sym e) a
run_by bit base (inr (inl e)) P a b c d f = subst P (sym e) b
run_by bit base (inr (inr (inl e))) P a b c d f = subst P (sym e) c
run_by bit base (inr (inr (inr (inl e)))) P a b c d f = subst P (sym e) d
run_by bit base (inr (inr (inr (inr e)))) P a b c d f = subst P (sym e) f

-- a run and the masks with the bit behind it stand among the 32
pub run_room : (bit base : ℕ) → IsOneBit bit → base % (2 * bit) ≡ 0 → base < 32 → base + 2 * bit ≤ 32
run_room bit base one whole l =
    run_by bit base one (λ b. base % (2 * b) ≡ 0 → base + 2 * b ≤ 32) (λ w. omega arith) (λ w. omega arith) (λ w. omega arith) (λ w. omega arith) (λ w. omega arith) whole

-- the masks of a run are without the bit
pub run_without : (bit base k : ℕ) → IsOneBit bit → base % (2 * bit) ≡ 0 → base ≤ k → k < base + bit → k / bit % 2 ≡ 0
run_without bit base k one whole l m =
    run_by bit base one (λ b. base % (2 * b) ≡ 0 → k < base + b → k / b % 2 ≡ 0) (λ w h. omega arith) (λ w h. omega arith) (λ w h. omega arith) (λ w h. omega arith) (λ w h. omega arith) whole m

-- those behind it have it
pub run_with : (bit base k : ℕ) → IsOneBit bit → base % (2 * bit) ≡ 0 → base + bit ≤ k → k < base + 2 * bit → k / bit % 2 ≡ 1
run_with bit base k one whole l m =
    run_by bit base one (λ b. base % (2 * b) ≡ 0 → base + b ≤ k → k < base + 2 * b → k / b % 2 ≡ 1) (λ w h i. omega arith) (λ w h i. omega arith) (λ w h i. omega arith) (λ w h i. omega arith) (λ w h i. omega arith) whole l m

-- the next run
pub run_next : (bit base : ℕ) → IsOneBit bit → base % (2 * bit) ≡ 0 → (base + 2 * bit) % (2 * bit) ≡ 0
run_next bit base one whole =
    run_by bit base one (λ b. base % (2 * b) ≡ 0 → (base + 2 * b) % (2 * b) ≡ 0) (λ w. omega arith) (λ w. omega arith) (λ w. omega arith) (λ w. omega arith) (λ w. omega arith) whole

-- masks with the bit are passed over
pub left_skip : (old t : List ℕ) (bit i j : ℕ) → i ≤ j → ((k : ℕ) → i ≤ k → k < j → k / bit % 2 ≡ 1) → Left old t bit i → Left old t bit j
left_skip old t bit i j l with_it h = record {
  discarded = λ k a b d. one k a b d (cases_lt k i);
  held = h.held;
  later = λ k a b. h.later k (omega arith) b;
}
  where
    one : (k : ℕ) → k < j → k < 32 → k / bit % 2 ≡ 0 → (k < i) ⊎ (i ≤ k) → get_or t k 0 + get_or old (k + bit) 0 ≡ get_or old k 0
    one k a b d (inl m) = h.discarded k m b d
    one k a b d (inr m) = absurd (let e : k / bit % 2 ≡ 1 = with_it k m a in omega arith)

-- the bits of the five places
pub one_bit : (p bit : ℕ) → p < 5 → bit ≡ 2 ^ p → IsOneBit bit
one_bit zero bit l e = inl e
one_bit (suc zero) bit l e = inr (inl e)
one_bit (suc (suc zero)) bit l e = inr (inr (inl e))
one_bit (suc (suc (suc zero))) bit l e = inr (inr (inr (inl e)))
one_bit (suc (suc (suc (suc zero)))) bit l e = inr (inr (inr (inr e)))
one_bit (suc (suc (suc (suc (suc p))))) bit l e = absurd (omega arith)
