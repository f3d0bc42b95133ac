-- Masks of suits and of windows, bit by bit.
use Rattle.std.proofs.Common.{◌≡◌, ℕ, ◌+◌, ◌*◌, ◌^◌, ◌%◌, ◌<◌, ◌≤◌, Bool, true, false, cond, ltb, eqb, refl, sym, ap, ◌∙◌, subst, inl, inr, arith, bit_or, w8, w16}
use Rattle.std.specs.Int.{bit_at}
use Rattle.std.proofs.lemmas.Nat.{or_lt}
use Rattle.std.proofs.lemmas.Nat.Bits.{bit_at_set_same, bit_at_set_other}
use Rattle.std.proofs.lemmas.Bool.{cases_eq, eq-eqb, ne_eqb, ltb-true}
use Rattle.vp_rank.specs.Bounded.{all_below}
use Rattle.vp_rank.specs.Shapes.{bit_of}
use Rattle.vp_rank.proofs.BoundedTests.{all_below-at}

suit_bits : all_below 4 (λ s. ltb (1 * 2 ^ s % 256) 16) ≡ true
unfolding all_below
suit_bits = refl

window_bits : all_below 10 (λ k. ltb (1 * 2 ^ k % 65536) 1024) ≡ true
unfolding all_below
window_bits = refl

-- a mask of suits stays one when a suit is added
pub suit_below : (mask s : ℕ) → s < 4 → mask < 16 → bit_or mask (1 * 2 ^ s % 256) < 16
suit_below mask s low small =
    or_lt 4 mask (1 * 2 ^ s % 256) small (ltb-true (1 * 2 ^ s % 256) 16 (all_below-at 4 (λ s. ltb (1 * 2 ^ s % 256) 16) s suit_bits low))

-- which suits it has then
pub suit_added : (mask s t : ℕ) → s < 4 → bit_at (bit_or mask (1 * 2 ^ s % 256)) t ≡ cond (eqb t s) 1 (bit_at mask t)
suit_added mask s t low =
    let within : s < 8 = omega arith in
    elim (cases_eq t s) [
      | inl e ↦
          subst (λ (x : ℕ). bit_at (bit_or mask (1 * 2 ^ s % 256)) x ≡ cond (eqb x s) 1 (bit_at mask x)) (sym e)
          (bit_at_set_same w8 mask s within ∙ ap (λ (b : Bool). cond b 1 (bit_at mask s)) (sym (eq-eqb s s refl)))
      | inr ne ↦
          bit_at_set_other w8 mask s within t ne ∙ ap (λ (b : Bool). cond b 1 (bit_at mask t)) (sym (ne_eqb t s ne))
    ]

-- the mask of the windows below n that fit
pub record WindowsBelow (n mask : ℕ) (fits : ℕ → Bool) : Type 0 where
  pub below : mask < 1024
  pub done : (k : ℕ) → k < n → bit_at mask k ≡ bit_of (fits k)
  pub rest : (k : ℕ) → n ≤ k → bit_at mask k ≡ 0

pub windows_yes : (n mask : ℕ) (fits : ℕ → Bool) → n < 10 → fits n ≡ true → WindowsBelow n mask fits → WindowsBelow (n + 1) (bit_or mask (1 * 2 ^ n % 65536)) fits
windows_yes n mask fits few passes before =
    let within : n < 16 = omega arith in
    record {
      below = or_lt 10 mask (1 * 2 ^ n % 65536) before.below (ltb-true (1 * 2 ^ n % 65536) 1024 (all_below-at 10 (λ k. ltb (1 * 2 ^ k % 65536) 1024) n window_bits few));
      done = λ k l. elim (cases_eq k n) [
        | inl e ↦ subst (λ (x : ℕ). bit_at (bit_or mask (1 * 2 ^ n % 65536)) x ≡ bit_of (fits x)) (sym e)
            (bit_at_set_same w16 mask n within ∙ ap bit_of (sym passes))
        | inr ne ↦ bit_at_set_other w16 mask n within k ne ∙ before.done k (omega arith)
      ];
      rest = λ k l. bit_at_set_other w16 mask n within k (λ e. omega arith) ∙ before.rest k (omega arith);
    }

pub windows_no : (n mask : ℕ) (fits : ℕ → Bool) → fits n ≡ false → WindowsBelow n mask fits → WindowsBelow (n + 1) mask fits
windows_no n mask fits fails before =
    record {
      below = before.below;
      done = λ k l. elim (cases_eq k n) [
        | inl e ↦ subst (λ (x : ℕ). bit_at mask x ≡ bit_of (fits x)) (sym e) (before.rest n (omega arith) ∙ ap bit_of (sym fails))
        | inr ne ↦ before.done k (omega arith)
      ];
      rest = λ k l. before.rest k (omega arith);
    }
