-- By what totals are multiplied.
use Rattle.std.proofs.Common.{◌≡◌, ◌⊎◌, ℕ, ◌+◌, ◌-◌, ◌<◌, ◌≤◌, List, length, get_or, set, ap, sym, ◌∙◌, arith, inl, inr, get_or-set_same, get_or-set_other}
use Rattle.std.specs.Prelude.{count_ones}
use Rattle.std.proofs.lemmas.Bool.{cases_eq}
use Rattle.vp_sets.specs.Draws.{discarded, scale}
use Rattle.vp_sets.proofs.Holds.{length-held}
use Rattle.vp_count.proofs.HeldMasks.{holds_few, holds_many}

pub ones_few : (mask : ℕ) → mask < 32 → count_ones mask ≤ 5
ones_few mask l = holds_few mask (count_ones mask) (holds_many mask l)

-- one scale more
pub scaled_more : (n mask x : ℕ) (xs : List ℕ) → mask < 32 → length xs ≡ 32 → x ≡ scale n (5 - count_ones mask)
    → ((hand : List ℕ) (k : ℕ) → length hand ≡ 5 → k < mask → get_or xs k 0 ≡ scale n (length (discarded k hand)))
    → (hand : List ℕ) (k : ℕ) → length hand ≡ 5 → k < mask + 1 → get_or (set xs mask x) k 0 ≡ scale n (length (discarded k hand))
scaled_more n mask x xs l long is before hand k five m = at (cases_eq k mask)
  where
    drawn : 5 - count_ones mask ≡ length (discarded mask hand)
    drawn = omega (arith, holds_many mask l hand five, length-held mask hand)

    at : (k ≡ mask) ⊎ (k ≡ mask → ⊥) → get_or (set xs mask x) k 0 ≡ scale n (length (discarded k hand))
    at (inl e) = ap (λ i. get_or (set xs mask x) i 0) e ∙ get_or-set_same xs mask x 0 (omega arith) ∙ is ∙ ap (λ d. scale n d) drawn ∙ ap (λ i. scale n (length (discarded i hand))) (sym e)
    at (inr ne) = get_or-set_other xs mask k x 0 ne ∙ before hand k five (omega arith)
