use Rattle.std.proofs.Common.{◌≡◌, ℕ, ◌<◌, [], ◌∷◌, length, slice_index}
use Rattle.vp_sets.specs.Draws.{mask_of}
use Rattle.vp_draws.proofs.by_line.masks_of.Given as goal

abbrev pub invariant-loop-card : goal.invariant-loop-card
invariant-loop-card l = (length l.masks ≡ 54) × ((c : ℕ) → c < l.card → slice_index l.masks c ≡ mask_of (c ∷ []) l.hand)
