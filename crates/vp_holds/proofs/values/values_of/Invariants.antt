use Rattle.std.proofs.Common.{◌≡◌, ℕ, ◌<◌, length, slice_index}
use Rattle.vp_draws.specs.Draws.{value}
use Rattle.vp_holds.proofs.values.values_of.Given as goal

abbrev pub invariant-loop-mask : goal.invariant-loop-mask
invariant-loop-mask l = (length l.values ≡ 32) × ((mask : ℕ) → mask < l.mask → slice_index l.values mask ≡ value l.table l.coin l.hand mask)
