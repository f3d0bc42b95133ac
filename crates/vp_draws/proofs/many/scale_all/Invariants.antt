use Rattle.std.proofs.Common.{◌≡◌, ℕ, ◌<◌, ◌≤◌, ◌*◌, length, slice_index}
use Rattle.vp_sets.specs.Draws.{discarded, scale}
use Rattle.vp_draws.proofs.many.scale_all.Given as goal

abbrev pub invariant-loop-mask : goal.invariant-loop-mask
invariant-loop-mask l = record {
  done : (mask : ℕ) → mask < l.mask → slice_index l.row mask ≡ slice_index l.fn.row mask * scale l.n (length (discarded mask l.hand));
  left : (mask : ℕ) → l.mask ≤ mask → slice_index l.row mask ≡ slice_index l.fn.row mask;
}
