use Rattle.std.proofs.Common.{◌≡◌, ◌<◌, ℕ, List, length, get_or}
use Rattle.vp_sets.specs.Draws.{discarded, scale}
use Rattle.vp_hold.proofs.scales.hold_scales.Given as goal

abbrev pub invariant-loop-mask : goal.invariant-loop-mask
invariant-loop-mask l = record {
  long : length l.scales ≡ 32;
  scaled : (hand : List ℕ) (k : ℕ) → length hand ≡ 5 → k < l.mask → get_or l.scales k 0 ≡ scale l.n (length (discarded k hand));
}
