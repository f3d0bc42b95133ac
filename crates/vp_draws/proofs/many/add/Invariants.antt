use Rattle.std.proofs.Common.{◌≡◌, ℕ, ◌+◌, ◌<◌, ◌≤◌, ◌==◌, length, slice_index, if◌then◌else◌}
use Rattle.vp_draws.specs.Many.{cell}
use Rattle.vp_draws.proofs.many.add.Given as goal

abbrev pub invariant-loop-k : goal.invariant-loop-k
invariant-loop-k l = record {
  done : (k m : ℕ) → k < l.k → cell l.totals k m ≡ cell l.fn.totals k m + (if slice_index l.masks k + slice_index l.more k == m then l.payment else 0);
  left : (k m : ℕ) → l.k ≤ k → cell l.totals k m ≡ cell l.fn.totals k m;
}
