use Rattle.std.proofs.Common.{◌≡◌, ◌*◌, ◌%◌, ◌-◌, ◌≤◌, length}
use Rattle.vp_count.proofs.Masks.{Left}
use Rattle.vp_count.proofs.totals.leave_out.Given as goal

abbrev pub invariant-loop-base : goal.invariant-loop-base
invariant-loop-base l = record {
  whole : l.base % (2 * l.bit) ≡ 0;
  within : l.base ≤ 32;
  long : length l.totals ≡ 32;
  left : Left l.fn.totals l.totals l.bit l.base;
}

abbrev pub decreases-loop-base : goal.decreases-loop-base
decreases-loop-base l = 32 - l.base

abbrev pub invariant-loop-mask : goal.invariant-loop-mask
invariant-loop-mask l = record {
  long : length l.totals ≡ 32;
  left : Left l.fn.totals l.totals l.bit l.mask;
}
