use Rattle.std.proofs.Common.{◌+◌}
use Rattle.vp_count.specs.HeldMasks.{Indexed}
use Rattle.vp_count.proofs.holds.hold_next.Given as goal

abbrev pub invariant-loop-low : goal.invariant-loop-low
invariant-loop-low l = Indexed l.hand l.indexes (l.bit + l.low)
