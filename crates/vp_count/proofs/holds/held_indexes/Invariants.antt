use Rattle.std.proofs.Common.{◌≡◌, ◌^◌}
use Rattle.vp_count.specs.HeldMasks.{Indexed}
use Rattle.vp_count.proofs.holds.held_indexes.Given as goal

abbrev pub invariant-loop-place : goal.invariant-loop-place
invariant-loop-place l = record {
  power : l.bit ≡ 2 ^ l.place;
  so_far : Indexed l.hand l.indexes l.bit;
}
