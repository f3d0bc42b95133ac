use Rattle.std.proofs.Common.{◌≡◌, length}
use Rattle.std.specs.List.{range_with_len}
use Rattle.vp_compile.proofs.matrix.Matrix.own_order.Given as goal

abbrev pub invariant-loop-rule : goal.invariant-loop-rule
invariant-loop-rule l = record { rules : l.order.items ≡ range_with_len 0 l.rule; many : length l.order.items ≡ l.rule }
