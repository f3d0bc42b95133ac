use Rattle.std.proofs.Common.{take}
use Rattle.std.specs.List.{All}
use Rattle.vp_compile.specs.Rows.{IsCell}
use Rattle.vp_compile.proofs.matrix.are_cells.Given as goal

abbrev pub invariant-loop-value : goal.invariant-loop-value
invariant-loop-value l = All (IsCell l.best) (take l.value-index l.cells)
