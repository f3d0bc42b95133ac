use Rattle.std.proofs.Common.{ℕ, ◌<◌}
use Rattle.vp_compile.specs.Rows.{IsRow}
use Rattle.vp_compile.specs.Matrices.{row_of}
use Rattle.vp_compile.proofs.matrix.are_rows.Given as goal

abbrev pub invariant-loop-place : goal.invariant-loop-place
invariant-loop-place l = (k : ℕ) → k < l.place → IsRow (row_of l.rules l.weights l.best l.none l.cells k)
