use Rattle.std.proofs.Common.{length}
use Rattle.vp_audit.proofs.Filled.{Filled}
use Rattle.vp_audit.proofs.filling.fill_rows.Given as goal

abbrev pub invariant-loop-class : goal.invariant-loop-class
invariant-loop-class g l = record { filled : Filled l.game.table l.game.coin l.rules l.classes l.place l.weights l.best l.none l.cells l.fn.steps l.steps }

abbrev pub decreases-loop-class : goal.decreases-loop-class
decreases-loop-class g l = length l.classes
