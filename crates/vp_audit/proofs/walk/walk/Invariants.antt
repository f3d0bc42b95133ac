use Rattle.std.proofs.Common.{length}
use Rattle.vp_audit.proofs.SoFar.{SoFar}
use Rattle.vp_audit.proofs.walk.walk.Given as goal

abbrev pub invariant-loop-class : goal.invariant-loop-class
invariant-loop-class g l = record { so_far : SoFar l.game.table l.game.coin l.list l.classes l.ahead l.exceptions l.sums l.fn.steps l.steps }

abbrev pub decreases-loop-class : goal.decreases-loop-class
decreases-loop-class g l = length l.classes
