-- The classes so far were added up.
use Rattle.std.proofs.Common.{length}
use Rattle.vp_cross.proofs.ByClasses.{Tallied}
use Rattle.vp_cross.proofs.crossed.cross.Given as goal

abbrev pub invariant-loop-class : goal.invariant-loop-class
invariant-loop-class l =
    Tallied l.played.table l.priced.table l.priced.coin l.classes l.crossed.optimum l.crossed.value l.crossed.classes l.crossed.deals l.crossed.worst

abbrev pub decreases-loop-class : goal.decreases-loop-class
decreases-loop-class l = length l.classes
