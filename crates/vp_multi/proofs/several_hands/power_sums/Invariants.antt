-- The classes so far were added up.
use Rattle.std.proofs.Common.{length}
use Rattle.vp_multi.proofs.ByClasses.{PowersAdded}
use Rattle.vp_multi.proofs.several_hands.power_sums.Given as goal

abbrev pub invariant-loop-class : goal.invariant-loop-class
invariant-loop-class l = PowersAdded l.game.table l.game.coin l.classes l.sums.values l.sums.squares l.sums.squared_values

abbrev pub decreases-loop-class : goal.decreases-loop-class
decreases-loop-class l = length l.classes
