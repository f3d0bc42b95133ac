use Rattle.vp_rule.specs.ByCounts.{AreHeld}
use Rattle.vp_rule.proofs.matching.all_held.Given as goal

abbrev pub invariant-loop-mask : goal.invariant-loop-mask
invariant-loop-mask l = AreHeld l.wild l.hand l.mask l.all
