use Rattle.std.proofs.Common.{◌-◌, ◌*◌}
use Rattle.vp_sets.proofs.Denominators.{Searched}
use Rattle.vp_sets.proofs.denominator.Given as goal

abbrev pub invariant-loop-number : goal.invariant-loop-number
invariant-loop-number l = Searched l.n l.step l.number

abbrev pub decreases-loop-number : goal.decreases-loop-number
decreases-loop-number l = 60 * l.step - l.number
