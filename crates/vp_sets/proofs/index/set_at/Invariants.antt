use Rattle.vp_sets.proofs.Walk.{Filling}
use Rattle.vp_sets.proofs.index.set_at.Given as goal

abbrev pub invariant-loop-left : goal.invariant-loop-left
invariant-loop-left l = Filling l.n l.k l.i l.out l.top l.left l.rest

abbrev pub decreases-loop-left : goal.decreases-loop-left
decreases-loop-left l = l.top
