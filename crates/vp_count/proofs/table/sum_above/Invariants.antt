use Rattle.vp_count.proofs.Scan.{Above}
use Rattle.vp_count.proofs.table.sum_above.Given as goal

abbrev pub invariant-loop-left : goal.invariant-loop-left
invariant-loop-left l = Above l.n l.set l.words l.start l.left l.end l.first l.total

abbrev pub decreases-loop-left : goal.decreases-loop-left
decreases-loop-left l = l.left
