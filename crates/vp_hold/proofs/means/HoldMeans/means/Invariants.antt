-- The totals so far were made means.
use Rattle.vp_count.specs.Sums.{spread}
use Rattle.vp_hold.specs.Means.{mean}
use Rattle.vp_hold.proofs.Values.{ValuesBelow}
use Rattle.vp_hold.proofs.means.HoldMeans.means.Given as goal

abbrev pub invariant-loop-mask : goal.invariant-loop-mask
invariant-loop-mask l = ValuesBelow (mean l.self l.hand) (spread l.self.size l.self.numbers l.hand) l.mask l.means
