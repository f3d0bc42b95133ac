use Rattle.vp_count.proofs.Masks.{Passed}
use Rattle.vp_count.proofs.totals.all_totals.Given as goal

abbrev pub invariant-loop-place : goal.invariant-loop-place
invariant-loop-place g l = Passed (g.T.Sums.size l.fn.sums) (g.T.Sums.numbers l.fn.sums) l.hand l.totals l.bit l._place
