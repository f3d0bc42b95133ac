-- The classes so far were put and added up.
use Rattle.std.proofs.Common.{◌≡◌, length}
use Rattle.vp_cert.proofs.SoFar.{SoFar}
use Rattle.vp_cert.proofs.classes.put_classes.Given as goal

abbrev pub invariant-loop-class : goal.invariant-loop-class
invariant-loop-class g l = record {
  so_far : SoFar (g.H.Holds.pays l.fn.holds) (g.H.Holds.bet l.fn.holds) l.classes l.sum (g.K.Sink.told l.fn.sink) (g.K.Sink.told l.sink) (g.H.Holds.asked l.fn.holds) (g.H.Holds.asked l.holds);
  same_table : g.H.Holds.pays l.holds ≡ g.H.Holds.pays l.fn.holds;
  same_coin : g.H.Holds.bet l.holds ≡ g.H.Holds.bet l.fn.holds;
}

abbrev pub decreases-loop-class : goal.decreases-loop-class
decreases-loop-class g l = length l.classes
