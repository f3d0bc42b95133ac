use Rattle.std.proofs.Common.{◌≡◌, length}
use Rattle.vp_meter.proofs.MeterSoFar.{MeterSoFar}
use Rattle.vp_meter.proofs.report.put_classes.Given as goal

abbrev pub invariant-loop-class : goal.invariant-loop-class
invariant-loop-class g l = record {
  so_far : MeterSoFar l.m l.lo l.hi l.classes l.first l.fn.counts l.counts (g.K.Sink.told l.fn.sink) (g.K.Sink.told l.sink);
  long : length l.counts ≡ length l.fn.counts;
}

abbrev pub decreases-loop-class : goal.decreases-loop-class
decreases-loop-class g l = length l.classes
