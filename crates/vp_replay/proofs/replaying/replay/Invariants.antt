-- The games so far were put and added up.
use Rattle.std.proofs.Common.{length}
use Rattle.vp_replay.proofs.SoFar.{SoFar}
use Rattle.vp_replay.proofs.replaying.replay.Given as goal

abbrev pub invariant-loop-event : goal.invariant-loop-event
invariant-loop-event g l = SoFar l.games l.show l.log l.events l.summary (g.K.Sink.told l.fn.sink) (g.K.Sink.told l.sink)

abbrev pub decreases-loop-event : goal.decreases-loop-event
decreases-loop-event g l = length l.events
