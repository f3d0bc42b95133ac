-- The games so far were added up, and those that are left bet the same.
use Rattle.std.proofs.Common.{false, length}
use Rattle.vp_replay.specs.Summaries.{AllBet}
use Rattle.vp_replay.proofs.Quiet.{quiet}
use Rattle.vp_replay.proofs.SoFar.{SoFar}
use Rattle.vp_replay.proofs.replaying.summary_at.Given as goal

abbrev pub invariant-loop-event : goal.invariant-loop-event
invariant-loop-event l = record {
  so_far : SoFar l.game.table false l.log l.events l.summary quiet quiet;
  bets : AllBet l.game.coin l.events;
}

abbrev pub decreases-loop-event : goal.decreases-loop-event
decreases-loop-event l = length l.events
