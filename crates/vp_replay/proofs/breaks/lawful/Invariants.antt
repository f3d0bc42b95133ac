-- No game so far breaks a law.
use Rattle.std.proofs.Common.{◌≡◌, ◌+◌, ◌*◌, ◌≤◌, length}
use Rattle.vp_replay.specs.Rules.{break_in, first_break}
use Rattle.vp_replay.proofs.breaks.lawful.Given as goal

abbrev pub invariant-loop-event : goal.invariant-loop-event
invariant-loop-event g l = record {
  so_far : first_break l.table (l.games + 1) l.credits l.events ≡ break_in l.table l.log;
  count : l.games + length l.events ≡ length l.log.events;
  credits : l.credits ≤ 1000000000000 + 500000 * l.games;
  ranked : l.steps ≡ l.fn.steps + l.games;
  kept : l.kept ≡ l.table;
}

abbrev pub decreases-loop-event : goal.decreases-loop-event
decreases-loop-event g l = length l.events
