-- The games so far, and the first broken law among them.
use Rattle.std.proofs.Common.{◌≡◌, ◌+◌, ◌*◌, ◌≤◌, length}
use Rattle.std.specs.Prelude.{IfNone}
use Rattle.vp_loggram.specs.Sections.{events_in_front, games_skipped}
use Rattle.vp_replay.specs.Rules.{break_in, first_break}
use Rattle.vp_replay.specs.Seeking.{sooner}
use Rattle.vp_replay.proofs.reading.read_games.Given as goal

abbrev pub invariant-loop-event : goal.invariant-loop-event
invariant-loop-event g l = record {
  so_far : sooner l.found (first_break l.fn.kept (l.games + 1) l.credits (events_in_front l.deck l.lines.lines)) ≡ break_in l.fn.kept l.log;
  skipped : games_skipped l.deck l.lines ≡ games_skipped l.deck l.fn.lines;
  count : l.games + length (events_in_front l.deck l.lines.lines) ≤ 67108864;
  credits : IfNone l.found (l.credits ≤ 1000000000000 + 500000 * l.games);
  kept : l.kept ≡ l.fn.kept;
}

abbrev pub decreases-loop-event : goal.decreases-loop-event
decreases-loop-event g l = length l.lines.lines
