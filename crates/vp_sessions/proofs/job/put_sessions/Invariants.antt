-- The lines of the sessions before the place were put, and the unlawful ones among them counted.
use Rattle.std.proofs.Common.{◌≡◌}
use Rattle.vp_io.proofs.PutSoFar.{PutSoFar}
use Rattle.vp_sessions.specs.Sessions.{sessions_text}
use Rattle.vp_sessions.proofs.SessionLines.{Counted, lines_left}
use Rattle.vp_sessions.proofs.job.put_sessions.Given as goal

abbrev pub invariant-loop-place : goal.invariant-loop-place
invariant-loop-place g l = record {
  put : PutSoFar (g.K.Sink.told l.fn.sink) (g.K.Sink.told l.sink) (sessions_text l.games l.sessions.sessions) (lines_left l.games l.sessions.sessions l.place);
  unlawful : Counted l.games l.sessions.sessions l.place l.unlawful;
  kept : l.kept ≡ l.games;
}
