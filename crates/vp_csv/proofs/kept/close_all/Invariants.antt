use Rattle.std.proofs.Common.{◌≡◌, ◌++◌, take, drop, map}
use Rattle.vp_csv.specs.Kept.{closed}
use Rattle.vp_csv.proofs.kept.close_all.Given as goal

abbrev pub invariant-loop-session : goal.invariant-loop-session
invariant-loop-session l = l.sessions ≡ map closed (take l.session-index l.fn.sessions) ++ drop l.session-index l.fn.sessions
