use Rattle.vp_text.proofs.Standing.{leaves_then}
use Rattle.vp_loggram.proofs.log.Log.log_read.Goals as goal

pub returns-in_err-skip_games-clause-leaves : goal.returns-in_err-skip_games-clause-leaves
returns-in_err-skip_games-clause-leaves c = leaves_then _ _ _ c.open.ensures.leaves c.skip_games.ensures.leaves

pub returns-clause-leaves : goal.returns-clause-leaves
returns-clause-leaves c = leaves_then _ _ _ c.open.ensures.leaves c.skip_games.ensures.leaves
