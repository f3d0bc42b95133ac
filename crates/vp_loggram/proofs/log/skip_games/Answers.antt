use Rattle.std.proofs.Common.{sym, ◌∙◌}
use Rattle.vp_text.proofs.Standing.{leaves_then}
use Rattle.vp_loggram.proofs.Next_games.{game_read}
use Rattle.vp_loggram.proofs.log.skip_games.Goals as goal

pub returns-in_err-next_game-clause-leaves : goal.returns-in_err-next_game-clause-leaves
returns-in_err-next_game-clause-leaves c = leaves_then _ _ _ c.games.invariant.leaves c.next_game.ensures.leaves

pub games-preserved : goal.games-preserved
games-preserved c = record {
  so_far = sym (game_read _ _ _ _ _ c.in-Some.is c.in_ok-next_game.ensures.read).skipped ∙ c.games.invariant.so_far;
  leaves = leaves_then _ _ _ c.games.invariant.leaves c.next_game.ensures.leaves;
}

pub returns-clause-leaves : goal.returns-clause-leaves
returns-clause-leaves c = leaves_then _ _ _ c.games.invariant.leaves c.next_game.ensures.leaves
