use Rattle.std.proofs.Common.{◌≡◌, ◌+◌, ◌*◌, ◌≤◌, ◌++◌, map}
use Rattle.vp_text.specs.Written.{written}
use Rattle.vp_loggram.specs.Spelling.{event_words}
use Rattle.vp_gen.specs.Generator.{games_from}
use Rattle.vp_gen.proofs.logs.push_games.Given as goal

abbrev pub invariant-games : goal.invariant-games
invariant-games g l = record {
  so_far : l.text.items ++ written (map event_words (games_from l.game.table l.game.coin l.credits l.state l.left))
      ≡ l.fn.text.items ++ written (map event_words (games_from l.game.table l.game.coin l.fn.credits l.fn.state l.fn.games));
  funds : l.game.coin * l.left ≤ l.credits;
  small : l.credits + 500000 * l.left ≤ 50000500000;
  payments : l.payments ≡ l.game;
}

abbrev pub decreases-games : goal.decreases-games
decreases-games g l = l.left
