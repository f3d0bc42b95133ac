use Rattle.std.proofs.Common.{◌≡◌, length}
use Rattle.vp_text.specs.Sections.{Leaves}
use Rattle.vp_loggram.specs.Sections.{games_skipped}
use Rattle.vp_loggram.proofs.log.skip_games.Given as goal

abbrev pub invariant-games : goal.invariant-games
invariant-games l = record {
  so_far : games_skipped l.deck l.lines ≡ games_skipped l.deck l.fn.lines;
  leaves : Leaves l.fn.lines l.lines;
}

abbrev pub decreases-games : goal.decreases-games
decreases-games l = length l.lines.lines
