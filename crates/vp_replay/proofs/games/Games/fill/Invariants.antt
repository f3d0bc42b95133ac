use Rattle.std.proofs.Common.{◌≡◌, ◌+◌, ◌*◌, length}
use Rattle.vp_sets.specs.Sets.{choose}
use Rattle.vp_count.specs.Table.{first_word}
use Rattle.vp_replay.specs.Columns.{columns}
use Rattle.vp_replay.proofs.games.Games.fill.Given as goal

abbrev pub invariant-loop-column : goal.invariant-loop-column
invariant-loop-column g l = record {
  games : l.games.items ≡ columns l.table l.column;
  long : length l.rest + l.column * first_word l.table.deck 6 ≡ l.table.coins * first_word l.table.deck 6;
  steps : l.steps ≡ l.fn.steps + l.column * choose l.table.deck 5;
}
