use Rattle.std.proofs.Common.{◌≡◌, ◌+◌, ◌<◌, length}
use Rattle.std.specs.List.{All}
use Rattle.vp_check.specs.Certificates.{IsClassLine}
use Rattle.vp_check.specs.Rows.{classes_of}
use Rattle.vp_check.specs.Walks.{asked_or, walked_at}
use Rattle.vp_check.proofs.walk.walk.Given as goal

abbrev pub invariant-loop-row : goal.invariant-loop-row
invariant-loop-row g l = record {
  so_far : asked_or l.table l.coin l.asked.items (walked_at l.table l.coin l.from l.end l.place l.rows l.many) ≡ walked_at l.table l.coin l.from l.end 1 l.fn.rows 0;
  asked : All (IsClassLine l.table.deck) (classes_of l.asked.items);
  few_asked : length l.asked.items < 256;
  lines : All (IsClassLine l.table.deck) (classes_of l.rows);
  left : l.place + length l.rows ≡ 1 + length l.fn.rows;
  few : l.many < l.place;
}

abbrev pub decreases-loop-row : goal.decreases-loop-row
decreases-loop-row g l = length l.rows
