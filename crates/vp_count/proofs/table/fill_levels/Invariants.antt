use Rattle.std.proofs.Common.{◌≡◌, ◌≤◌}
use Rattle.vp_count.specs.Table.{HasSums, five_numbers}
use Rattle.vp_count.proofs.table.fill_levels.Given as goal

abbrev pub invariant-loop-k : goal.invariant-loop-k
invariant-loop-k l = record {
  few : l.k ≤ 5;
  sums : HasSums l.n l.k (five_numbers l.n l.initial.words) l.words;
  same : five_numbers l.n l.words ≡ five_numbers l.n l.initial.words;
}

abbrev pub decreases-loop-k : goal.decreases-loop-k
decreases-loop-k l = l.k
