-- The numbers of the runs so far stand in front.
use Rattle.std.proofs.Common.{◌≡◌, ◌+◌}
use Rattle.vp_count.proofs.HandNumbers.{Written}
use Rattle.vp_hold.specs.Numbers.{by_line}
use Rattle.vp_hold.proofs.line_numbers.write_numbers.Given as goal

abbrev pub invariant-loop : goal.invariant-loop
invariant-loop g l = record {
  written : Written l.table.deck (by_line l.table l.numbers) l.words l.upper l.counter l.first;
  steps : l.steps ≡ l.fn.steps + l.first;
  table : l.kept ≡ l.table;
}
