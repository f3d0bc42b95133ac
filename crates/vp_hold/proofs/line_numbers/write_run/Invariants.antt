use Rattle.std.proofs.Common.{◌≡◌, ◌+◌}
use Rattle.vp_count.proofs.HandNumbers.{RunBelow}
use Rattle.vp_hold.specs.Numbers.{by_line}
use Rattle.vp_hold.proofs.line_numbers.write_run.Given as goal

abbrev pub invariant-loop-low : goal.invariant-loop-low
invariant-loop-low g l = record {
  run : RunBelow (by_line l.fn.kept l.numbers) l.upper l.words l.low;
  steps : l.steps ≡ l.fn.steps + l.low;
  same : l.kept ≡ l.fn.kept;
}
