use Rattle.std.proofs.Common.{length}
use Rattle.vp_count.specs.Table.{five_numbers}
use Rattle.vp_count.proofs.Fill.{Filled}
use Rattle.vp_count.proofs.table.fill_sets.Given as goal

abbrev pub invariant-loop-i : goal.invariant-loop-i
invariant-loop-i l = Filled l.n (length l.initial.set) (five_numbers l.n l.initial.words) l.words l.set l.i
