use Rattle.std.proofs.Common.{◌≡◌}
use Rattle.vp_count.specs.Table.{first_word}
use Rattle.vp_count.proofs.table.first_word.Given as goal

abbrev pub invariant-loop-size : goal.invariant-loop-size
invariant-loop-size l = l.words ≡ first_word l.n l.size
