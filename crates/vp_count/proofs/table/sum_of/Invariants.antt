use Rattle.std.proofs.Common.{◌≡◌, sum, take}
use Rattle.vp_count.proofs.table.sum_of.Given as goal

abbrev pub invariant-loop-word : goal.invariant-loop-word
invariant-loop-word l = l.total ≡ sum (take l.word-index l.words)
