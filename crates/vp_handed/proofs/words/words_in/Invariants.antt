use Rattle.std.proofs.Common.{map, length}
use Rattle.vp_handed.proofs.Splits.{IsSplit}
use Rattle.vp_handed.proofs.words.words_in.Given as goal

abbrev pub invariant-loop-left : goal.invariant-loop-left
invariant-loop-left l = IsSplit l.bytes l.left (map (λ w. w.now) l.words.items)

abbrev pub decreases-loop-left : goal.decreases-loop-left
decreases-loop-left l = length l.left
