use Rattle.std.proofs.Common.{◌≡◌, ◌+◌, length}
use Rattle.vp_suit.specs.Classes.{representatives}
use Rattle.vp_suit.proofs.classes.class_count.Given as goal

abbrev pub invariant-loop-count : goal.invariant-loop-count
invariant-loop-count l = l.count + length l.classes ≡ length (representatives l.n)

abbrev pub decreases-loop-count : goal.decreases-loop-count
decreases-loop-count l = length l.classes
