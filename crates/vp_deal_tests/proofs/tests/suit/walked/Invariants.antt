use Rattle.std.proofs.Common.{length}
use Rattle.vp_deal_tests.proofs.tests.suit.walked.Given as goal

abbrev pub decreases-loop-class : goal.decreases-loop-class
decreases-loop-class l = length l.classes
