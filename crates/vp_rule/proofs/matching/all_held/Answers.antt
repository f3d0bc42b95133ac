use Rattle.std.proofs.Common.{arith, refl}
use Rattle.vp_rule.proofs.HeldRight.{first_held, held_more}
use Rattle.vp_rule.proofs.matching.all_held.Goals as goal

pub loop-mask-init : goal.loop-mask-init
loop-mask-init c = first_held _ _ _ _ refl c.of-all.ensures.held

pub loop-mask-preserved : goal.loop-mask-preserved
loop-mask-preserved c = held_more _ _ _ _ _ (omega arith) c.of.ensures.held c.loop-mask.invariant
