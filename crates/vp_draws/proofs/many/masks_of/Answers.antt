use Rattle.std.proofs.Common.{◌≡◌, ◌<◌, arith}
use Rattle.vp_draws.proofs.many.masks_of.Goals as goal

pub returns-clause-masks : goal.returns-clause-masks
returns-clause-masks c = λ k l. c.loop-k.invariant.done k (omega arith)
