use Rattle.std.proofs.Common.{arith}
use Rattle.vp_count.proofs.HeldMasks.{holds_few, holds_many}
use Rattle.vp_count.proofs.holds.cards_held.Goals as goal

pub overflow_cast-result : goal.overflow_cast-result
overflow_cast-result c = omega (arith, holds_few _ _ (holds_many c.args.mask c.requires))

pub returns-clause-many : goal.returns-clause-many
returns-clause-many c = holds_many c.args.mask c.requires

pub returns-clause-few : goal.returns-clause-few
returns-clause-few c = holds_few _ _ (holds_many c.args.mask c.requires)
