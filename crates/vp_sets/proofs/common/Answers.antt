use Rattle.vp_sets.proofs.Denominators.{common_divided, common_least}
use Rattle.vp_sets.proofs.common.Goals as goal

pub returns-clause-divided : goal.returns-clause-divided
returns-clause-divided c k few = rw c.denominator.ensures.value (common_divided c.args.n k c.requires few)

pub returns-clause-least : goal.returns-clause-least
returns-clause-least c m some divided = rw c.denominator.ensures.value (common_least c.args.n m some divided)
