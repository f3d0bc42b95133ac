use Rattle.vp_cross.proofs.CostLaws.{none_where_equal, worst_is_worst}
use Rattle.vp_cross.proofs.laws.worst_classes_cost_most.Goals as goal

pub returns-clause-some : goal.returns-clause-some
returns-clause-some c = λ played priced coin w t e. worst_is_worst played priced coin t w e

pub returns-clause-none : goal.returns-clause-none
returns-clause-none c = none_where_equal
