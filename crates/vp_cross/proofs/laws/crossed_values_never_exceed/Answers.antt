use Rattle.vp_cross.proofs.Totals.{costs_add_up, never_exceeds}
use Rattle.vp_cross.proofs.CostLaws.{equal_where_best}
use Rattle.vp_cross.proofs.laws.crossed_values_never_exceed.Goals as goal

pub returns-clause-most : goal.returns-clause-most
returns-clause-most c = never_exceeds

pub returns-clause-loss : goal.returns-clause-loss
returns-clause-loss c = costs_add_up

pub returns-clause-equal : goal.returns-clause-equal
returns-clause-equal c = equal_where_best
