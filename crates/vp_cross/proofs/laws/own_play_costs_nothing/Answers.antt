use Rattle.vp_cross.proofs.CostLaws.{costs_nothing}
use Rattle.vp_cross.proofs.laws.own_play_costs_nothing.Goals as goal

pub returns : goal.returns
returns c = costs_nothing
