use Rattle.vp_check.proofs.JoinedWalks.{walks_join, walks_tell}
use Rattle.vp_check.proofs.laws.checks_join.Goals as goal

pub returns-clause-range : goal.returns-clause-range
returns-clause-range g from count c is walks true_ones walked = walks_join from count c is walks true_ones walked

pub returns-clause-all : goal.returns-clause-all
returns-clause-all g c walks is true_ones walked = walks_tell c walks is true_ones walked
