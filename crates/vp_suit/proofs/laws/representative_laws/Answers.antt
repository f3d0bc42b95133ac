use Rattle.vp_suit.proofs.ClassLaws.{representatives_all, representatives_only, representatives_rise, representative_own, weight_of_class}
use Rattle.vp_suit.proofs.Cover.{weights_of_all, cover}
use Rattle.vp_suit.proofs.Weights.{weight_few}
use Rattle.vp_suit.proofs.laws.representative_laws.Goals as goal

pub returns-clause-all : goal.returns-clause-all
returns-clause-all c = representatives_all

pub returns-clause-only : goal.returns-clause-only
returns-clause-only c = representatives_only

pub returns-clause-rising : goal.returns-clause-rising
returns-clause-rising c = representatives_rise

pub returns-clause-own : goal.returns-clause-own
returns-clause-own c = representative_own

pub returns-clause-weight : goal.returns-clause-weight
returns-clause-weight c = weight_of_class

pub returns-clause-whole : goal.returns-clause-whole
returns-clause-whole c = weights_of_all

pub returns-clause-cover : goal.returns-clause-cover
returns-clause-cover c n some big each rise whole = cover n some big (record { each = each; rise = rise }) whole

pub returns-clause-weighs : goal.returns-clause-weighs
returns-clause-weighs c = weight_few
