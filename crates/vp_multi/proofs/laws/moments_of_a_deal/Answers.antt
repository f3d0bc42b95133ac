use Rattle.vp_multi.proofs.DealMoments.{moments_exist, moments_are_unique}
use Rattle.vp_multi.proofs.laws.moments_of_a_deal.Goals as goal

pub returns-clause-exist : goal.returns-clause-exist
returns-clause-exist c = moments_exist

pub returns-clause-unique : goal.returns-clause-unique
returns-clause-unique c = moments_are_unique
