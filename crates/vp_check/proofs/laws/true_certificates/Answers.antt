use Rattle.vp_check.proofs.EveryDeals.{true_tells}
use Rattle.vp_check.proofs.laws.true_certificates.Goals as goal

pub returns : goal.returns
returns g c is e = true_tells c is e
