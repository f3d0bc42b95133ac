use Rattle.vp_gen.proofs.Accepted.{accepted}
use Rattle.vp_gen.proofs.laws.made_logs_are_accepted.Goals as goal

pub returns : goal.returns
returns c = accepted
