use Rattle.vp_run.proofs.CommandLaws.{holds}
use Rattle.vp_run.proofs.laws.holds_tell_every_hold.Goals as goal

pub returns : goal.returns
returns c = holds
