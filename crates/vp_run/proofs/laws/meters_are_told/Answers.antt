use Rattle.vp_run.proofs.CommandLaws.{meters}
use Rattle.vp_run.proofs.laws.meters_are_told.Goals as goal

pub returns : goal.returns
returns c = meters
