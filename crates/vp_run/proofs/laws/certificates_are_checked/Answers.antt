use Rattle.vp_run.proofs.CommandLaws.{certificates_well}
use Rattle.vp_run.proofs.laws.certificates_are_checked.Goals as goal

pub returns : goal.returns
returns c = certificates_well
