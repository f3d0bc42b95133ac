use Rattle.vp_run.proofs.CommandLaws.{hits}
use Rattle.vp_run.proofs.laws.hits_print_chances.Goals as goal

pub returns : goal.returns
returns c = hits
