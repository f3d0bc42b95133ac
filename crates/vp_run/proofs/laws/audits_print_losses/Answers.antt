use Rattle.vp_run.proofs.CommandLaws.{audits}
use Rattle.vp_run.proofs.laws.audits_print_losses.Goals as goal

pub returns : goal.returns
returns c = audits
