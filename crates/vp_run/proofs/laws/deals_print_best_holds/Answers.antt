use Rattle.vp_run.proofs.CommandLaws.{deals}
use Rattle.vp_run.proofs.laws.deals_print_best_holds.Goals as goal

pub returns : goal.returns
returns c = deals
