use Rattle.vp_run.proofs.CommandLaws.{multis}
use Rattle.vp_run.proofs.laws.multis_print_moments.Goals as goal

pub returns : goal.returns
returns c = multis
