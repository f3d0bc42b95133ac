use Rattle.vp_run.proofs.CommandLaws.{compiles_audited}
use Rattle.vp_run.proofs.laws.compiled_lists_are_audited.Goals as goal

pub returns : goal.returns
returns c = compiles_audited
