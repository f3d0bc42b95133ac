use Rattle.vp_run.proofs.CommandLaws.{compiles}
use Rattle.vp_run.proofs.laws.compiled_lists_lose_little.Goals as goal

pub returns : goal.returns
returns c = compiles
