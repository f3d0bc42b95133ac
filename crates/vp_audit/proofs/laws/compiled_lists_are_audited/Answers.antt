use Rattle.vp_audit.proofs.CompileTells.{lists_audited}
use Rattle.vp_audit.proofs.laws.compiled_lists_are_audited.Goals as goal

pub returns : goal.returns
returns c = lists_audited
