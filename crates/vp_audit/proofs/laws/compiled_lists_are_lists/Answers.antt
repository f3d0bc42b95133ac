use Rattle.vp_audit.proofs.CompiledLists.{compiled_is}
use Rattle.vp_audit.proofs.laws.compiled_lists_are_lists.Goals as goal

pub returns : goal.returns
returns c = λ table coin pool order places bet known whole some. compiled_is table coin pool known order places whole some
