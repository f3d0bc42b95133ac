use Rattle.vp_text.proofs.Few.{few_given}
use Rattle.vp_text.proofs.laws.few_lines.Goals as goal

pub returns : goal.returns
returns c = λ bytes. few_given bytes
