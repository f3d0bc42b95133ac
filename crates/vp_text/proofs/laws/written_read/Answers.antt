use Rattle.vp_text.proofs.Writing.{written_read}
use Rattle.vp_text.proofs.laws.written_read.Goals as goal

pub returns : goal.returns
returns c = λ text more plain. written_read text more plain
