use Rattle.vp_text.proofs.Writing.{written_stands}
use Rattle.vp_text.proofs.laws.written_stands.Goals as goal

pub returns : goal.returns
returns g c = λ spell value more plain. written_stands spell value more plain
