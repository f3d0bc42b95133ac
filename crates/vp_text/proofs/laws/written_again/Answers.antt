use Rattle.std.proofs.Common.{IsTrue}
use Rattle.vp_text.proofs.Writing.{written_again}
use Rattle.vp_text.proofs.laws.written_again.Goals as goal

pub returns : goal.returns
returns g c = λ spell valid read exact value more is plain. written_again spell (λ a. IsTrue (valid a)) read exact value more is plain
