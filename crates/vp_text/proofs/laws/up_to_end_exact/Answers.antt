use Rattle.std.proofs.Common.{IsTrue}
use Rattle.vp_text.proofs.UpTo.{Exact-up_to_end}
use Rattle.vp_text.proofs.laws.up_to_end_exact.Goals as goal

pub returns : goal.returns
returns g c = λ say valid behind most exact. Exact-up_to_end say (λ a. IsTrue (valid a)) behind exact most
