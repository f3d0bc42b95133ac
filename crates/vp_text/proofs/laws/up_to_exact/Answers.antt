use Rattle.std.proofs.Common.{IsTrue}
use Rattle.vp_text.proofs.UpTo.{Exact-up_to}
use Rattle.vp_text.proofs.laws.up_to_exact.Goals as goal

pub returns : goal.returns
returns g c = λ word valid read most key exact apart. Exact-up_to word (λ a. IsTrue (valid a)) read exact most key apart
