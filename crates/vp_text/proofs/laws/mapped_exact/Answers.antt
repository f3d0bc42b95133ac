use Rattle.std.proofs.Common.{IsTrue}
use Rattle.vp_text.proofs.Joined.{Exact-mapped}
use Rattle.vp_text.proofs.laws.mapped_exact.Goals as goal

pub returns : goal.returns
returns g c = λ spell valid read spell2 valid2 see back exact seen. Exact-mapped spell (λ a. IsTrue (valid a)) read spell2 (λ b. IsTrue (valid2 b)) see back exact seen
