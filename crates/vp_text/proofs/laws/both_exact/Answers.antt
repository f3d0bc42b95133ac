use Rattle.std.proofs.Common.{IsTrue}
use Rattle.vp_text.proofs.Joined.{Exact-both}
use Rattle.vp_text.proofs.laws.both_exact.Goals as goal

pub returns : goal.returns
returns g c = λ spell valid first spell2 valid2 second one two. Exact-both spell (λ a. IsTrue (valid a)) first spell2 (λ a b. IsTrue (valid2 a b)) second one two
