use Rattle.std.proofs.Common.{IsTrue}
use Rattle.vp_text.proofs.Streams.{Exact-following}
use Rattle.vp_text.proofs.laws.following_exact.Goals as goal

pub returns : goal.returns
returns g c = λ line valid may item_of state exact. Exact-following line (λ i. IsTrue (valid i)) may item_of exact state
