use Rattle.std.proofs.Common.{IsTrue}
use Rattle.vp_text.proofs.Rows.{Exact-closed}
use Rattle.vp_text.proofs.laws.closed_exact.Goals as goal

pub returns : goal.returns
returns g c = λ word may_close line allows item_of exact apart closes. Exact-closed word may_close line (λ front item. IsTrue (allows front item)) item_of exact apart closes
