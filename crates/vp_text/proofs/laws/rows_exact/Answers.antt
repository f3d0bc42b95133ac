use Rattle.std.proofs.Common.{IsTrue}
use Rattle.vp_text.proofs.Rows.{Exact-rows}
use Rattle.vp_text.proofs.laws.rows_exact.Goals as goal

pub returns : goal.returns
returns g c = λ line rule row_of exact finish. Exact-rows line (λ front row. IsTrue (rule front row)) row_of exact finish
