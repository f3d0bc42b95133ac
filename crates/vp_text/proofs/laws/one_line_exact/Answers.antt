use Rattle.std.proofs.Common.{IsTrue}
use Rattle.vp_text.proofs.Sections.{Exact-line}
use Rattle.vp_text.proofs.laws.one_line_exact.Goals as goal

pub returns : goal.returns
returns g c = λ line valid value_of exact some is. Exact-line line (λ a. IsTrue (valid a)) value_of exact some is
