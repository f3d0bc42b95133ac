use Rattle.vp_text.proofs.Sections.{spelling_unique}
use Rattle.vp_text.proofs.laws.spelling_unique.Goals as goal

pub returns : goal.returns
returns g c = λ spell valid read exact a b x y va vb e. let same = spelling_unique exact a b x y va vb e in (same.value, same.rest)
