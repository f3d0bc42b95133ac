-- A number between bounds is read from its digits, and from nothing else.
use Rattle.std.proofs.Common.{sym, ap, ◌∙◌}
use Rattle.vp_text.specs.Numbers.{number_within}
use Rattle.vp_text.proofs.Numbers.{number_within_exact}
use Rattle.vp_text.proofs.laws.numbers_are_spelled.Goals as goal

pub returns : goal.returns
returns c = λ least most n word below.
    let exact = number_within_exact least most below in
    (λ read. let t = exact.takes word n read in (t.0.0, t.0.1, sym t.1), λ h. ap (number_within least most) h.2 ∙ exact.again n (h.0, h.1))
