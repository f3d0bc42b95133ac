use Rattle.std.proofs.Common.{sym, subst}
use Rattle.vp_compile.specs.Excepted.{AreFewest}
use Rattle.vp_compile.proofs.Excepted.{only_they}
use Rattle.vp_compile.proofs.Fewest.{are_the_fewest}
use Rattle.vp_compile.proofs.laws.fewest_are_excepted.Goals as goal

pub returns : goal.returns
returns c rows order limit places = (only_they rows order limit places, λ e. subst (AreFewest rows order limit) (sym e) (are_the_fewest rows order limit))
