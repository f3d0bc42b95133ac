use Rattle.vp_csv.proofs.Breaks.{first_is, none_is}
use Rattle.vp_csv.proofs.laws.first_breaks_are_refused.Goals as goal

pub returns-clause-none : goal.returns-clause-none
returns-clause-none c = none_is

pub returns-clause-first : goal.returns-clause-first
returns-clause-first c = first_is
