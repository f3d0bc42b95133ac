use Rattle.vp_count.proofs.Exclusion.{nothing_excluded, one_excluded, draws_exclude}
use Rattle.vp_count.proofs.laws.discards_are_excluded.Goals as goal

pub returns-clause-none : goal.returns-clause-none
returns-clause-none c = nothing_excluded

pub returns-clause-one : goal.returns-clause-one
returns-clause-one c = one_excluded

pub returns-clause-draws : goal.returns-clause-draws
returns-clause-draws c = draws_exclude
