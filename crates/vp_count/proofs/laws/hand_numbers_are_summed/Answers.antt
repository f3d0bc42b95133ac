use Rattle.vp_count.proofs.HandNumbers.{number_is, spread_of}
use Rattle.vp_count.proofs.laws.hand_numbers_are_summed.Goals as goal

pub returns-clause-number : goal.returns-clause-number
returns-clause-number c = number_is

pub returns-clause-draws : goal.returns-clause-draws
returns-clause-draws c = spread_of
