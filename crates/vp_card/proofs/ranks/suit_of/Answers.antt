use Rattle.std.proofs.Common.{arith}
use Rattle.vp_card.proofs.Tables.{suit_below}
use Rattle.vp_card.proofs.ranks.suit_of.Goals as goal

pub returns-clause-below : goal.returns-clause-below
returns-clause-below c = suit_below c.args.letter c.number_of.result (omega arith) c.number_of.ensures
