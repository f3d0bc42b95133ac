use Rattle.std.proofs.Common.{arith}
use Rattle.vp_card.proofs.Tables.{rank_below}
use Rattle.vp_card.proofs.ranks.rank_of.Goals as goal

pub returns-clause-below : goal.returns-clause-below
returns-clause-below c = rank_below c.args.letter c.number_of.result (omega arith) c.number_of.ensures
