use Rattle.std.proofs.Common.{arith}
use Rattle.vp_suit.proofs.Group.{suit_read, suit_small}
use Rattle.vp_suit.proofs.suit_turn.SuitTurn.of_suit.Goals as goal

pub returns-clause-value : goal.returns-clause-value
returns-clause-value c = suit_read c.args.self c.args.suit c.from.result c.from-2.result (omega arith) (omega arith)

pub returns-clause-below : goal.returns-clause-below
returns-clause-below c = rw (suit_read c.args.self c.args.suit c.from.result c.from-2.result (omega arith) (omega arith)) (suit_small c.args.self c.args.suit (omega arith) (omega arith))
