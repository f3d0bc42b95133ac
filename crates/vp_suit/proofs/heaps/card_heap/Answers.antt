use Rattle.std.proofs.Common.{arith}
use Rattle.vp_suit.proofs.CardHeaps.{card_entry, card_heap_small}
use Rattle.vp_suit.proofs.heaps.card_heap.Goals as goal

pub returns-clause-value : goal.returns-clause-value
returns-clause-value c = card_entry c.args.suit c.args.card c.requires.suit c.requires.card

pub returns-clause-small : goal.returns-clause-small
returns-clause-small c = omega (arith, card_entry c.args.suit c.args.card c.requires.suit c.requires.card, card_heap_small c.args.suit c.args.card)
