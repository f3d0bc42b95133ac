use Rattle.std.proofs.Common.{arith, length, drop, sym, ◌∙◌}
use Rattle.vp_suit.proofs.CardHeaps.{heap_small}
use Rattle.vp_suit.proofs.Runs.{heap_front, length-upper}
use Rattle.vp_suit.proofs.heaps.heap_with.Goals as goal

pub overflow_add-result : goal.overflow_add-result
overflow_add-result c = omega (arith, heap_small c.args.suit (drop 1 c.args.cards.now), length-upper c.args.cards.now c.requires.deal.five, c.card_heap.ensures.small)

pub returns : goal.returns
returns c = omega (arith, heap_front c.args.suit c.args.cards.now c.requires.deal.five, c.card_heap.ensures.value, c.requires.above)
