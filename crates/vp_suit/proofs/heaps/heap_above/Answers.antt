use Rattle.std.proofs.Common.{◌∙◌}
use Rattle.vp_suit.proofs.CardHeaps.{heap_of_four}
use Rattle.vp_suit.proofs.heaps.heap_above.Goals as goal

pub returns : goal.returns
returns c = rw (c.card_heap.ensures.value, c.card_heap-2.ensures.value, c.card_heap-3.ensures.value, c.card_heap-4.ensures.value) (heap_of_four c.args.suit c.args.cards.now c.requires.deal.five)
