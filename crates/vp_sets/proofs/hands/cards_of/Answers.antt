use Rattle.vp_sets.proofs.FiveCards.{row_of}
use Rattle.vp_sets.proofs.hands.cards_of.Goals as goal

pub returns : goal.returns
returns c = row_of c.args.cards.now c.card.result c.card-2.result c.card-3.result c.card-4.result c.card-5.result c.requires.five c.card.ensures c.card-2.ensures c.card-3.ensures c.card-4.ensures c.card-5.ensures
