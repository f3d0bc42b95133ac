use Rattle.vp_sets.proofs.FiveCards.{different_cards, hand_of_set}
use Rattle.vp_sets.proofs.hands.hand_of.Goals as goal

pub unwrap-requires : goal.unwrap-requires
unwrap-requires c = c.of.ensures.exactly.1 (different_cards c.args.cards.now _ c.requires.set c.cards_of.ensures)

pub returns : goal.returns
returns c =
    let same = rw c.unwrap.ensures at c.of.ensures.same in
    hand_of_set c.args.cards.now _ c.unwrap.result c.requires.set c.cards_of.ensures same.0 same.1
