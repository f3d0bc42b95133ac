use Rattle.vp_suit.proofs.Hands.{different_turned, turned_hand}
use Rattle.vp_suit.proofs.turned.turn.Goals as goal

pub unwrap-requires : goal.unwrap-requires
unwrap-requires c = c.of.ensures.exactly.1 (different_turned c.args.t c.args.hand.now c.cards.result c.cards.ensures.turn c.cards.ensures.hand c.cards.ensures.value)

pub returns-clause-value : goal.returns-clause-value
returns-clause-value c =
    let same = rw c.unwrap.ensures at c.of.ensures.same in
    turned_hand c.args.t c.args.hand.now c.cards.result c.unwrap.result c.cards.ensures.value same.0 same.1
