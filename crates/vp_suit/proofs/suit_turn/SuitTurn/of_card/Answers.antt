use Rattle.std.proofs.Common.{◌+◌, ◌*◌, ◌/◌, ap, sym, ◌∙◌}
use Rattle.vp_suit.proofs.Cards.{turned-natural, turned-joker}
use Rattle.vp_suit.proofs.suit_turn.SuitTurn.of_card.Goals as goal

pub returns-then-card-lt52-clause-value : goal.returns-then-card-lt52-clause-value
returns-then-card-lt52-clause-value c = ap (λ s. 4 * (c.args.card / 4) + s) c.of_suit.ensures.value ∙ sym (turned-natural c.args.self c.args.card c.if-card-lt52.true)

pub returns-else-card-lt52-clause-value : goal.returns-else-card-lt52-clause-value
returns-else-card-lt52-clause-value c = sym (turned-joker c.args.self c.args.card c.if-card-lt52.false)
