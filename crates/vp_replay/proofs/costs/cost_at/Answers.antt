-- The hand is the deal in rising order, and what is reckoned over it is the cost.
use Rattle.std.proofs.Common.{refl, sym, ap, ◌∙◌, length}
use Rattle.vp_replay.proofs.Costing.{cost_of_means, hand_is, reckoned}
use Rattle.vp_replay.proofs.costs.cost_at.Goals as goal

pub returns-clause-cost : goal.returns-clause-cost
returns-clause-cost c =
    let hand = hand_is c.args.event.now.deal c.of.result c.unwrap-hand.result c.requires.lawful.cards.deal c.of.ensures.value c.of.ensures.same c.unwrap-hand.ensures in
    cost_of_means c.args.game.now.table c.args.event.now _ c.table-table.ensures.rules c.requires.deck (sym (ap length hand.0) ∙ hand.1) c.requires.lawful.cards
    (reckoned _ c.args.game.now.table c.args.event.now _ _ _ _ _ _ refl (sym c.requires.bet) hand.0 c.deref.ensures.0 c.mask_of-mask.ensures.value c.best-best.ensures.best c.value_beside.ensures)
