use Rattle.std.proofs.Common.{◌<◌, ◌*◌, ◌^◌, arith}
use Rattle.vp_sets.proofs.Holds.{dealt_from}
use Rattle.vp_draws.proofs.Values.{value_fits, value_is}
use Rattle.vp_draws.proofs.best.hold_value.Goals as goal

pub overflow_mul-result : goal.overflow_mul-result
overflow_mul-result g c =
    let small : c.total_of-total.result * c.scale.result < 2 ^ 64 =
    rw (c.total_of-total.ensures.value, c.scale.ensures.value, c.cards_drawn.ensures.drawn, c.requires.deck)
    (value_fits c.args.payments.now.table c.args.payments.now.coin c.args.hand.now c.args.mask c.requires.table (dealt_from c.args.payments.now.table.deck c.args.hand.now c.cards_drawn.ensures.hand (rw c.requires.deck at c.requires.cards))) in
    omega arith

pub returns-clause-value : goal.returns-clause-value
returns-clause-value g c =
    rw (c.total_of-total.ensures.value, c.scale.ensures.value, c.cards_drawn.ensures.drawn, c.requires.deck) (value_is c.args.payments.now.table c.args.payments.now.coin c.args.hand.now c.args.mask)
