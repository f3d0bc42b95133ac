use Rattle.std.proofs.Common.{◌∙◌, arith}
use Rattle.vp_holds.proofs.LineShares.{row_fits, row_total, value_made, value_room}
use Rattle.vp_holds.proofs.values.value_of.Goals as goal

pub total_of-requires-clause-room : goal.total_of-requires-clause-room
total_of-requires-clause-room c =
    row_fits c.args.table.now c.args.coin c.args.hand.now c.args.counts.now c.args.mask c.requires.counts c.requires.mask c.requires.bet.rules c.cards_drawn-drawn.ensures.hand c.requires.cards

pub overflow_mul-result : goal.overflow_mul-result
overflow_mul-result c =
    omega (
      arith,
      value_room c.args.table.now c.args.coin c.args.hand.now c.args.mask c.total_of.result c.scale.result c.cards_drawn-drawn.result c.requires.bet.rules c.cards_drawn-drawn.ensures.hand c.requires.cards
          (c.total_of.ensures ∙ row_total c.args.table.now c.args.coin c.args.hand.now c.args.counts.now c.args.mask c.requires.counts c.requires.mask c.requires.bet.rules) c.scale.ensures.value c.cards_drawn-drawn.ensures.drawn,
    )

pub returns : goal.returns
returns c =
    value_made c.args.table.now c.args.coin c.args.hand.now c.args.mask c.total_of.result c.scale.result c.cards_drawn-drawn.result
    (c.total_of.ensures ∙ row_total c.args.table.now c.args.coin c.args.hand.now c.args.counts.now c.args.mask c.requires.counts c.requires.mask c.requires.bet.rules) c.scale.ensures.value c.cards_drawn-drawn.ensures.drawn
