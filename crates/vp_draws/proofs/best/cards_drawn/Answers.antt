use Rattle.std.proofs.Common.{length, ap, arith}
use Rattle.vp_sets.proofs.Holds.{length-held}
use Rattle.vp_draws.proofs.best.cards_drawn.Goals as goal

pub returns-clause-drawn : goal.returns-clause-drawn
returns-clause-drawn c = omega (arith, length-held c.args.mask c.args.hand.now, c.numbers.ensures.hand.five, ap length c.held.ensures.cards, c.len.ensures.value)
