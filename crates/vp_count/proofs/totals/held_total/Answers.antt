use Rattle.std.proofs.Common.{◌∙◌, arith}
use Rattle.vp_count.proofs.Exclusion.{part_spread}
use Rattle.vp_count.proofs.totals.held_total.Goals as goal

pub returns-clause-total : goal.returns-clause-total
returns-clause-total g c =
    c.held_part.ensures.total ∙ part_spread (g.T.Sums.size c.args.sums.now) (g.T.Sums.numbers c.args.sums.now) c.args.hand.now c.args.mask c.requires.hand (omega arith)
