use Rattle.std.proofs.Common.{get_or, arith}
use Rattle.vp_hold.proofs.ScaledSums.{Scaled, scaled, total_is}
use Rattle.vp_hold.proofs.means.HoldMeans.mean.Goals as goal

pub overflow_mul-result : goal.overflow_mul-result
overflow_mul-result c =
    let hold : Scaled c.args.self.now c.args.hand.now c.args.mask c.held_total-total.result (get_or c.self.inside.scales c.args.mask 0) =
    scaled _ _ _ _ _ _ c.self.view_is c.self.invariant c.numbers.ensures.hand c.requires.cards c.requires.mask
    (total_is _ _ _ _ _ _ _ _ c.self.view_is c.numbers.ensures.value c.new-reads.ensures.size c.new-reads.ensures.numbers c.held_total-total.ensures.total) in
    omega (arith, hold.fits)

pub returns-clause-mean : goal.returns-clause-mean
returns-clause-mean c =
    let hold : Scaled c.args.self.now c.args.hand.now c.args.mask c.held_total-total.result (get_or c.self.inside.scales c.args.mask 0) =
    scaled _ _ _ _ _ _ c.self.view_is c.self.invariant c.numbers.ensures.hand c.requires.cards c.requires.mask
    (total_is _ _ _ _ _ _ _ _ c.self.view_is c.numbers.ensures.value c.new-reads.ensures.size c.new-reads.ensures.numbers c.held_total-total.ensures.total) in
    hold.mean
