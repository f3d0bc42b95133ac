use Rattle.std.proofs.Common.{rules, get_or, arith}
use Rattle.vp_hold.proofs.ScaledSums.{Scaled, scaled, total_is}
use Rattle.vp_hold.proofs.Values.{values_more, values_are}
use Rattle.vp_hold.proofs.means.HoldMeans.means.Goals as goal

pub loop-mask-init : goal.loop-mask-init
loop-mask-init c = record {
  long = search rules;
  done = λ k l. absurd (omega arith);
  rest = λ k low high.
      total_is _ _ _ _ _ _ _ _ c.self.view_is c.numbers.ensures.value c.new-reads.ensures.size c.new-reads.ensures.numbers (c.all_totals-means.ensures.totals k high);
}

pub overflow_mul-means : goal.overflow_mul-means
overflow_mul-means c =
    let hold : Scaled c.args.self.now c.args.hand.now c.loop-mask.mask (get_or c.loop-mask.means c.loop-mask.mask 0) (get_or c.self.inside.scales c.loop-mask.mask 0) =
    scaled _ _ _ _ _ _ c.self.view_is c.self.invariant c.numbers.ensures.hand c.requires.cards c.loop-mask-test.true
    (c.loop-mask.invariant.rest c.loop-mask.mask (omega arith) c.loop-mask-test.true) in
    omega (arith, hold.fits)

pub loop-mask-preserved : goal.loop-mask-preserved
loop-mask-preserved c =
    let hold : Scaled c.args.self.now c.args.hand.now c.loop-mask.mask (get_or c.loop-mask.means c.loop-mask.mask 0) (get_or c.self.inside.scales c.loop-mask.mask 0) =
    scaled _ _ _ _ _ _ c.self.view_is c.self.invariant c.numbers.ensures.hand c.requires.cards c.loop-mask-test.true
    (c.loop-mask.invariant.rest c.loop-mask.mask (omega arith) c.loop-mask-test.true) in
    values_more _ _ _ _ _ c.loop-mask-test.true hold.mean c.loop-mask.invariant

pub returns-clause-means : goal.returns-clause-means
returns-clause-means c = values_are _ _ _ _ (omega arith) c.loop-mask.invariant
