use Rattle.std.proofs.Common.{◌∙◌, length-set}
use Rattle.vp_hold.proofs.ByMask.{ones_few, scaled_more}
use Rattle.vp_hold.proofs.scales.hold_scales.Goals as goal

pub overflow_sub-mask : goal.overflow_sub-mask
overflow_sub-mask c = ones_few c.loop-mask.mask c.loop-mask-test.true

pub loop-mask-preserved : goal.loop-mask-preserved
loop-mask-preserved c = record {
  long = length-set c.loop-mask.scales c.loop-mask.mask c.scale.result ∙ c.loop-mask.invariant.long;
  scaled = scaled_more c.args.n c.loop-mask.mask c.scale.result c.loop-mask.scales c.loop-mask-test.true c.loop-mask.invariant.long c.scale.ensures.value c.loop-mask.invariant.scaled;
}
