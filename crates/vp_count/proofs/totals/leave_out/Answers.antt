use Rattle.std.proofs.Common.{◌≡◌, ◌+◌, ◌*◌, ◌/◌, ◌%◌, ◌<◌, ◌≤◌, ◌∙◌, arith, length-set}
use Rattle.vp_count.proofs.Masks.{left_discard, left_skip, run_next, run_room, run_with, run_without}
use Rattle.vp_count.proofs.totals.leave_out.Goals as goal

pub loop-mask-preserved : goal.loop-mask-preserved
loop-mask-preserved c =
    let room : c.loop-base.base + 2 * c.args.bit ≤ 32 = run_room c.args.bit c.loop-base.base c.requires.one c.loop-base.invariant.whole c.loop-base-test.true in
    let inside : c.loop-mask.mask < 32 = omega (arith, c.loop-mask-test.true) in
    let free : c.loop-mask.mask / c.args.bit % 2 ≡ 0 = run_without c.args.bit c.loop-base.base c.loop-mask.mask c.requires.one c.loop-base.invariant.whole c.loop-mask.auto.mask c.loop-mask-test.true in
    record {
      long = length-set c.loop-mask.totals c.loop-mask.mask _ ∙ c.loop-mask.invariant.long;
      left = left_discard c.args.totals.now c.loop-mask.totals c.args.bit c.loop-mask.mask c.loop-mask.invariant.long c.requires.bit inside free (c.requires.within c.loop-mask.mask inside free) (c.requires.part c.loop-mask.mask inside free) c.loop-mask.invariant.left;
    }

pub loop-base-preserved : goal.loop-base-preserved
loop-base-preserved c =
    let room : c.loop-base.base + 2 * c.args.bit ≤ 32 = run_room c.args.bit c.loop-base.base c.requires.one c.loop-base.invariant.whole c.loop-base-test.true in
    record {
      whole = run_next c.args.bit c.loop-base.base c.requires.one c.loop-base.invariant.whole;
      within = room;
      long = c.loop-mask.invariant.long;
      left = left_skip c.args.totals.now c.loop-mask.totals c.args.bit c.loop-mask.mask (c.loop-base.base + 2 * c.args.bit) (omega (arith, c.loop-mask.auto.mask-end)) (λ k l m. run_with c.args.bit c.loop-base.base k c.requires.one c.loop-base.invariant.whole (omega (arith, c.loop-mask-test.false)) m) c.loop-mask.invariant.left;
    }
