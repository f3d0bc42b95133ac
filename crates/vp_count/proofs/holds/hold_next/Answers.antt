use Rattle.std.proofs.Common.{arith, refl, ◌+◌, ap, slice_index_or}
use Rattle.vp_count.proofs.HeldMasks.{OneMore, indexed_more, one_mask_more}
use Rattle.vp_count.proofs.Masks.{bit_small}
use Rattle.vp_count.proofs.holds.hold_next.Goals as goal

pub cards_held-size-requires : goal.cards_held-size-requires
cards_held-size-requires c = omega (arith, c.loop-low-test.true, c.requires.bit, bit_small c.args.place c.requires.place)

pub choose-requires-clause-members : goal.choose-requires-clause-members
choose-requires-clause-members c =
    let one : OneMore c.args.hand.now c.loop-low.indexes c.args.place c.args.bit c.loop-low.low c.cards_held-size.result = one_mask_more _ _ _ _ _ _ c.requires.set c.requires.five c.requires.place c.requires.bit c.loop-low-test.true c.cards_held-size.ensures.many c.loop-low.invariant in
    one.few

pub overflow_cast-indexes : goal.overflow_cast-indexes
overflow_cast-indexes c =
    let one : OneMore c.args.hand.now c.loop-low.indexes c.args.place c.args.bit c.loop-low.low c.cards_held-size.result = one_mask_more _ _ _ _ _ _ c.requires.set c.requires.five c.requires.place c.requires.bit c.loop-low-test.true c.cards_held-size.ensures.many c.loop-low.invariant in
    omega (arith, one.fits, c.choose.ensures)

pub overflow_add-indexes : goal.overflow_add-indexes
overflow_add-indexes c =
    let one : OneMore c.args.hand.now c.loop-low.indexes c.args.place c.args.bit c.loop-low.low c.cards_held-size.result = one_mask_more _ _ _ _ _ _ c.requires.set c.requires.five c.requires.place c.requires.bit c.loop-low-test.true c.cards_held-size.ensures.many c.loop-low.invariant in
    omega (arith, one.fits, c.choose.ensures)

pub loop-low-preserved : goal.loop-low-preserved
loop-low-preserved c =
    let one : OneMore c.args.hand.now c.loop-low.indexes c.args.place c.args.bit c.loop-low.low c.cards_held-size.result = one_mask_more _ _ _ _ _ _ c.requires.set c.requires.five c.requires.place c.requires.bit c.loop-low-test.true c.cards_held-size.ensures.many c.loop-low.invariant in
    indexed_more _ _ c.args.place _ _ _ _ (omega (arith, c.loop-low-test.true, c.requires.bit, bit_small c.args.place c.requires.place)) (ap (λ v. slice_index_or c.loop-low.indexes c.loop-low.low 0 + v) c.choose.ensures) one c.loop-low.invariant
