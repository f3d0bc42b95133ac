use Rattle.std.proofs.Common.{◌-◌, ◌<◌, ◌≤◌, length, sym, subst, arith, set}
use Rattle.vp_sets.specs.Sets.{choose}
use Rattle.vp_sets.proofs.Walk.{Filling, filling_start, filling_top, filling_skip, filling_take, filling_done}
use Rattle.vp_sets.proofs.index.set_at.Goals as goal

pub loop-left-init : goal.loop-left-init
loop-left-init c =
    let start : Filling c.args.n c.args.k c.args.i c.args.out.now c.args.n (length c.args.out.now) c.args.i = filling_start c.args.n c.args.k c.args.i c.args.out.now (length c.args.out.now) c.requires.room c.requires.room c.requires.index in
    subst (λ r. Filling c.args.n c.args.k c.args.i c.args.out.now c.args.n (length c.args.out.now) r) (sym c.from-rest.ensures) start

pub overflow_sub-top : goal.overflow_sub-top
overflow_sub-top c = omega (arith, filling_top c.args.n c.args.k c.args.i c.loop-left.out c.loop-left.top c.loop-left.left c.loop-left.rest c.loop-left.invariant (omega arith))

pub loop-left-preserved-then-below-rest : goal.loop-left-preserved-then-below-rest
loop-left-preserved-then-below-rest c =
    let pos : 0 < c.loop-left.top = filling_top c.args.n c.args.k c.args.i c.loop-left.out c.loop-left.top c.loop-left.left c.loop-left.rest c.loop-left.invariant (omega arith) in
    let few : choose (c.loop-left.top - 1) c.loop-left.left ≤ c.loop-left.rest = omega (arith, c.choose-below.ensures) in
    subst (λ r. Filling c.args.n c.args.k c.args.i (set c.loop-left.out (c.loop-left.left - 1) (c.loop-left.top - 1)) (c.loop-left.top - 1) (c.loop-left.left - 1) (c.loop-left.rest - r)) (sym c.choose-below.ensures)
    (filling_take c.args.n c.args.k c.args.i c.loop-left.out c.loop-left.top (c.loop-left.top - 1) c.loop-left.left (c.loop-left.left - 1) c.loop-left.rest (omega arith) (omega arith) c.loop-left.invariant few)

pub loop-left-smaller : goal.loop-left-smaller
loop-left-smaller c = omega (arith, filling_top c.args.n c.args.k c.args.i c.loop-left.out c.loop-left.top c.loop-left.left c.loop-left.rest c.loop-left.invariant (omega arith))

pub loop-left-preserved : goal.loop-left-preserved
loop-left-preserved c =
    let pos : 0 < c.loop-left.top = filling_top c.args.n c.args.k c.args.i c.loop-left.out c.loop-left.top c.loop-left.left c.loop-left.rest c.loop-left.invariant (omega arith) in
    let many : c.loop-left.rest < choose (c.loop-left.top - 1) c.loop-left.left = omega (arith, c.choose-below.ensures) in
    filling_skip c.args.n c.args.k c.args.i c.loop-left.out c.loop-left.top (c.loop-left.top - 1) c.loop-left.left c.loop-left.rest (omega arith) c.loop-left.invariant many

pub returns : goal.returns
returns c = filling_done c.args.n c.args.k c.args.i c.loop-left.out c.loop-left.top c.loop-left.left c.loop-left.rest (omega arith) c.loop-left.invariant
