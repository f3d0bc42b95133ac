use Rattle.std.proofs.Common.{arith, sym}
use Rattle.vp_sets.proofs.Denominators.{searched_start, searched_next, searched_below, searched_found, draws_few}
use Rattle.vp_sets.proofs.denominator.Goals as goal

pub loop-number-init : goal.loop-number-init
loop-number-init c = searched_start c.args.n _ c.requires c.choose-step.ensures

pub returns-clause-value : goal.returns-clause-value
returns-clause-value c = searched_found c.args.n _ _ c.requires c.loop-number.invariant (sym c.loop-number-test.ensures)

pub overflow_add-number : goal.overflow_add-number
overflow_add-number c =
    let low = searched_below c.args.n _ _ c.requires c.loop-number.invariant (sym c.loop-number-test.ensures) in
    omega (arith, low, draws_few c.args.n _ _ c.requires c.loop-number.invariant)

pub loop-number-smaller : goal.loop-number-smaller
loop-number-smaller c =
    let low = searched_below c.args.n _ _ c.requires c.loop-number.invariant (sym c.loop-number-test.ensures) in
    omega (arith, low, c.loop-number.invariant.more)

pub loop-number-preserved : goal.loop-number-preserved
loop-number-preserved c = searched_next c.args.n _ _ c.loop-number.invariant (sym c.loop-number-test.ensures)
