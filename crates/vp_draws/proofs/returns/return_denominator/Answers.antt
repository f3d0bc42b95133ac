use Rattle.std.proofs.Common.{◌≡◌, ◌*◌, arith, lit<, refl}
use Rattle.vp_sets.specs.Draws.{common}
use Rattle.vp_sets.specs.Sets.{choose}
use Rattle.vp_draws.proofs.Bounds.{denominator_fits}
use Rattle.vp_draws.proofs.returns.return_denominator.Goals as goal

-- the product for one coin fits too
pub overflow_mul-result : goal.overflow_mul-result
overflow_mul-result c =
    let product : c.choose.result * c.common.result ≡ choose c.args.n 5 * common c.args.n = rw (c.choose.ensures, c.common.ensures.value) refl in
    omega (arith, denominator_fits c.args.n 1 c.requires (lit< tt))
