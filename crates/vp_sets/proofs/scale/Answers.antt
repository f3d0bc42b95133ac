use Rattle.std.proofs.Common.{◌-◌, ◌<◌, arith}
use Rattle.vp_sets.specs.Sets.{choose}
use Rattle.vp_sets.proofs.Binomials.{choose_pos}
use Rattle.vp_sets.proofs.Denominators.{scale_is, scale_exact}
use Rattle.vp_sets.proofs.scale.Goals as goal

pub nonzero_div-result : goal.nonzero_div-result
nonzero_div-result c =
    let p : 0 < choose (c.args.n - 5) c.args.k = choose_pos (c.args.n - 5) c.args.k (omega arith) in
    rw c.choose.ensures p

pub returns-clause-value : goal.returns-clause-value
returns-clause-value c = rw (c.common.ensures.value, c.choose.ensures) (scale_is c.args.n c.args.k)

pub returns-clause-exact : goal.returns-clause-exact
returns-clause-exact c = rw (c.common.ensures.value, c.choose.ensures, scale_is c.args.n c.args.k) (scale_exact c.args.n c.args.k c.requires.deck c.requires.drawn)
