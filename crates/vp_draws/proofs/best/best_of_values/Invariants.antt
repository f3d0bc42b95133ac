use Rattle.std.proofs.Common.{get_or}
use Rattle.vp_draws.proofs.Choice.{IsBestBelow}
use Rattle.vp_draws.proofs.best.best_of_values.Given as goal

abbrev pub invariant-loop-mask : goal.invariant-loop-mask
invariant-loop-mask l = IsBestBelow (λ mask. get_or l.values mask 0) l.mask l.best
