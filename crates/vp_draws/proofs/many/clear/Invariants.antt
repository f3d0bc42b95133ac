use Rattle.std.proofs.Common.{◌≡◌, ℕ, ◌<◌}
use Rattle.vp_draws.specs.Many.{cell}
use Rattle.vp_draws.proofs.many.clear.Given as goal

abbrev pub invariant-loop-k : goal.invariant-loop-k
invariant-loop-k l = (k mask : ℕ) → k < l.k → cell l.totals k mask ≡ 0
