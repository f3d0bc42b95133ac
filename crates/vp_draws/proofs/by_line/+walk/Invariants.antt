use Rattle.std.proofs.Common.{◌-◌}
use Rattle.vp_draws.proofs.by_line.+walk.Given as goal

abbrev pub decreases-walk : goal.decreases-walk
decreases-walk g l = l.n - l.low
