use Rattle.std.proofs.Common.{◌≡◌, ◌<◌, ℕ, arith, length}
use Rattle.vp_draws.proofs.LineDraws.{nought_at}
use Rattle.vp_draws.proofs.Masks.{cleared}
use Rattle.vp_draws.proofs.many.clear.Goals as goal

pub loop-k-preserved : goal.loop-k-preserved
loop-k-preserved c = cleared c.loop-k.totals _ c.loop-k.k (omega (arith, c.loop-k.auto.totals)) (nought_at 32) c.loop-k.invariant
