use Rattle.std.proofs.Common.{◌≡◌}
use Rattle.std.specs.List.{range_with_len}
use Rattle.vp_draws.specs.Draws.{greatest, value}
use Rattle.vp_audit.proofs.choices.Choices.best.Given as goal

abbrev pub invariant-loop-mask : goal.invariant-loop-mask
invariant-loop-mask l = l.best ≡ greatest (value l.self.table l.self.coin l.self.hand) (range_with_len 0 l.mask)
