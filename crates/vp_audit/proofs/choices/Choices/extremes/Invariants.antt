use Rattle.std.proofs.Common.{take}
use Rattle.vp_draws.specs.Draws.{value}
use Rattle.vp_audit.proofs.Extremes.{ExtremesOf}
use Rattle.vp_audit.proofs.choices.Choices.extremes.Given as goal

abbrev pub invariant-loop-mask : goal.invariant-loop-mask
invariant-loop-mask l = ExtremesOf l.self.table l.rule l.self.hand (value l.self.table l.self.coin l.self.hand) (take l.mask-index l.mask-items) l.extremes
