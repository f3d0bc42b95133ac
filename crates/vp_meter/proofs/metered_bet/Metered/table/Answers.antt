use Rattle.std.proofs.Common.{subst}
use Rattle.vp_meter.specs.Metered.{IsMetering, Metering}
use Rattle.vp_meter.proofs.metered_bet.Metered.table.Goals as goal

pub returns-clause-metering : goal.returns-clause-metering
returns-clause-metering c = subst (λ (m : Metering). IsMetering m) c.self.view_is c.self.invariant.metering
