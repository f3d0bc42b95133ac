use Rattle.vp_meter.proofs.Exact.{meter_tells}
use Rattle.vp_meter.proofs.laws.meters_tell_every_deal.Goals as goal

pub returns : goal.returns
returns c = meter_tells
