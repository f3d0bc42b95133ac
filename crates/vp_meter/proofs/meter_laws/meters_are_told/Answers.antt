use Rattle.vp_meter.proofs.MeterTells.{meters_told}
use Rattle.vp_meter.proofs.meter_laws.meters_are_told.Goals as goal

pub returns : goal.returns
returns c = meters_told
