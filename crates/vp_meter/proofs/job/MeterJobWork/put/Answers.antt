use Rattle.vp_io.proofs.Puts_laws.{Puts_as}
use Rattle.vp_meter.proofs.MeterTells.{text_is}
use Rattle.vp_meter.proofs.job.MeterJobWork.put.Goals as goal

pub returns : goal.returns
returns g c = Puts_as (text_is _ _ _ _ _ _ _ c.self.view_is c.of-metered.ensures.table c.of-metered.ensures.coin c.of-metered.ensures.line) c.meter.ensures
