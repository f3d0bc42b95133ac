use Rattle.vp_io.proofs.Puts_laws.{Puts_then, Puts_stopped}
use Rattle.vp_meter.specs.Spelling.{meter_text}
use Rattle.vp_meter.proofs.report.meter.Goals as goal

pub returns : goal.returns
unfolding meter_text
returns g c = Puts_then _ c.in_ok-put_head.was c.put_head.ensures c.put_body.ensures

pub returns-in_err-put_head : goal.returns-in_err-put_head
unfolding meter_text
returns-in_err-put_head g c = Puts_stopped _ c.in_err-put_head.was c.from_residual.ensures.0 c.put_head.ensures
