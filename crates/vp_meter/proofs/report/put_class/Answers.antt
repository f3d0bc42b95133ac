use Rattle.vp_io.proofs.Puts_laws.{Puts_then}
use Rattle.vp_meter.proofs.report.put_class.Goals as goal

pub returns : goal.returns
returns g c = Puts_then _ c.in_ok-put_class_line.was c.put_class_line.ensures c.put_segments.ensures
