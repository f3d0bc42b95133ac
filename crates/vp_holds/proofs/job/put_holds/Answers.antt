-- The deal line is put, and then the lines of the holds.
use Rattle.vp_io.proofs.Puts_laws.{Puts_then}
use Rattle.vp_holds.proofs.job.put_holds.Goals as goal

pub returns : goal.returns
returns g c = Puts_then _ c.in_ok-put_words.was c.put_words.ensures c.put_rows.ensures
