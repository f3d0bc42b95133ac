use Rattle.vp_loggram.proofs.Log_laws.{written_again}
use Rattle.vp_loggram.proofs.laws.written_logs_are_read.Goals as goal

pub returns : goal.returns
returns c = written_again
