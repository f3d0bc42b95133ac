use Rattle.vp_loggram.proofs.Log_laws.{spellings_differ}
use Rattle.vp_loggram.proofs.laws.log_spellings_differ.Goals as goal

pub returns : goal.returns
returns c = spellings_differ
