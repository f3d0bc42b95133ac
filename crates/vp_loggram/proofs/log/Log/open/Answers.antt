use Rattle.vp_loggram.proofs.Logs_grammar.{opened_only}
use Rattle.vp_loggram.proofs.log.Log.open.Goals as goal

pub returns-clause-only : goal.returns-clause-only
returns-clause-only c = opened_only _ _ _ _ c.log_opened.ensures.read
