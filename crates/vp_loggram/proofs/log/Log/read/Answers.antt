use Rattle.vp_text.proofs.Answered.{found, only, refused}
use Rattle.vp_text.proofs.Standing.{stands_refused}
use Rattle.vp_loggram.proofs.Logs_grammar.{Exact-log, gives_log}
use Rattle.vp_loggram.proofs.log.Log.read.Goals as goal

pub returns-clause-found : goal.returns-clause-found
returns-clause-found c = found (Exact-log _ c.requires) _ _ _ (gives_log _ _ _ _ c.log_read.ensures.read)

pub returns-clause-only : goal.returns-clause-only
returns-clause-only c = only (Exact-log _ c.requires) _ _ _ (gives_log _ _ _ _ c.log_read.ensures.read)

pub returns-clause-refused : goal.returns-clause-refused
returns-clause-refused c = refused (Exact-log _ c.requires) _ _ _ (gives_log _ _ _ _ c.log_read.ensures.read)

pub returns-clause-stands : goal.returns-clause-stands
returns-clause-stands c = stands_refused _ _ _ c.log_read.ensures.leaves c.log_read.ensures.at

pub returns-clause-exact : goal.returns-clause-exact
returns-clause-exact c = gives_log _ _ _ _ c.log_read.ensures.read
