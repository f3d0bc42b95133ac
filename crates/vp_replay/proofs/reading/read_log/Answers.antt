-- What is read is the log, and no other.
use Rattle.vp_replay.proofs.Seeking.{found_read, gives_read, only_read}
use Rattle.vp_replay.proofs.reading.read_log.Goals as goal

pub returns-clause-exact : goal.returns-clause-exact
returns-clause-exact c = gives_read _ _ _ _ c.read_counted.ensures.read

pub returns-clause-grammar : goal.returns-clause-grammar
returns-clause-grammar c = found_read _ c.requires.table.known_deck _ _ _ (gives_read _ _ _ _ c.read_counted.ensures.read)

pub returns-clause-only : goal.returns-clause-only
returns-clause-only c = only_read c.args.kept.now c.requires.table.known_deck _ _ _ (gives_read _ _ _ _ c.read_counted.ensures.read) c.read_counted.ensures.broken
