-- The ledger of the counter that nobody reads is the blank's.
use Rattle.vp_replay.proofs.reading.read_log.Given as goal

abbrev pub ghosts-read_counted : goal.ghosts-read_counted
ghosts-read_counted a = record { name = a.blank.name; parts = a.blank.parts }
