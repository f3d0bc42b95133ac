-- The ledger of the counter that nobody reads is the blank's.
use Rattle.vp_gen.proofs.logs.make_log.Given as goal

abbrev pub ghosts-log_of : goal.ghosts-log_of
ghosts-log_of a = record { name = a.blank.name; parts = a.blank.parts }
