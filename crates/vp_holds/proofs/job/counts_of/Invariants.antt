-- The ledger of the counter that nobody reads is the blank's.
use Rattle.vp_holds.proofs.job.counts_of.Given as goal

abbrev pub ghosts-counted : goal.ghosts-counted
ghosts-counted a = record { name = a.blank.name; parts = a.blank.parts }
