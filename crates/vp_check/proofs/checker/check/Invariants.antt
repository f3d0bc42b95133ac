-- The ledger of the counter that nobody reads is the blank's.
use Rattle.vp_check.proofs.checker.check.Given as goal

abbrev pub ghosts-check_from : goal.ghosts-check_from
ghosts-check_from a = record { name = a.blank.name; parts = a.blank.parts }
