-- The ledger of the counter that nobody reads is the blank's.
use Rattle.vp_list_tests.proofs.tests.audit.told_of.Given as goal

abbrev pub ghosts-told : goal.ghosts-told
ghosts-told a = record { name = a.blank.name; parts = a.blank.parts }
