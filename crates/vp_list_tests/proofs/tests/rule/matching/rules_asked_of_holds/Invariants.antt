-- The ledger of the counter that nobody reads is the blank's.
use Rattle.vp_list_tests.proofs.tests.rule.matching.rules_asked_of_holds.Given as goal

abbrev pub ghosts-asked : goal.ghosts-asked
ghosts-asked g a = record { name = a.blank.name; parts = a.blank.parts }
