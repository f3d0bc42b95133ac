-- The ledger of the counter that nobody reads is the blank's.
use Rattle.vp_list_tests.proofs.tests.rule.defined.holds_beside_the_table_of_tests.Given as goal

abbrev pub ghosts-differing : goal.ghosts-differing
ghosts-differing g a = record { name = a.blank.name; parts = a.blank.parts }
