-- The ledger of the counter that nobody reads is the blank's.
use Rattle.vp_report_tests.proofs.tests.multi.pairs.deals_agree.Given as goal

abbrev pub ghosts-moments_agree : goal.ghosts-moments_agree
ghosts-moments_agree a = record { name = a.blank.name; parts = a.blank.parts }
