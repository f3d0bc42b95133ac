use Rattle.vp_deal_tests.proofs.tests.draws.totals_and_denominators.Given as goal

abbrev pub ghosts-sum_of : goal.ghosts-sum_of
ghosts-sum_of g a = record { name = a.blank.name; parts = a.blank.parts }
