use Rattle.vp_deal_tests.proofs.tests.draws.totals_of_two_deals.Given as goal

abbrev pub ghosts-totals_that_agree : goal.ghosts-totals_that_agree
ghosts-totals_that_agree g a = record { name = a.blank.name; parts = a.blank.parts }
