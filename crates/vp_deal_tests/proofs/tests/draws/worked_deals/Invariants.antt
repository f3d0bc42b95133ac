use Rattle.vp_deal_tests.proofs.tests.draws.worked_deals.Given as goal

abbrev pub ghosts-worth : goal.ghosts-worth
ghosts-worth g a = record { name = a.blank.name; parts = a.blank.parts }
