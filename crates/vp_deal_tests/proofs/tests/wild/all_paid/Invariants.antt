use Rattle.vp_deal_tests.proofs.tests.wild.all_paid.Given as goal

abbrev pub ghosts-paid : goal.ghosts-paid
ghosts-paid g a = record { name = a.blank.name; parts = a.blank.parts }
