use Rattle.vp_deal_tests.proofs.tests.wild.agrees_with_all_faces.Given as goal

abbrev pub ghosts-agreement : goal.ghosts-agreement
ghosts-agreement g a = record { name = a.blank.name; parts = a.blank.parts }
