use Rattle.vp_report_tests.proofs.tests.replay.logs.find_all.Given as goal

abbrev pub ghosts-found : goal.ghosts-found
ghosts-found g a = record { name = a.blank.name; parts = a.blank.parts }
