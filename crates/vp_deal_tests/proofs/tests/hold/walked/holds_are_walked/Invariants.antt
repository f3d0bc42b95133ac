use Rattle.vp_deal_tests.proofs.tests.hold.walked.holds_are_walked.Given as goal

abbrev pub ghosts-deals_agree : goal.ghosts-deals_agree
ghosts-deals_agree g a = record { name = a.blank.name; parts = a.blank.parts }
