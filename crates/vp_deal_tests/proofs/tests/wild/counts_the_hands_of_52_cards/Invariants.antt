use Rattle.vp_deal_tests.proofs.tests.wild.counts_the_hands_of_52_cards.Given as goal

abbrev pub ghosts-tally : goal.ghosts-tally
ghosts-tally g a = record { name = a.blank.name; parts = a.blank.parts }
