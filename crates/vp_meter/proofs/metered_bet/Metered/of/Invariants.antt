-- The ledger of the counter that nobody reads is the blank's.
use Rattle.vp_meter.proofs.metered_bet.Metered.of.Given as goal

abbrev pub ghosts-metered_of : goal.ghosts-metered_of
ghosts-metered_of a = record { name = a.blank.name; parts = a.blank.parts }
