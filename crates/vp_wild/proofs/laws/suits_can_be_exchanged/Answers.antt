-- The counts stay, and the cards of one suit keep one.
use Rattle.vp_wild.proofs.TurnedHands.{alike_map}
use Rattle.vp_wild.proofs.laws.suits_can_be_exchanged.Goals as goal

pub returns : goal.returns
returns c = alike_map
