use Rattle.vp_wild.proofs.SuitBits.{suits_row}
use Rattle.vp_wild.proofs.places.suits.Goals as goal

pub returns : goal.returns
returns c = suits_row c.args.bits.now c.args.cards.now c.requires.five
