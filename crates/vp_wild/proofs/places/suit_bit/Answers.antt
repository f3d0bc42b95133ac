use Rattle.std.proofs.Common.{◌∙◌, sym}
use Rattle.vp_wild.proofs.SuitBits.{bit_yes, bit_no}
use Rattle.vp_wild.proofs.places.suit_bit.Goals as goal

pub returns-then-is_wild : goal.returns-then-is_wild
returns-then-is_wild c = sym (bit_yes c.args.wild c.args.card (sym c.is_wild.ensures ∙ c.if-is_wild.true))

pub returns-else-is_wild : goal.returns-else-is_wild
returns-else-is_wild c = sym (bit_no c.args.wild c.args.card (sym c.is_wild.ensures ∙ c.if-is_wild.false))
