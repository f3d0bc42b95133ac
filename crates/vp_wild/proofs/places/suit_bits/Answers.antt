use Rattle.std.proofs.Common.{◌∙◌, arith, length-set}
use Rattle.vp_wild.proofs.SuitBits.{bits_more}
use Rattle.vp_wild.proofs.places.suit_bits.Goals as goal

pub loop-card-preserved : goal.loop-card-preserved
loop-card-preserved c = (
  length-set c.loop-card.bits c.loop-card.card c.suit_bit.result ∙ c.loop-card.invariant.0,
  bits_more c.args.wild c.loop-card.bits c.loop-card.card c.suit_bit.result (omega (arith, c.loop-card.invariant.0)) c.loop-card.invariant.1 c.suit_bit.ensures,
)
