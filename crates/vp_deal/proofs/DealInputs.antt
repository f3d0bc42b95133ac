-- What `deal` takes for its input is what its lines spell.
use Rattle.vp_pay.proofs.Inputs.{hands_read}
use Rattle.vp_pay.specs.Inputs.{has_bet}
use Rattle.vp_deal.specs.Deal.{DealInputsAreRead}

pub inputs_read : DealInputsAreRead
inputs_read coin = hands_read (has_bet coin)
