-- What `multi` takes for its input is what its lines spell.
use Rattle.vp_pay.proofs.Inputs.{tables_read}
use Rattle.vp_pay.specs.Inputs.{has_bet}
use Rattle.vp_multi.specs.Multi.{MultiInputsAreRead}

pub inputs_read : MultiInputsAreRead
inputs_read coin = tables_read (has_bet coin)
