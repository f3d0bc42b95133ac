-- What `hits` takes for its input is what its lines spell.
use Rattle.vp_pay.proofs.Inputs.{tables_read}
use Rattle.vp_pay.specs.Inputs.{has_bet}
use Rattle.vp_hits.specs.HitsJob.{HitsInputsAreRead}

pub inputs_read : HitsInputsAreRead
inputs_read coin = tables_read (has_bet coin)
