use Rattle.vp_text.proofs.Room.{digits_of_64}
use Rattle.vp_text.proofs.laws.numbers_are_short.Goals as goal

pub returns : goal.returns
returns c = λ n below. digits_of_64 n below
