use Rattle.vp_gen.proofs.PlayTells.{plays_replayed}
use Rattle.vp_gen.proofs.laws.plays_are_replayed.Goals as goal

pub returns : goal.returns
returns c = plays_replayed
