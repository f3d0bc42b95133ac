use Rattle.vp_run.proofs.CommandLaws.{plays}
use Rattle.vp_run.proofs.laws.plays_are_replayed.Goals as goal

pub returns : goal.returns
returns c = plays
