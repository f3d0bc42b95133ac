use Rattle.vp_run.proofs.CommandLaws.{crosses}
use Rattle.vp_run.proofs.laws.crosses_price_play.Goals as goal

pub returns : goal.returns
returns c = crosses
