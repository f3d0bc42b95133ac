use Rattle.vp_suit.proofs.Walks.{first_deal}
use Rattle.vp_suit.proofs.walk.Deals.new.Goals as goal

pub returns : goal.returns
returns c = first_deal c.args.n
