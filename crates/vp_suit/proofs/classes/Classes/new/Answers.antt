use Rattle.vp_suit.proofs.Walks.{left_new}
use Rattle.vp_suit.proofs.classes.Classes.new.Goals as goal

pub returns : goal.returns
returns c = left_new c.args.n c.new.result c.new.ensures
