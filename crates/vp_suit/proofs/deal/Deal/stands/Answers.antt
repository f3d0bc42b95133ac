use Rattle.std.proofs.Common.{lit≤, ◌∙◌}
use Rattle.vp_suit.proofs.Falls.{falls_tell}
use Rattle.vp_suit.proofs.deal.Deal.stands.Goals as goal

pub returns : goal.returns
returns c = c.fall.ensures c.args.self.now.cards c.args.self.now.heaped ∙ falls_tell 54 c.args.self.now.cards (lit≤ tt) c.args.self.now.deal
