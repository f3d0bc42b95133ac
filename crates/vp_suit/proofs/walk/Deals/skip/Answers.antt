use Rattle.std.proofs.Common.{arith, sym, ◌∙◌}
use Rattle.vp_suit.proofs.Runs.{left_skipped, left_fewer}
use Rattle.vp_suit.proofs.walk.Deals.skip.Goals as goal

pub returns-then-none_stands-clause-kept : goal.returns-then-none_stands-clause-kept
returns-then-none_stands-clause-kept c = left_skipped c.self.inside.n c.self.inside.cards c.self.inside.left c.args.self.now c.self.invariant.1 (sym c.self.view_is) (c.none_stands.ensures c.if-none_stands.true)

pub returns-then-none_stands-clause-no_more : goal.returns-then-none_stands-clause-no_more
returns-then-none_stands-clause-no_more c = left_fewer c.self.inside.n c.self.inside.cards c.self.inside.left c.args.self.now c.self.invariant.1 (sym c.self.view_is)
