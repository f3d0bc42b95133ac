use Rattle.std.proofs.Common.{rules}
use Rattle.vp_suit.proofs.Runs.{raised_lowest, more_deals}
use Rattle.vp_suit.proofs.walk.go_on.Goals as goal

pub returns-then-cards-clause-more : goal.returns-then-cards-clause-more
returns-then-cards-clause-more c = (λ told. more_deals c.args.n c.args.cards.now c.requires.deal c.if-cards.true, λ l. search rules)

pub returns-then-cards-clause-next : goal.returns-then-cards-clause-next
returns-then-cards-clause-next c told = raised_lowest c.args.n c.args.cards.now c.requires.deal c.if-cards.true
