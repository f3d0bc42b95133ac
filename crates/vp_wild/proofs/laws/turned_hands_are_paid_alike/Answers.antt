-- A turn exchanges suits and moves cards.
use Rattle.vp_wild.proofs.SuitTurns.{turned_line, pay_kept}
use Rattle.vp_wild.proofs.laws.turned_hands_are_paid_alike.Goals as goal

pub returns-clause-line : goal.returns-clause-line
returns-clause-line c n t table cards l deal = turned_line t table cards l deal.five

pub returns-clause-payment : goal.returns-clause-payment
returns-clause-payment c n coin table = pay_kept n coin table (λ p. p)
