-- Counts don't depend on the order.
use Rattle.vp_wild.proofs.AlikeHands.{alike_order, line_order, pay_order}
use Rattle.vp_wild.proofs.laws.order_plays_no_part.Goals as goal

pub returns-clause-alike : goal.returns-clause-alike
returns-clause-alike c = alike_order

pub returns-clause-line : goal.returns-clause-line
returns-clause-line c = line_order

pub returns-clause-payment : goal.returns-clause-payment
returns-clause-payment c = pay_order
