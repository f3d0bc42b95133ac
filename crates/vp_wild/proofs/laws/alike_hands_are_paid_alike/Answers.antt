-- Each line is told by counts.
use Rattle.vp_wild.proofs.AlikeHands.{alike_line, alike_pay}
use Rattle.vp_wild.proofs.laws.alike_hands_are_paid_alike.Goals as goal

pub returns-clause-line : goal.returns-clause-line
returns-clause-line c = alike_line

pub returns-clause-payment : goal.returns-clause-payment
returns-clause-payment c = alike_pay
