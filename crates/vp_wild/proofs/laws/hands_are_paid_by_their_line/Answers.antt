-- The payment stands in the line that is hit.
use Rattle.vp_wild.proofs.ByShape.{pay_at, pay_none}
use Rattle.vp_wild.proofs.laws.hands_are_paid_by_their_line.Goals as goal

pub returns-clause-paid : goal.returns-clause-paid
returns-clause-paid c table coin hand place other is = pay_at table coin hand place other is

pub returns-clause-unpaid : goal.returns-clause-unpaid
returns-clause-unpaid c table coin hand is = pay_none table coin hand is
