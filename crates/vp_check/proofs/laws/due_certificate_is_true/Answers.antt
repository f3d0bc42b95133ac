use Rattle.vp_check.proofs.TrueOnes.{due_is_certificate, due_is_true, due_only}
use Rattle.vp_check.proofs.EveryDeals.{due_tells}
use Rattle.vp_check.proofs.laws.due_certificate_is_true.Goals as goal

pub returns-clause-grammar : goal.returns-clause-grammar
returns-clause-grammar g table coin bet = due_is_certificate table coin bet

pub returns-clause-kept : goal.returns-clause-kept
returns-clause-kept g table coin t = due_is_true table coin t

pub returns-clause-only : goal.returns-clause-only
returns-clause-only g table coin c is e same_table same_coin masks = due_only table coin c is e same_table same_coin masks

pub returns-clause-tells : goal.returns-clause-tells
returns-clause-tells g table coin bet = due_tells table coin bet
