use Rattle.vp_draws.proofs.Printed.{has_printed_hold}
use Rattle.vp_cross.proofs.Costs.{make_up, printed_value}
use Rattle.vp_cross.proofs.laws.costs_are_of_printed_holds.Goals as goal

pub returns-clause-some : goal.returns-clause-some
returns-clause-some c = has_printed_hold

pub returns-clause-worth : goal.returns-clause-worth
returns-clause-worth c = printed_value

pub returns-clause-cost : goal.returns-clause-cost
returns-clause-cost c = λ played priced coin cards t d. make_up played priced coin cards t.known_deck.0 d
