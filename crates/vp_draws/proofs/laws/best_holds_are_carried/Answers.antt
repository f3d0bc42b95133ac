-- Values and best values are kept, and masks are carried back.
use Rattle.vp_draws.proofs.Printed.{has_printed_hold}
use Rattle.vp_draws.proofs.TurnedValues.{best_by_representative, carried_from}
use Rattle.vp_draws.proofs.laws.best_holds_are_carried.Goals as goal

pub returns-clause-best : goal.returns-clause-best
returns-clause-best c = best_by_representative

pub returns-clause-from : goal.returns-clause-from
returns-clause-from c = carried_from

pub returns-clause-printed : goal.returns-clause-printed
returns-clause-printed c = has_printed_hold
