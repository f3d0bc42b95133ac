-- The sums over draws are kept, and with them all else.
use Rattle.vp_draws.proofs.TurnedValues.{payments_turned, lines_turned, total_turned, value_turned, total2_turned, value2_turned, best_turned, best_by_classes}
use Rattle.vp_draws.proofs.laws.values_are_kept_by_turns.Goals as goal

pub returns-clause-total : goal.returns-clause-total
returns-clause-total c = total_turned

pub returns-clause-value : goal.returns-clause-value
returns-clause-value c = value_turned

pub returns-clause-total2 : goal.returns-clause-total2
returns-clause-total2 c = total2_turned

pub returns-clause-value2 : goal.returns-clause-value2
returns-clause-value2 c = value2_turned

pub returns-clause-best : goal.returns-clause-best
returns-clause-best c = best_turned

pub returns-clause-sum : goal.returns-clause-sum
returns-clause-sum c = best_by_classes

pub returns-clause-payments : goal.returns-clause-payments
returns-clause-payments c t mask coin table f cards big l d = payments_turned table.deck t mask coin table f cards big l d

pub returns-clause-lines : goal.returns-clause-lines
returns-clause-lines c t mask table f cards big l d = lines_turned table.deck t mask table f cards big l d
