use Rattle.vp_meter.proofs.Straight.{bet_changed, line_of_values, line_same, pay_is}
use Rattle.vp_meter.proofs.laws.values_are_straight_lines.Goals as goal

pub returns-clause-line : goal.returns-clause-line
returns-clause-line c = line_same

pub returns-clause-table : goal.returns-clause-table
returns-clause-table c = bet_changed

pub returns-clause-pay : goal.returns-clause-pay
returns-clause-pay c = pay_is

pub returns-clause-value : goal.returns-clause-value
returns-clause-value c = line_of_values
