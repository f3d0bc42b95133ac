use Rattle.vp_audit.specs.Compiled.{rule_cell}
use Rattle.vp_audit.proofs.choices.Choices.cell.Goals as goal

pub returns : goal.returns
unfolding rule_cell
returns c = c.extremes.ensures.least
