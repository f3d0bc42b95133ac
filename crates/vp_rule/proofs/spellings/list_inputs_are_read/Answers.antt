use Rattle.vp_rule.proofs.Inputs.{lists_read}
use Rattle.vp_rule.proofs.spellings.list_inputs_are_read.Goals as goal

pub returns-clause-says : goal.returns-clause-says
returns-clause-says c fits = (lists_read fits).spelled

pub returns-clause-refused : goal.returns-clause-refused
returns-clause-refused c fits = (lists_read fits).refused
