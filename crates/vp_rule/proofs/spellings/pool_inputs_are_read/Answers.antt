use Rattle.vp_rule.proofs.Inputs.{pools_read}
use Rattle.vp_rule.proofs.spellings.pool_inputs_are_read.Goals as goal

pub returns-clause-says : goal.returns-clause-says
returns-clause-says c fits = (pools_read fits).spelled

pub returns-clause-refused : goal.returns-clause-refused
returns-clause-refused c fits = (pools_read fits).refused
