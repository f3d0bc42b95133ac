-- All are laws of the definitions.
use Rattle.vp_check.proofs.CheckInputs.{check_either, check_refusals, judged}
use Rattle.vp_check.proofs.laws.check_inputs_are_read.Goals as goal

pub returns-clause-judged : goal.returns-clause-judged
returns-clause-judged c = judged

pub returns-clause-refused : goal.returns-clause-refused
returns-clause-refused c = check_refusals

pub returns-clause-either : goal.returns-clause-either
returns-clause-either c = check_either
