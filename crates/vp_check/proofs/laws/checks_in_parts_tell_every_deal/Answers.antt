use Rattle.vp_check.proofs.CheckedInParts.{parts_tell, parts_tell_walked}
use Rattle.vp_check.proofs.laws.checks_in_parts_tell_every_deal.Goals as goal

pub returns-clause-range : goal.returns-clause-range
returns-clause-range c = parts_tell_walked

pub returns-clause-all : goal.returns-clause-all
returns-clause-all c = parts_tell
