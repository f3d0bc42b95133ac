use Rattle.vp_run.proofs.CommandLaws.{parts, parts_walked}
use Rattle.vp_run.proofs.laws.checks_in_parts_tell_every_deal.Goals as goal

pub returns-clause-range : goal.returns-clause-range
returns-clause-range c = parts_walked

pub returns-clause-all : goal.returns-clause-all
returns-clause-all c = parts
