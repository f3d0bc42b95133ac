use Rattle.vp_audit.proofs.LeastAllowed.{by_exception, by_nothing, ruled, ruled_greatest}
use Rattle.vp_audit.proofs.laws.lists_are_charged_the_least_value.Goals as goal

pub returns-clause-exceptions : goal.returns-clause-exceptions
returns-clause-exceptions c = by_exception

pub returns-clause-rules : goal.returns-clause-rules
returns-clause-rules c = ruled

pub returns-clause-greatest : goal.returns-clause-greatest
returns-clause-greatest c = ruled_greatest

pub returns-clause-nothing : goal.returns-clause-nothing
returns-clause-nothing c = by_nothing
