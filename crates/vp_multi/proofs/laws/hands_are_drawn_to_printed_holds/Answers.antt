use Rattle.vp_draws.proofs.Printed.{has_printed_hold}
use Rattle.vp_multi.proofs.Printed.{printed_alike}
use Rattle.vp_multi.proofs.laws.hands_are_drawn_to_printed_holds.Goals as goal

pub returns-clause-some : goal.returns-clause-some
returns-clause-some c = has_printed_hold

pub returns-clause-alike : goal.returns-clause-alike
returns-clause-alike c = printed_alike
