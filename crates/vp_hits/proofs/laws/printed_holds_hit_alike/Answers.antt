use Rattle.vp_hits.proofs.Printed.{printed_alike}
use Rattle.vp_hits.proofs.laws.printed_holds_hit_alike.Goals as goal

pub returns : goal.returns
returns c = printed_alike
