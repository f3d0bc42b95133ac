use Rattle.vp_multi.proofs.DeckSums.{variance_has_two_parts}
use Rattle.vp_multi.proofs.laws.variance_has_two_parts.Goals as goal

pub returns : goal.returns
returns c = variance_has_two_parts
