use Rattle.std.proofs.Common.{refl}
use Rattle.vp_rule.proofs.AskedMasks.{all_below}
use Rattle.vp_rule.proofs.matching.asked_masks.Goals as goal

pub returns-in_default-clause-below : goal.returns-in_default-clause-below
returns-in_default-clause-below c = all_below _ refl
