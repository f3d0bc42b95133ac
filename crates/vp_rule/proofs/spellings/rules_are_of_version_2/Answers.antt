use Rattle.vp_rule.proofs.Versions.{of_version_2}
use Rattle.vp_rule.proofs.spellings.rules_are_of_version_2.Goals as goal

pub returns : goal.returns
returns c = of_version_2
