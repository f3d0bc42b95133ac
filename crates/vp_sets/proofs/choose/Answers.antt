use Rattle.std.proofs.Common.{◌∙◌}
use Rattle.vp_sets.proofs.Pascal.{ways_are}
use Rattle.vp_sets.proofs.choose.Goals as goal

pub returns : goal.returns
returns c = c.from.ensures ∙ ways_are c.args.n c.args.k c.requires.things c.requires.members
