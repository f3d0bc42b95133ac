-- Some window fits where the mask of windows isn't 0.
use Rattle.vp_rank.specs.Shapes.{count_of}
use Rattle.vp_wild.proofs.ByShape.{no_window}
use Rattle.vp_wild.proofs.patterns.straight.Goals as goal

pub returns : goal.returns
returns c = no_window c.windows.result (count_of c.args.shape.now) c.windows.ensures.below c.windows.ensures.bits
