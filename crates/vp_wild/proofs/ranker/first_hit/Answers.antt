-- The shape of a hand tells which pay lines it hits.
use Rattle.std.proofs.Common.{◌∙◌}
use Rattle.vp_wild.proofs.ByShape.{shape_line}
use Rattle.vp_wild.proofs.ranker.first_hit.Goals as goal

pub returns-clause-first : goal.returns-clause-first
returns-clause-first c =
    c.first_by_shape.ensures.first
    ∙ shape_line c.args.table.now.wild c.args.table.now.lines.items c.args.hand.now c.shape_of.result
    c.shape_of.ensures.five.five c.shape_of.ensures.shape
