use Rattle.std.specs.Prelude.{take}
use Rattle.vp_rank.specs.Shapes.{IsShape}
use Rattle.vp_rank.proofs.shape.Shape.of.Given as goal

abbrev pub invariant-loop-card : goal.invariant-loop-card
invariant-loop-card l = IsShape l.fn.wild (take l.card-index l.cards) l.shape
