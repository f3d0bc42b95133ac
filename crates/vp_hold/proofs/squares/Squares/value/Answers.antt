use Rattle.std.proofs.Common.{◌∙◌}
use Rattle.vp_hold.proofs.SquaredPayments.{in_squares, value2_told}
use Rattle.vp_hold.proofs.squares.Squares.value.Goals as goal

pub mean-requires-clause-cards : goal.mean-requires-clause-cards
mean-requires-clause-cards c = in_squares _ _ _ _ _ c.self.view_is c.self.invariant c.requires.cards

pub returns : goal.returns
returns c = c.mean.ensures.mean ∙ value2_told _ _ _ _ _ _ c.self.view_is c.self.invariant c.mean.ensures.hand c.requires.cards
