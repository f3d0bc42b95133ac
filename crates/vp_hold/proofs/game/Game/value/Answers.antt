use Rattle.std.proofs.Common.{◌∙◌}
use Rattle.vp_hold.proofs.Values.{in_game, value_told}
use Rattle.vp_hold.proofs.game.Game.value.Goals as goal

pub mean-requires-clause-cards : goal.mean-requires-clause-cards
mean-requires-clause-cards c = in_game _ _ _ _ _ c.self.view_is c.self.invariant c.requires.cards

pub returns : goal.returns
returns c = c.mean.ensures.mean ∙ value_told _ _ _ _ _ _ c.self.view_is c.self.invariant c.mean.ensures.hand c.requires.cards
