use Rattle.std.proofs.Common.{◌∙◌}
use Rattle.vp_hits.proofs.Chances.{in_hits, told_chance}
use Rattle.vp_hits.proofs.line_hits.Hits.weight.Goals as goal

pub mean-requires-clause-cards : goal.mean-requires-clause-cards
mean-requires-clause-cards c = in_hits _ _ _ _ c.self.view_is c.self.invariant c.requires.cards

pub returns : goal.returns
returns c = c.mean.ensures.mean ∙ told_chance _ _ _ _ _ c.self.view_is c.self.invariant c.mean.ensures.hand c.requires.cards
