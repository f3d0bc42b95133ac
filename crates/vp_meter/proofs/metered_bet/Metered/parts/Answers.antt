use Rattle.vp_meter.proofs.MeteredValues.{in_base, in_hits, parts_are}
use Rattle.vp_meter.proofs.metered_bet.Metered.parts.Goals as goal

pub mean-requires-clause-cards : goal.mean-requires-clause-cards
mean-requires-clause-cards c = in_base _ _ _ _ c.args.hand.now c.self.view_is c.self.invariant c.requires.cards

pub mean-requires-2-clause-cards : goal.mean-requires-2-clause-cards
mean-requires-2-clause-cards c = in_hits _ _ _ _ c.args.hand.now c.self.view_is c.self.invariant c.requires.cards

pub returns-clause-base : goal.returns-clause-base
returns-clause-base c = (parts_are _ _ _ _ c.args.hand.now c.args.mask _ _ c.self.view_is c.self.invariant c.mean.ensures.hand c.requires.cards c.mean.ensures.mean c.mean-2.ensures.mean).base

pub returns-clause-slope : goal.returns-clause-slope
returns-clause-slope c = (parts_are _ _ _ _ c.args.hand.now c.args.mask _ _ c.self.view_is c.self.invariant c.mean.ensures.hand c.requires.cards c.mean.ensures.mean c.mean-2.ensures.mean).slope

pub returns-clause-value : goal.returns-clause-value
returns-clause-value c = (parts_are _ _ _ _ c.args.hand.now c.args.mask _ _ c.self.view_is c.self.invariant c.mean.ensures.hand c.requires.cards c.mean.ensures.mean c.mean-2.ensures.mean).line
