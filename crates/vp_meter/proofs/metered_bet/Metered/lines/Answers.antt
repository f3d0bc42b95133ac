use Rattle.vp_meter.proofs.MeteredValues.{in_base, in_hits, lines_are}
use Rattle.vp_meter.proofs.metered_bet.Metered.lines.Goals as goal

pub means-requires : goal.means-requires
means-requires c = record { cards = in_base _ _ _ _ c.args.hand.now c.self.view_is c.self.invariant c.requires }

pub means-requires-2 : goal.means-requires-2
means-requires-2 c = record { cards = in_hits _ _ _ _ c.args.hand.now c.self.view_is c.self.invariant c.requires }

pub returns : goal.returns
returns c = lines_are _ _ _ _ c.args.hand.now c.self.view_is c.self.invariant c.requires _ c.means.ensures.hand c.means.ensures.means c.means-2.ensures.means
