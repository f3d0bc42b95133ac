use Rattle.vp_hold.proofs.Values.{value_at}
use Rattle.vp_hits.proofs.Chances.{in_two, told_two}
use Rattle.vp_hits.proofs.pair_hits.PairHits.weights.Goals as goal

pub means-requires : goal.means-requires
means-requires c = record { cards = in_two _ _ _ _ c.self.view_is c.self.invariant c.requires.cards }

pub returns-clause-first : goal.returns-clause-first
returns-clause-first c =
    (told_two _ _ _ _ _ _ c.self.view_is c.self.invariant c.means.ensures.hand c.requires.cards (value_at _ c.args.mask _ c.requires.mask c.means.ensures.means)).first

pub returns-clause-second : goal.returns-clause-second
returns-clause-second c =
    (told_two _ _ _ _ _ _ c.self.view_is c.self.invariant c.means.ensures.hand c.requires.cards (value_at _ c.args.mask _ c.requires.mask c.means.ensures.means)).second
