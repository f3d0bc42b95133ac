use Rattle.std.proofs.Common.{sym, ◌∙◌}
use Rattle.vp_suit.proofs.Hands.{hand_rises}
use Rattle.vp_suit.proofs.Representatives.{more_turns, found}
use Rattle.vp_suit.proofs.least.least_of_images.Goals as goal

pub following-t-requires : goal.following-t-requires
following-t-requires c =
    more_turns c.args.hand.now c.loop-image.image c.loop-image.t (hand_rises c.args.hand.now c.turn-image.ensures.hand) c.loop-image.invariant.image c.loop-image.invariant.inside c.loop-image.invariant.before
    (sym c.is_representative.ensures.value ∙ c.loop-image-test.true)

pub returns-clause-representative : goal.returns-clause-representative
returns-clause-representative c =
    (found c.args.hand.now c.loop-image.image c.loop-image.t (hand_rises c.args.hand.now c.turn-image.ensures.hand) c.loop-image.invariant.image c.loop-image.invariant.inside c.loop-image.invariant.before
    (sym c.is_representative.ensures.value ∙ c.loop-image-test.false)).image_is

pub returns-clause-turn : goal.returns-clause-turn
returns-clause-turn c =
    (found c.args.hand.now c.loop-image.image c.loop-image.t (hand_rises c.args.hand.now c.turn-image.ensures.hand) c.loop-image.invariant.image c.loop-image.invariant.inside c.loop-image.invariant.before
    (sym c.is_representative.ensures.value ∙ c.loop-image-test.false)).turn_is
