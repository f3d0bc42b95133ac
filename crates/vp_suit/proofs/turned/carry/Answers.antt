use Rattle.std.proofs.Common.{◌≡◌, ap, ◌∙◌, ℕ, ◌<◌, List, map}
use Rattle.vp_card.specs.Cards.{held}
use Rattle.vp_sets.specs.Draws.{discarded}
use Rattle.vp_sets.specs.Draws.{mask_of}
use Rattle.vp_suit.specs.Turns.{turned, turn, carried}
use Rattle.vp_suit.proofs.Masks.{carried_is, held_carried, discarded_carried}
use Rattle.vp_suit.proofs.Hands.{hand_rises}
use Rattle.vp_suit.proofs.turned.carry.Goals as goal

is : (t m made : ℕ) (hand new kept : List ℕ) → made ≡ mask_of (map (λ card. turned t card) kept) new → new ≡ turn t hand → kept ≡ held m hand → t < 24 → made ≡ carried t hand m
is t m made hand new kept e f g l =
    let e' : made ≡ mask_of (map (λ card. turned t card) (held m hand)) (turn t hand) = rw (f, g) at e in
    e' ∙ carried_is t m hand l

pub returns-clause-value : goal.returns-clause-value
returns-clause-value c = is _ c.args.mask _ c.args.hand.now _ _ c.mask_of.ensures.value (c.numbers.ensures.value ∙ c.turn.ensures.value) (c.deref.ensures.0 ∙ c.held-kept.ensures.cards) c.turn.ensures.turn

pub returns-clause-held : goal.returns-clause-held
returns-clause-held c =
    let is : c.mask_of.result ≡ carried c.args.t c.args.hand.now c.args.mask = is _ c.args.mask _ c.args.hand.now _ _ c.mask_of.ensures.value (c.numbers.ensures.value ∙ c.turn.ensures.value) (c.deref.ensures.0 ∙ c.held-kept.ensures.cards) c.turn.ensures.turn in
    ap (λ m. held m (turn c.args.t c.args.hand.now)) is ∙ held_carried c.args.t c.args.mask c.args.hand.now c.turn.ensures.turn (hand_rises c.args.hand.now c.held-kept.ensures.hand)

pub returns-clause-discarded : goal.returns-clause-discarded
returns-clause-discarded c =
    let is : c.mask_of.result ≡ carried c.args.t c.args.hand.now c.args.mask = is _ c.args.mask _ c.args.hand.now _ _ c.mask_of.ensures.value (c.numbers.ensures.value ∙ c.turn.ensures.value) (c.deref.ensures.0 ∙ c.held-kept.ensures.cards) c.turn.ensures.turn in
    ap (λ m. discarded m (turn c.args.t c.args.hand.now)) is ∙ discarded_carried c.args.t c.args.mask c.args.hand.now c.turn.ensures.turn (hand_rises c.args.hand.now c.held-kept.ensures.hand)
