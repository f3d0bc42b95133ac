use Rattle.std.proofs.Common.{List, ℕ, ap, ◌∙◌, lit≤}
use Rattle.vp_suit.specs.Classes.{is_representative, weight}
use Rattle.vp_suit.proofs.Hands.{hand_rises}
use Rattle.vp_suit.proofs.Walks.{hand_deal}
use Rattle.vp_suit.proofs.Representatives.{represented, representative_weighs}
use Rattle.vp_suit.proofs.least.weight.Goals as goal

pub weight-requires : goal.weight-requires
weight-requires c =
    ap (λ (x : List ℕ). is_representative x) (c.of.ensures ∙ c.numbers.ensures.value ∙ c.least_image-image.ensures.representative) ∙ (represented c.args.hand.now (hand_rises c.args.hand.now c.least_image-image.ensures.hand)).stands

pub returns : goal.returns
returns c =
    c.weight.ensures ∙ ap (λ (x : List ℕ). weight x) (c.of.ensures ∙ c.numbers.ensures.value ∙ c.least_image-image.ensures.representative) ∙ representative_weighs 54 c.args.hand.now (lit≤ tt) (hand_deal c.args.hand.now c.least_image-image.ensures.hand)
