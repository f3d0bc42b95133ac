-- All five cards are held.
use Rattle.std.proofs.Common.{List, ℕ, subst, ◌∙◌}
use Rattle.vp_rank.specs.Shapes.{IsShape}
use Rattle.vp_card.proofs.Hands.{held_all}
use Rattle.vp_wild.proofs.ranker.shape_of.Goals as goal

pub returns-clause-shape : goal.returns-clause-shape
returns-clause-shape c =
    subst (λ (cards : List ℕ). IsShape c.args.wild cards c.of.result)
    (c.as_slice.ensures.value ∙ c.held.ensures.cards ∙ held_all c.args.hand.now c.numbers-numbers.ensures.hand.five)
    c.of.ensures
