-- The shape of one card more.
use Rattle.std.proofs.Common.{◌≡◌, ◌<◌, ◌≤◌, arith, ap, subst, take, length, sym, ◌∙◌, ◌+◌}
use Rattle.std.proofs.lemmas.List.{length-take-le}
use Rattle.std.specs.Prelude.{slice_index}
use Rattle.vp_card.specs.Cards.{rank}
use Rattle.vp_rank.specs.Shapes.{IsShape}
use Rattle.vp_rank.specs.declared.shape.Shape.{Shape}
use Rattle.vp_rank.proofs.CountLemmas.{natural}
use Rattle.vp_rank.proofs.ShapeSteps.{shape_wild, shape_natural, shape_next, count_bound}
use Rattle.vp_rank.proofs.shape.Shape.of.Goals as goal
use Rattle.vp_rank.proofs.shape.Shape.of.Goals.{then-is_wild_card, else-is_wild_card}

pub add_natural-requires-clause-natural : goal.add_natural-requires-clause-natural
add_natural-requires-clause-natural c = natural c.args.wild c.card-item.result (sym c.is_wild_card.ensures ∙ c.if-is_wild_card.false)

pub add_natural-requires-clause-room : goal.add_natural-requires-clause-room
add_natural-requires-clause-room c =
    let low : c.card-item.result < 52 = natural c.args.wild c.card-item.result (sym c.is_wild_card.ensures ∙ c.if-is_wild_card.false) in
    let bound : slice_index c.loop-card.shape.counts (rank c.card-item.result) ≤ length (take c.loop-card.card-index c.args.cards.now) =
    count_bound c.args.wild (take c.loop-card.card-index c.args.cards.now) c.loop-card.shape (rank c.card-item.result) (omega arith) c.loop-card.invariant in
    let short : length (take c.loop-card.card-index c.args.cards.now) ≡ c.loop-card.card-index = length-take-le c.loop-card.card-index c.args.cards.now (omega arith) in
    omega arith

pub loop-card-preserved : goal.loop-card-preserved
loop-card-preserved c =
    let cards = c.args.cards.now in
    let i = c.loop-card.card-index in
    let card = c.card-item.result in
    elim c.if-is_wild_card.branch [
      | then-is_wild_card w ↦
          shape_next c.args.wild cards i card c.if-is_wild_card.shape (omega arith) c.card-item.is
          (shape_wild c.args.wild (take i cards) card c.loop-card.shape c.if-is_wild_card.shape
          (sym c.is_wild_card.ensures ∙ w.if-is_wild_card.true) c.loop-card.invariant
          (ap (λ (s : Shape). s.wilds) w.shape-is) (ap (λ (s : Shape). s.counts) w.shape-is) (ap (λ (s : Shape). s.suits) w.shape-is))
      | else-is_wild_card w ↦
          let plain = sym c.is_wild_card.ensures ∙ w.if-is_wild_card.false in
          let next = w.add_natural.new.self in
          subst (λ (s : Shape). IsShape c.args.wild (take (i + 1) cards) s) (sym w.shape-is)
          (shape_next c.args.wild cards i card next (omega arith) c.card-item.is
          (shape_natural c.args.wild (take i cards) card c.loop-card.shape next
          plain (natural c.args.wild card plain) c.loop-card.invariant
          w.add_natural.ensures.wilds w.add_natural.ensures.counts w.add_natural.ensures.below w.add_natural.ensures.suits))
    ]
