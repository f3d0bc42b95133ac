-- Each class is added behind those before it.
use Rattle.std.proofs.Common.{List, arith, ap, subst, ◌∙◌, length}
use Rattle.vp_rule.specs.declared.rule.Rule.{Rule}
use Rattle.vp_pay.specs.declared.table.PayTable.{PayTable}
use Rattle.vp_suit.specs.Classes.{representatives}
use Rattle.vp_audit.specs.declared.priced.Decided.{Decided}
use Rattle.vp_audit.proofs.Bounds.{ambiguous_small, has_room, optimum_small}
use Rattle.vp_audit.proofs.SoFar.{decided_in, end, next, next_by, next_deal, next_le, next_mask, priced_at}
use Rattle.vp_audit.proofs.SumsMore.{InList}
use Rattle.vp_audit.proofs.Start.{start}
use Rattle.vp_audit.proofs.walk.walk.Goals as goal

pub loop-class-init : goal.loop-class-init
loop-class-init g c = record {
  so_far =
      start c.args.game.now.table c.args.game.now.coin c.args.list.now _ _ _ _ _ _ _ c.table.ensures.rules.known_deck.0 c.requires
      (c.new-classes.ensures ∙ ap (λ (t : PayTable). representatives t.deck) c.table.ensures.table) c.exceptions-exceptions.ensures
      c.next-ahead.ensures.given c.next-ahead.ensures.end (ap (λ (rs : List Rule). length rs) c.rules.ensures) c.new-sums.ensures;
}

pub of-choices-requires : goal.of-choices-requires
of-choices-requires g c = record {
  deal =
      next_deal c.args.game.now.table c.args.game.now.coin c.args.list.now c.table.ensures.rules.known_deck.0
      c.in-Some.class.hand _ _ _ _ _ _ _ c.in-Some.ensures.given c.loop-class.invariant.so_far;
}

pub priced-requires-clause-mask : goal.priced-requires-clause-mask
priced-requires-clause-mask g c =
    next_mask c.args.game.now.table c.args.game.now.coin c.args.list.now c.table.ensures.rules.known_deck.0
    c.in-Some.class.hand _ _ _ _ _ _ _ c.in-Some.ensures.given c.loop-class.invariant.so_far _ c.requires c.take_mask-mask.ensures.mask

pub add-requires-clause-optimum : goal.add-requires-clause-optimum
add-requires-clause-optimum g c =
    omega (arith, optimum_small c.args.game.now.table c.args.game.now.coin c.args.list.now c.table.ensures.rules _ _ _ _ _ _ c.loop-class.invariant.so_far)

pub add-requires-clause-least : goal.add-requires-clause-least
add-requires-clause-least g c =
    omega (arith, c.loop-class.invariant.so_far.least_low, optimum_small c.args.game.now.table c.args.game.now.coin c.args.list.now c.table.ensures.rules _ _ _ _ _ _ c.loop-class.invariant.so_far)

pub add-requires-clause-greatest : goal.add-requires-clause-greatest
add-requires-clause-greatest g c =
    omega (arith, c.loop-class.invariant.so_far.greatest_low, optimum_small c.args.game.now.table c.args.game.now.coin c.args.list.now c.table.ensures.rules _ _ _ _ _ _ c.loop-class.invariant.so_far)

pub add-requires-clause-ambiguous : goal.add-requires-clause-ambiguous
add-requires-clause-ambiguous g c =
    omega (arith, ambiguous_small c.args.game.now.table c.args.game.now.coin c.args.list.now c.table.ensures.rules _ _ _ _ _ _ c.loop-class.invariant.so_far)

pub add-requires-clause-below : goal.add-requires-clause-below
add-requires-clause-below g c =
    let told = priced_at _ _ _ _ _ _ c.take_mask-mask.result _ _ _ c.of-choices.ensures.table c.of-choices.ensures.coin c.rules-in-Some.ensures c.of-choices.ensures.hand c.priced.ensures in
    (next_le c.args.game.now.table c.args.game.now.coin c.args.list.now c.table.ensures.rules.known_deck.0
    c.in-Some.class.hand _ _ _ _ _ _ _ c.in-Some.ensures.given c.loop-class.invariant.so_far _ _ c.requires c.take_mask-mask.ensures.mask told).0

pub add-requires-clause-tally : goal.add-requires-clause-tally
add-requires-clause-tally g c =
    let told = priced_at _ _ _ _ _ _ c.take_mask-mask.result _ _ _ c.of-choices.ensures.table c.of-choices.ensures.coin c.rules-in-Some.ensures c.of-choices.ensures.hand c.priced.ensures in
    let by = next_by c.args.game.now.table c.args.game.now.coin c.args.list.now c.table.ensures.rules.known_deck.0
    c.in-Some.class.hand _ _ _ _ _ _ _ c.in-Some.ensures.given c.loop-class.invariant.so_far _ _ c.take_mask-mask.ensures.mask told in
    has_room c.args.game.now.table c.args.game.now.coin c.args.list.now c.table.ensures.rules _ _ _ _ _ _ c.loop-class.invariant.so_far c.priced.result.by
    (subst (λ (b : Decided). InList b (length c.args.list.now.rules)) by (decided_in c.args.game.now.table c.args.list.now c.in-Some.class.hand))

pub loop-class-preserved : goal.loop-class-preserved
loop-class-preserved g c = record {
  so_far =
      let told = priced_at _ _ _ _ _ _ c.take_mask-mask.result _ _ _ c.of-choices.ensures.table c.of-choices.ensures.coin c.rules-in-Some.ensures c.of-choices.ensures.hand c.priced.ensures in
      next c.args.game.now.table c.args.game.now.coin c.args.list.now c.table.ensures.rules.known_deck.0
      c.in-Some.class.hand _ _ _ _ _ _ _ c.in-Some.ensures.given c.loop-class.invariant.so_far _ _ _ _ _ _ _
      c.requires c.in-Some.ensures.weight c.take_mask-mask.ensures.mask c.take_mask-mask.ensures.left c.take_mask-mask.ensures.ended told c.add.ensures c.of-choices.ensures.step;
}

pub returns-clause-below : goal.returns-clause-below
returns-clause-below g c = c.loop-class.invariant.so_far.least_low

pub returns-clause-sums : goal.returns-clause-sums
returns-clause-sums g c =
    (end c.args.game.now.table c.args.game.now.coin c.args.list.now c.table.ensures.rules.known_deck.0 _ _ _ _ _ _ c.in_default.ensures.end c.loop-class.invariant.so_far).0

pub returns-clause-steps : goal.returns-clause-steps
returns-clause-steps g c =
    (end c.args.game.now.table c.args.game.now.coin c.args.list.now c.table.ensures.rules.known_deck.0 _ _ _ _ _ _ c.in_default.ensures.end c.loop-class.invariant.so_far).1
