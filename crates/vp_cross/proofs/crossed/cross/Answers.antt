use Rattle.std.proofs.Common.{◌≡◌, ◌+◌, ◌*◌, ◌∙◌, ap, arith, refl}
use Rattle.vp_card.specs.Cards.{in_deck}
use Rattle.vp_pay.specs.declared.table.PayTable.{PayTable}
use Rattle.vp_suit.specs.Classes.{representatives, weight}
use Rattle.vp_draws.specs.Draws.{best, least_best, value}
use Rattle.vp_cross.specs.Crossings.{crossed_value}
use Rattle.vp_suit.proofs.Weighed.{weighed_is}
use Rattle.vp_cross.proofs.ByClasses.{best_fits, classes_fit, cost_is, deals_fit, next_hand, next_value, tallied_all, tallied_more, tallied_none, told_is, value_fits}
use Rattle.vp_cross.proofs.Totals.{never_exceeds}
use Rattle.vp_cross.proofs.crossed.cross.Goals as goal

pub loop-class-init : goal.loop-class-init
loop-class-init c = tallied_none _ _ _ _ c.table.ensures.rules (c.new-classes.ensures ∙ ap (λ (t : PayTable). representatives t.deck) c.table.ensures.table)

pub best-held-requires : goal.best-held-requires
best-held-requires c = record {
  cards =
      ap (λ n. in_deck n c.in-Some.class.hand) c.requires.deck
      ∙ next_hand _ _ _ c.in-Some.class.hand _ _ c.in-Some.ensures.given _ _ _ _ _ c.table.ensures.rules c.loop-class.invariant;
}

pub best-best-requires : goal.best-best-requires
best-best-requires c = record { cards = next_hand _ _ _ c.in-Some.class.hand _ _ c.in-Some.ensures.given _ _ _ _ _ c.table.ensures.rules c.loop-class.invariant }

pub value-value-requires-clause-cards : goal.value-value-requires-clause-cards
value-value-requires-clause-cards c = next_hand _ _ _ c.in-Some.class.hand _ _ c.in-Some.ensures.given _ _ _ _ _ c.table.ensures.rules c.loop-class.invariant

pub overflow_add-crossed : goal.overflow_add-crossed
overflow_add-crossed c =
    omega (
      arith,
      weighed_is (c.from-weight.ensures ∙ c.in-Some.ensures.weight) (c.from.ensures ∙ c.best-best.ensures.best),
      best_fits _ _ _ c.in-Some.class.hand _ _ c.in-Some.ensures.given _ _ _ _ _ c.table.ensures.rules c.loop-class.invariant,
    )

pub overflow_add-crossed-in-Some : goal.overflow_add-crossed-in-Some
overflow_add-crossed-in-Some c =
    let mask_is : c.best-held.result.mask ≡ least_best c.args.played.now.table c.args.priced.now.coin c.in-Some.class.hand =
    c.best-held.ensures.least_best ∙ ap (λ k. least_best c.args.played.now.table k c.in-Some.class.hand) c.requires.coin in
    let value_is : c.value-value.result ≡ crossed_value c.args.played.now.table c.args.priced.now.table c.args.priced.now.coin c.in-Some.class.hand =
    c.value-value.ensures
    ∙ ap (λ m. value c.args.priced.now.table c.args.priced.now.coin c.in-Some.class.hand m) mask_is
    ∙ next_value _ _ _ c.in-Some.class.hand _ _ c.in-Some.ensures.given _ _ _ _ _ c.table.ensures.rules c.loop-class.invariant in
    omega (
      arith,
      weighed_is (c.from-weight.ensures ∙ c.in-Some.ensures.weight) (c.from-in-Some.ensures ∙ value_is),
      value_fits _ _ _ c.in-Some.class.hand _ _ c.in-Some.ensures.given _ _ _ _ _ c.table.ensures.rules c.loop-class.invariant,
    )

pub count-requires-clause-classes : goal.count-requires-clause-classes
count-requires-clause-classes c = classes_fit _ _ _ c.in-Some.class.hand _ _ c.in-Some.ensures.given _ _ _ _ _ c.table.ensures.rules c.loop-class.invariant

pub count-requires-clause-deals : goal.count-requires-clause-deals
count-requires-clause-deals c = deals_fit _ _ _ c.in-Some.class.hand _ _ c.in-Some.ensures.given _ _ _ _ _ c.table.ensures.rules c.loop-class.invariant _ c.in-Some.ensures.weight

pub loop-class-preserved : goal.loop-class-preserved
loop-class-preserved c =
    let mask_is : c.best-held.result.mask ≡ least_best c.args.played.now.table c.args.priced.now.coin c.in-Some.class.hand =
    c.best-held.ensures.least_best ∙ ap (λ k. least_best c.args.played.now.table k c.in-Some.class.hand) c.requires.coin in
    let value_is : c.value-value.result ≡ crossed_value c.args.played.now.table c.args.priced.now.table c.args.priced.now.coin c.in-Some.class.hand =
    c.value-value.ensures
    ∙ ap (λ m. value c.args.priced.now.table c.args.priced.now.coin c.in-Some.class.hand m) mask_is
    ∙ next_value _ _ _ c.in-Some.class.hand _ _ c.in-Some.ensures.given _ _ _ _ _ c.table.ensures.rules c.loop-class.invariant in
    let best_weighs : c.from-weight.result * c.from.result ≡ weight c.in-Some.class.hand * best c.args.priced.now.table c.args.priced.now.coin c.in-Some.class.hand =
    weighed_is (c.from-weight.ensures ∙ c.in-Some.ensures.weight) (c.from.ensures ∙ c.best-best.ensures.best) in
    let value_weighs : c.from-weight.result * c.from-in-Some.result ≡ weight c.in-Some.class.hand * crossed_value c.args.played.now.table c.args.priced.now.table c.args.priced.now.coin c.in-Some.class.hand =
    weighed_is (c.from-weight.ensures ∙ c.in-Some.ensures.weight) (c.from-in-Some.ensures ∙ value_is) in
    tallied_more _ _ _ c.in-Some.class.hand _ _ c.in-Some.ensures.given _ _ _ _ _ c.table.ensures.rules c.loop-class.invariant _ _ _ _ c.in-Some.class.weight _ _
    (told_is _ _ _ _ _ _ _ _ refl mask_is c.best-best.ensures.least_best (cost_is _ _ _ c.in-Some.class.hand _ _ c.best-best.ensures.best value_is))
    c.in-Some.ensures.weight
    (c.count.ensures.optimum ∙ ap (λ x. c.loop-class.crossed.optimum + x) best_weighs)
    (c.count.ensures.value ∙ ap (λ x. c.loop-class.crossed.value + x) value_weighs)
    c.count.ensures.classes
    c.count.ensures.deals
    c.count.ensures.worst

pub returns-clause-optimum : goal.returns-clause-optimum
returns-clause-optimum c = (tallied_all _ _ _ _ _ _ _ _ _ c.in_default.ensures.end c.loop-class.invariant).best

pub returns-clause-value : goal.returns-clause-value
returns-clause-value c = (tallied_all _ _ _ _ _ _ _ _ _ c.in_default.ensures.end c.loop-class.invariant).value

pub returns-clause-deals : goal.returns-clause-deals
returns-clause-deals c = (tallied_all _ _ _ _ _ _ _ _ _ c.in_default.ensures.end c.loop-class.invariant).dealt

pub returns-clause-most : goal.returns-clause-most
returns-clause-most c =
    let all = tallied_all _ _ _ _ _ _ _ _ _ c.in_default.ensures.end c.loop-class.invariant in
    omega (arith, all.best, all.value, never_exceeds c.args.played.now.table c.args.priced.now.table c.args.priced.now.coin c.table.ensures.rules)
