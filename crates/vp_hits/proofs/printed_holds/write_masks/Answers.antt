use Rattle.std.proofs.Common.{◌≡◌, ◌+◌, ◌*◌, ◌∙◌, ap, arith}
use Rattle.vp_pay.specs.declared.table.PayTable.{PayTable}
use Rattle.vp_suit.specs.Classes.{representatives, weight}
use Rattle.vp_draws.specs.Draws.{best}
use Rattle.vp_draws.proofs.Bounds.{best_sum_fits}
use Rattle.vp_draws.proofs.TurnedValues.{best_kept, best_sum_is}
use Rattle.vp_hits.proofs.Masks.{masks_more, masks_start}
use Rattle.vp_suit.proofs.Weighed.{added_all, added_fits, added_more, added_none, next_hand, weighed_is}
use Rattle.vp_hits.proofs.printed_holds.write_masks.Goals as goal

pub loop-class-init : goal.loop-class-init
loop-class-init c =
    let all = c.new-classes.ensures ∙ ap (λ (t : PayTable). representatives t.deck) c.table.ensures.table in
    record {
      masks = masks_start c.args.game.now.table c.args.game.now.coin c.args.masks.now c.new-classes.result c.requires all;
      sum = added_none _ _ _ c.table.ensures.rules.known_deck (best_kept c.args.game.now.coin c.args.game.now.table c.table.ensures.rules.known_deck.0) all;
    }

pub best-best-requires : goal.best-best-requires
best-best-requires c = record { cards = next_hand _ _ c.in-Some.class.hand _ _ c.in-Some.ensures.given _ c.loop-class.invariant.sum }

pub overflow_mul-sum : goal.overflow_mul-sum
overflow_mul-sum c =
    let more : c.from-in-Some.result * c.best-best.result.value ≡ weight c.in-Some.class.hand * best c.args.game.now.table c.args.game.now.coin c.in-Some.class.hand =
    weighed_is (c.from-in-Some.ensures ∙ c.in-Some.ensures.weight) c.best-best.ensures.best in
    omega (arith, more, added_fits _ _ c.in-Some.class.hand _ _ c.in-Some.ensures.given _ c.loop-class.invariant.sum, best_sum_fits c.args.game.now.table c.args.game.now.coin c.table.ensures.rules)

pub overflow_add-sum : goal.overflow_add-sum
overflow_add-sum c =
    let more : c.from-in-Some.result * c.best-best.result.value ≡ weight c.in-Some.class.hand * best c.args.game.now.table c.args.game.now.coin c.in-Some.class.hand =
    weighed_is (c.from-in-Some.ensures ∙ c.in-Some.ensures.weight) c.best-best.ensures.best in
    omega (arith, more, added_fits _ _ c.in-Some.class.hand _ _ c.in-Some.ensures.given _ c.loop-class.invariant.sum, best_sum_fits c.args.game.now.table c.args.game.now.coin c.table.ensures.rules)

pub loop-class-preserved : goal.loop-class-preserved
loop-class-preserved c =
    let more : c.from-in-Some.result * c.best-best.result.value ≡ weight c.in-Some.class.hand * best c.args.game.now.table c.args.game.now.coin c.in-Some.class.hand =
    weighed_is (c.from-in-Some.ensures ∙ c.in-Some.ensures.weight) c.best-best.ensures.best in
    record {
      masks = masks_more _ _ c.loop-class.masks c.loop-class.place c.in-Some.class.hand _ _ c.from.result c.in-Some.ensures.given (c.from.ensures ∙ c.best-best.ensures.least_best) c.loop-class.invariant.masks;
      sum = added_more _ _ c.in-Some.class.hand _ _ c.in-Some.ensures.given _ _ (ap (λ x. c.loop-class.sum + x) more) c.loop-class.invariant.sum;
    }

pub returns-clause-sum : goal.returns-clause-sum
returns-clause-sum c = best_sum_is c.args.game.now.table c.args.game.now.coin _ (added_all _ _ _ _ (c.in_default.ensures.end) c.loop-class.invariant.sum)
