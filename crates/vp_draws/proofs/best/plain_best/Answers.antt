use Rattle.std.proofs.Common.{◌≡◌, ◌+◌, ◌<◌, ℕ, length, get_or, inl, inr, refl, ap, sym, ◌∙◌, arith}
use Rattle.std.specs.List.{sum_by}
use Rattle.std.proofs.lemmas.Bool.{cases_lt}
use Rattle.std.proofs.lemmas.List.{get_or-set_other, length-set}
use Rattle.std.proofs.lemmas.Grind.{get_or-set_at}
use Rattle.vp_sets.specs.Sets.{deck}
use Rattle.vp_sets.specs.Draws.{draws}
use Rattle.vp_wild.specs.Kept.{Bet}
use Rattle.vp_draws.specs.Draws.{value, masks}
use Rattle.vp_draws.proofs.Choice.{sum_none, sum_more, masks_are}
use Rattle.vp_draws.proofs.best.plain_best.Goals as goal

pub loop-mask-init : goal.loop-mask-init
loop-mask-init g c = record {
  long = refl;
  done = λ k l. absurd (omega arith);
  table = c.new-payments.ensures.table;
  coin = c.new-payments.ensures.coin;
  steps = omega (arith, sum_none (λ mask. length (draws c.args.table.now.deck c.args.hand.now mask)));
}

pub loop-mask-preserved : goal.loop-mask-preserved
loop-mask-preserved g c =
    let i = c.loop-mask.mask in
    let worth : c.hold_value.result ≡ value c.args.table.now c.args.coin c.args.hand.now i = rw (c.loop-mask.invariant.table, c.loop-mask.invariant.coin) at c.hold_value.ensures.value in
    record {
      long = length-set c.loop-mask.values i c.hold_value.result ∙ c.loop-mask.invariant.long;
      done = λ k l. elim (cases_lt k i) [
        | inl p ↦ get_or-set_other c.loop-mask.values i k c.hold_value.result 0 (λ e. omega arith) ∙ c.loop-mask.invariant.done k p
        | inr p ↦ let q : k ≡ i = omega arith in get_or-set_at c.loop-mask.values i k c.hold_value.result 0 q (omega (arith, c.loop-mask.invariant.long)) ∙ worth ∙ ap (value c.args.table.now c.args.coin c.args.hand.now) (sym q)
      ];
      table = ap (λ (b : Bet). b.table) c.hold_value.ensures.same ∙ c.loop-mask.invariant.table;
      coin = ap (λ (b : Bet). b.coin) c.hold_value.ensures.same ∙ c.loop-mask.invariant.coin;
      steps = omega (arith, c.loop-mask.invariant.steps, sum_more (λ mask. length (draws c.args.table.now.deck c.args.hand.now mask)) i, c.hold_value.ensures.steps);
    }

pub returns-clause-value : goal.returns-clause-value
returns-clause-value g c = c.best_of_values.ensures.value ∙ c.loop-mask.invariant.done c.best_of_values.result.mask (omega (arith, c.best_of_values.ensures.hold))

pub returns-clause-greatest : goal.returns-clause-greatest
returns-clause-greatest g c = λ mask l. omega (arith, c.best_of_values.ensures.greatest mask l, c.loop-mask.invariant.done mask (omega arith))

pub returns-clause-least : goal.returns-clause-least
returns-clause-least g c = λ mask l. omega (arith, c.best_of_values.ensures.least mask l, c.loop-mask.invariant.done mask (omega (arith, c.best_of_values.ensures.hold)))

pub returns-clause-ties : goal.returns-clause-ties
returns-clause-ties g c = c.best_of_values.ensures.ties c.args.table.now c.args.coin c.args.hand.now (λ mask l. c.loop-mask.invariant.done mask (omega arith))

pub returns-clause-best : goal.returns-clause-best
returns-clause-best g c = c.best_of_values.ensures.best c.args.table.now c.args.coin c.args.hand.now (λ mask l. c.loop-mask.invariant.done mask (omega arith))

pub returns-clause-least_best : goal.returns-clause-least_best
returns-clause-least_best g c = c.best_of_values.ensures.least_best c.args.table.now c.args.coin c.args.hand.now (λ mask l. c.loop-mask.invariant.done mask (omega arith))

pub returns-clause-steps : goal.returns-clause-steps
returns-clause-steps g c =
    let end : c.loop-mask.mask ≡ 32 = omega arith in
    let all : deck c.loop-mask.mask ≡ masks = ap deck end ∙ masks_are in
    let steps : c.loop-mask.steps ≡ c.args.steps.now + sum_by (λ mask. length (draws c.args.table.now.deck c.args.hand.now mask)) (deck c.loop-mask.mask) = c.loop-mask.invariant.steps in
    rw all at steps
