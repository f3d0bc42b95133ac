use Rattle.std.proofs.Common.{◌≡◌, ◌+◌, ◌*◌, ◌∙◌, ap, arith}
use Rattle.vp_card.specs.Cards.{in_deck}
use Rattle.vp_pay.specs.declared.table.PayTable.{PayTable}
use Rattle.vp_wild.specs.Kept.{Bet}
use Rattle.vp_suit.specs.Classes.{representatives, weight}
use Rattle.vp_draws.specs.Draws.{best, value2}
use Rattle.vp_multi.specs.Sums.{printed_square, squared_value}
use Rattle.vp_suit.proofs.Weighed.{weighed_is}
use Rattle.vp_multi.proofs.ByClasses.{powers_none, powers_hand, powers_square, powers_more, values_fit, squares_fit, squared_fit, powers_all, squared_weighed}
use Rattle.vp_multi.proofs.several_hands.power_sums.Goals as goal

pub loop-class-init : goal.loop-class-init
loop-class-init c = powers_none c.args.game.now.table c.args.game.now.coin c.new-classes.result c.table.ensures.rules (c.new-classes.ensures ∙ ap (λ (t : PayTable). representatives t.deck) c.table.ensures.table)

pub best-best-requires : goal.best-best-requires
best-best-requires c = record { cards = powers_hand _ _ c.in-Some.class.hand _ _ c.in-Some.ensures.given _ _ _ c.loop-class.invariant }

pub value-square-requires-clause-cards : goal.value-square-requires-clause-cards
value-square-requires-clause-cards c =
    ap (λ (b : Bet). in_deck b.table.deck c.in-Some.class.hand) c.requires.same ∙ powers_hand _ _ c.in-Some.class.hand _ _ c.in-Some.ensures.given _ _ _ c.loop-class.invariant

pub overflow_add-sums : goal.overflow_add-sums
overflow_add-sums c =
    omega (arith, weighed_is (c.from-weight.ensures ∙ c.in-Some.ensures.weight) (c.from-value.ensures ∙ c.best-best.ensures.best), values_fit _ _ c.in-Some.class.hand _ _ c.in-Some.ensures.given _ _ _ c.table.ensures.rules c.loop-class.invariant)

pub overflow_add-sums-in-Some : goal.overflow_add-sums-in-Some
overflow_add-sums-in-Some c =
    let square_is : c.from-weight.result * c.from.result ≡ weight c.in-Some.class.hand * printed_square c.args.game.now.table c.args.game.now.coin c.in-Some.class.hand =
    (weighed_is (c.from-weight.ensures ∙ c.in-Some.ensures.weight)
    (c.from.ensures ∙ c.value-square.ensures ∙ ap (λ (b : Bet). value2 b.table b.coin c.in-Some.class.hand c.best-best.result.mask) c.requires.same
    ∙ ap (value2 c.args.game.now.table c.args.game.now.coin c.in-Some.class.hand) c.best-best.ensures.least_best
    ∙ powers_square _ _ c.in-Some.class.hand _ _ c.in-Some.ensures.given _ _ _ c.table.ensures.rules c.loop-class.invariant)) in
    omega (arith, square_is, squares_fit _ _ c.in-Some.class.hand _ _ c.in-Some.ensures.given _ _ _ c.table.ensures.rules c.loop-class.invariant)

pub overflow_mul-sums-in-Some-3 : goal.overflow_mul-sums-in-Some-3
overflow_mul-sums-in-Some-3 c =
    let squared_is : c.from-weight.result * (c.from-value.result * c.from-value.result) ≡ weight c.in-Some.class.hand * squared_value c.args.game.now.table c.args.game.now.coin c.in-Some.class.hand =
    (squared_weighed _ _ _ _ _ (c.from-weight.ensures ∙ c.in-Some.ensures.weight) (c.from-value.ensures ∙ c.best-best.ensures.best)) in
    omega (arith, squared_is, squared_fit _ _ c.in-Some.class.hand _ _ c.in-Some.ensures.given _ _ _ c.table.ensures.rules c.loop-class.invariant)

pub overflow_add-sums-in-Some-2 : goal.overflow_add-sums-in-Some-2
overflow_add-sums-in-Some-2 c =
    let squared_is : c.from-weight.result * (c.from-value.result * c.from-value.result) ≡ weight c.in-Some.class.hand * squared_value c.args.game.now.table c.args.game.now.coin c.in-Some.class.hand =
    (squared_weighed _ _ _ _ _ (c.from-weight.ensures ∙ c.in-Some.ensures.weight) (c.from-value.ensures ∙ c.best-best.ensures.best)) in
    omega (arith, squared_is, squared_fit _ _ c.in-Some.class.hand _ _ c.in-Some.ensures.given _ _ _ c.table.ensures.rules c.loop-class.invariant)

pub loop-class-preserved : goal.loop-class-preserved
loop-class-preserved c =
    let value_is : c.from-weight.result * c.from-value.result ≡ weight c.in-Some.class.hand * best c.args.game.now.table c.args.game.now.coin c.in-Some.class.hand =
    (weighed_is (c.from-weight.ensures ∙ c.in-Some.ensures.weight) (c.from-value.ensures ∙ c.best-best.ensures.best)) in
    let square_is : c.from-weight.result * c.from.result ≡ weight c.in-Some.class.hand * printed_square c.args.game.now.table c.args.game.now.coin c.in-Some.class.hand =
    (weighed_is (c.from-weight.ensures ∙ c.in-Some.ensures.weight)
    (c.from.ensures ∙ c.value-square.ensures ∙ ap (λ (b : Bet). value2 b.table b.coin c.in-Some.class.hand c.best-best.result.mask) c.requires.same
    ∙ ap (value2 c.args.game.now.table c.args.game.now.coin c.in-Some.class.hand) c.best-best.ensures.least_best
    ∙ powers_square _ _ c.in-Some.class.hand _ _ c.in-Some.ensures.given _ _ _ c.table.ensures.rules c.loop-class.invariant)) in
    let squared_is : c.from-weight.result * (c.from-value.result * c.from-value.result) ≡ weight c.in-Some.class.hand * squared_value c.args.game.now.table c.args.game.now.coin c.in-Some.class.hand =
    (squared_weighed _ _ _ _ _ (c.from-weight.ensures ∙ c.in-Some.ensures.weight) (c.from-value.ensures ∙ c.best-best.ensures.best)) in
    powers_more _ _ c.in-Some.class.hand _ _ c.in-Some.ensures.given _ _ _ _ _ _ (ap (λ x. c.loop-class.sums.values + x) value_is) (ap (λ x. c.loop-class.sums.squares + x) square_is) (ap (λ x. c.loop-class.sums.squared_values + x) squared_is) c.loop-class.invariant

pub returns : goal.returns
returns c = powers_all _ _ _ _ _ _ c.in_default.ensures.end c.loop-class.invariant
