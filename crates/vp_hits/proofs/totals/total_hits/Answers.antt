use Rattle.std.proofs.Common.{◌≡◌, ◌+◌, ◌*◌, ◌∙◌, ap, arith}
use Rattle.vp_card.specs.Cards.{in_deck}
use Rattle.vp_pay.specs.declared.table.PayTable.{PayTable}
use Rattle.vp_suit.specs.Classes.{representatives, weight}
use Rattle.vp_hits.specs.Hits.{chance, printed_chance}
use Rattle.vp_hits.proofs.Printed.{often_fits, often_is, own_chance, printed_kept}
use Rattle.vp_suit.proofs.Weighed.{added_all, added_fits, added_more, added_none, next_hand, next_own, weighed_is}
use Rattle.vp_hits.proofs.totals.total_hits.Goals as goal

pub loop-class-init : goal.loop-class-init
loop-class-init c =
    added_none _ _ _ c.table.ensures.rules.known_deck (printed_kept c.args.game.now.table c.args.game.now.coin c.args.hits.now.line c.table.ensures.rules)
    (c.new-classes.ensures ∙ ap (λ (t : PayTable). representatives t.deck) c.table.ensures.table)

pub best-best-requires : goal.best-best-requires
best-best-requires c = record { cards = next_hand _ _ c.in-Some.class.hand _ _ c.in-Some.ensures.given _ c.loop-class.invariant }

pub weight-weight-requires-clause-cards : goal.weight-weight-requires-clause-cards
weight-weight-requires-clause-cards c =
    ap (λ (t : PayTable). in_deck t.deck c.in-Some.class.hand) c.requires.same ∙ next_hand _ _ c.in-Some.class.hand _ _ c.in-Some.ensures.given _ c.loop-class.invariant

pub overflow_add-total : goal.overflow_add-total
overflow_add-total c =
    let t = c.args.game.now.table in
    let here : c.weight-weight.result ≡ printed_chance t c.args.game.now.coin c.args.hits.now.line c.in-Some.class.hand =
    own_chance t c.args.game.now.coin c.args.hits.now.line c.in-Some.class.hand c.best-best.result.mask c.weight-weight.result (next_own _ _ c.in-Some.class.hand _ _ c.in-Some.ensures.given _ c.table.ensures.rules.known_deck c.loop-class.invariant)
    c.best-best.ensures.least_best (c.weight-weight.ensures ∙ ap (λ (x : PayTable). chance x c.args.hits.now.line c.in-Some.class.hand c.best-best.result.mask) c.requires.same) in
    let more : c.from.result * c.from-in-Some.result ≡ weight c.in-Some.class.hand * printed_chance t c.args.game.now.coin c.args.hits.now.line c.in-Some.class.hand =
    weighed_is (c.from.ensures ∙ c.in-Some.ensures.weight) (c.from-in-Some.ensures ∙ here) in
    omega (arith, more, added_fits _ _ c.in-Some.class.hand _ _ c.in-Some.ensures.given _ c.loop-class.invariant, often_fits t c.args.game.now.coin c.args.hits.now.line c.table.ensures.rules)

pub loop-class-preserved : goal.loop-class-preserved
loop-class-preserved c =
    let t = c.args.game.now.table in
    let here : c.weight-weight.result ≡ printed_chance t c.args.game.now.coin c.args.hits.now.line c.in-Some.class.hand =
    own_chance t c.args.game.now.coin c.args.hits.now.line c.in-Some.class.hand c.best-best.result.mask c.weight-weight.result (next_own _ _ c.in-Some.class.hand _ _ c.in-Some.ensures.given _ c.table.ensures.rules.known_deck c.loop-class.invariant)
    c.best-best.ensures.least_best (c.weight-weight.ensures ∙ ap (λ (x : PayTable). chance x c.args.hits.now.line c.in-Some.class.hand c.best-best.result.mask) c.requires.same) in
    let more : c.from.result * c.from-in-Some.result ≡ weight c.in-Some.class.hand * printed_chance t c.args.game.now.coin c.args.hits.now.line c.in-Some.class.hand =
    weighed_is (c.from.ensures ∙ c.in-Some.ensures.weight) (c.from-in-Some.ensures ∙ here) in
    added_more _ _ c.in-Some.class.hand _ _ c.in-Some.ensures.given _ _ (ap (λ x. c.loop-class.total + x) more) c.loop-class.invariant

pub returns : goal.returns
returns c = often_is c.args.game.now.table c.args.game.now.coin c.args.hits.now.line _ (added_all _ _ _ _ (c.in_default.ensures.end) c.loop-class.invariant)
