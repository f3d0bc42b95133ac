use Rattle.std.proofs.Common.{◌≡◌, ◌+◌, ◌*◌, ◌∙◌, ap, arith, get_or}
use Rattle.vp_card.specs.Cards.{in_deck}
use Rattle.vp_pay.specs.declared.table.PayTable.{PayTable}
use Rattle.vp_suit.specs.Classes.{representatives, weight}
use Rattle.vp_draws.specs.Draws.{least_best}
use Rattle.vp_hits.specs.Hits.{chance, often, printed_chance}
use Rattle.vp_hits.specs.Numbers.{AskedTwo, IsPrinted, Printed}
use Rattle.vp_hits.proofs.Masks.{mask_small, of_printed, printed_mask, read_more, read_start}
use Rattle.vp_hits.proofs.Printed.{often_fits, often_is, own_chance, printed_kept}
use Rattle.vp_suit.proofs.Weighed.{added_all, added_fits, added_more, added_none, next_hand, next_own, weighed_is}
use Rattle.vp_hits.proofs.printed_holds.PrintedHolds.often.Goals as goal

pub loop-class-init : goal.loop-class-init
loop-class-init c =
    let p = c.args.self.now in
    let printed : IsPrinted p c.self.inside.sum = of_printed p _ c.self.inside.sum c.self.view_is c.self.invariant in
    let all : c.new-classes.result ≡ representatives p.table.deck = c.new-classes.ensures ∙ ap (λ (q : Printed). representatives q.table.deck) c.self.view_is in
    record {
      masks = read_start p.table p.coin p.words c.new-classes.result printed.masks all;
      one = added_none _ _ _ printed.bet.rules.known_deck (printed_kept p.table p.coin c.of-hits.result.first printed.bet.rules) all;
      other = added_none _ _ _ printed.bet.rules.known_deck (printed_kept p.table p.coin c.of-hits.result.second printed.bet.rules) all;
    }

pub overflow_cast-self-inside : goal.overflow_cast-self-inside
overflow_cast-self-inside c = omega (arith, mask_small c.args.self.now _ c.loop-class.place c.in-Some.class.hand _ _ c.self.view_is c.in-Some.ensures.given c.loop-class.invariant.masks)

pub weights-weights-requires-clause-cards : goal.weights-weights-requires-clause-cards
weights-weights-requires-clause-cards c =
    let same : c.of-hits.result.table ≡ c.args.self.now.table = ap (λ (a : AskedTwo). a.table) c.of-hits.ensures ∙ ap (λ (q : Printed). q.table) c.self.view_is in
    ap (λ (t : PayTable). in_deck t.deck c.in-Some.class.hand) same ∙ next_hand _ _ c.in-Some.class.hand _ _ c.in-Some.ensures.given _ c.loop-class.invariant.one

pub weights-weights-requires-clause-mask : goal.weights-weights-requires-clause-mask
weights-weights-requires-clause-mask c = mask_small c.args.self.now _ c.loop-class.place c.in-Some.class.hand _ _ c.self.view_is c.in-Some.ensures.given c.loop-class.invariant.masks

pub overflow_add-one : goal.overflow_add-one
overflow_add-one c =
    let p = c.args.self.now in
    let hand = c.in-Some.class.hand in
    let printed : IsPrinted p c.self.inside.sum = of_printed p _ c.self.inside.sum c.self.view_is c.self.invariant in
    let same : c.of-hits.result.table ≡ p.table = ap (λ (a : AskedTwo). a.table) c.of-hits.ensures ∙ ap (λ (q : Printed). q.table) c.self.view_is in
    let mask : get_or c.self.inside.masks.now c.loop-class.place 0 ≡ least_best p.table p.coin hand = printed_mask p _ c.loop-class.place hand _ _ c.self.view_is c.in-Some.ensures.given c.loop-class.invariant.masks in
    let own = next_own _ _ hand _ _ c.in-Some.ensures.given _ printed.bet.rules.known_deck c.loop-class.invariant.one in
    let here : c.weights-weights.result.0 ≡ printed_chance p.table p.coin c.of-hits.result.first hand =
    own_chance p.table p.coin c.of-hits.result.first hand _ _ own mask (c.weights-weights.ensures.first ∙ ap (λ (t : PayTable). chance t c.of-hits.result.first hand (get_or c.self.inside.masks.now c.loop-class.place 0)) same) in
    let more : c.from.result * c.from-in-Some.result ≡ weight hand * printed_chance p.table p.coin c.of-hits.result.first hand = weighed_is (c.from.ensures ∙ c.in-Some.ensures.weight) (c.from-in-Some.ensures ∙ here) in
    omega (arith, more, added_fits _ _ hand _ _ c.in-Some.ensures.given _ c.loop-class.invariant.one, often_fits p.table p.coin c.of-hits.result.first printed.bet.rules)

pub overflow_add-other : goal.overflow_add-other
overflow_add-other c =
    let p = c.args.self.now in
    let hand = c.in-Some.class.hand in
    let printed : IsPrinted p c.self.inside.sum = of_printed p _ c.self.inside.sum c.self.view_is c.self.invariant in
    let same : c.of-hits.result.table ≡ p.table = ap (λ (a : AskedTwo). a.table) c.of-hits.ensures ∙ ap (λ (q : Printed). q.table) c.self.view_is in
    let mask : get_or c.self.inside.masks.now c.loop-class.place 0 ≡ least_best p.table p.coin hand = printed_mask p _ c.loop-class.place hand _ _ c.self.view_is c.in-Some.ensures.given c.loop-class.invariant.masks in
    let own = next_own _ _ hand _ _ c.in-Some.ensures.given _ printed.bet.rules.known_deck c.loop-class.invariant.other in
    let here : c.weights-weights.result.1 ≡ printed_chance p.table p.coin c.of-hits.result.second hand =
    own_chance p.table p.coin c.of-hits.result.second hand _ _ own mask (c.weights-weights.ensures.second ∙ ap (λ (t : PayTable). chance t c.of-hits.result.second hand (get_or c.self.inside.masks.now c.loop-class.place 0)) same) in
    let more : c.from-in-Some-2.result * c.from-in-Some-3.result ≡ weight hand * printed_chance p.table p.coin c.of-hits.result.second hand = weighed_is (c.from-in-Some-2.ensures ∙ c.in-Some.ensures.weight) (c.from-in-Some-3.ensures ∙ here) in
    omega (arith, more, added_fits _ _ hand _ _ c.in-Some.ensures.given _ c.loop-class.invariant.other, often_fits p.table p.coin c.of-hits.result.second printed.bet.rules)

pub loop-class-preserved : goal.loop-class-preserved
loop-class-preserved c =
    let p = c.args.self.now in
    let hand = c.in-Some.class.hand in
    let printed : IsPrinted p c.self.inside.sum = of_printed p _ c.self.inside.sum c.self.view_is c.self.invariant in
    let same : c.of-hits.result.table ≡ p.table = ap (λ (a : AskedTwo). a.table) c.of-hits.ensures ∙ ap (λ (q : Printed). q.table) c.self.view_is in
    let mask : get_or c.self.inside.masks.now c.loop-class.place 0 ≡ least_best p.table p.coin hand = printed_mask p _ c.loop-class.place hand _ _ c.self.view_is c.in-Some.ensures.given c.loop-class.invariant.masks in
    let own = next_own _ _ hand _ _ c.in-Some.ensures.given _ printed.bet.rules.known_deck c.loop-class.invariant.one in
    let one : c.weights-weights.result.0 ≡ printed_chance p.table p.coin c.of-hits.result.first hand =
    own_chance p.table p.coin c.of-hits.result.first hand _ _ own mask (c.weights-weights.ensures.first ∙ ap (λ (t : PayTable). chance t c.of-hits.result.first hand (get_or c.self.inside.masks.now c.loop-class.place 0)) same) in
    let other : c.weights-weights.result.1 ≡ printed_chance p.table p.coin c.of-hits.result.second hand =
    own_chance p.table p.coin c.of-hits.result.second hand _ _ own mask (c.weights-weights.ensures.second ∙ ap (λ (t : PayTable). chance t c.of-hits.result.second hand (get_or c.self.inside.masks.now c.loop-class.place 0)) same) in
    let more : c.from.result * c.from-in-Some.result ≡ weight hand * printed_chance p.table p.coin c.of-hits.result.first hand = weighed_is (c.from.ensures ∙ c.in-Some.ensures.weight) (c.from-in-Some.ensures ∙ one) in
    let most : c.from-in-Some-2.result * c.from-in-Some-3.result ≡ weight hand * printed_chance p.table p.coin c.of-hits.result.second hand = weighed_is (c.from-in-Some-2.ensures ∙ c.in-Some.ensures.weight) (c.from-in-Some-3.ensures ∙ other) in
    record {
      masks = read_more _ _ _ c.loop-class.place hand _ _ c.in-Some.ensures.given c.loop-class.invariant.masks;
      one = added_more _ _ hand _ _ c.in-Some.ensures.given _ _ (ap (λ x. c.loop-class.one + x) more) c.loop-class.invariant.one;
      other = added_more _ _ hand _ _ c.in-Some.ensures.given _ _ (ap (λ x. c.loop-class.other + x) most) c.loop-class.invariant.other;
    }

pub returns-clause-first : goal.returns-clause-first
returns-clause-first c =
    often_is c.args.self.now.table c.args.self.now.coin c.of-hits.result.first _ (added_all _ _ _ _ c.in_default.ensures.end c.loop-class.invariant.one)
    ∙ ap (λ (a : AskedTwo). often c.args.self.now.table c.args.self.now.coin a.first) c.of-hits.ensures

pub returns-clause-second : goal.returns-clause-second
returns-clause-second c =
    often_is c.args.self.now.table c.args.self.now.coin c.of-hits.result.second _ (added_all _ _ _ _ c.in_default.ensures.end c.loop-class.invariant.other)
    ∙ ap (λ (a : AskedTwo). often c.args.self.now.table c.args.self.now.coin a.second) c.of-hits.ensures
