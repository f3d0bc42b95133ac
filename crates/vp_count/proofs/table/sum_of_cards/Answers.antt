use Rattle.std.proofs.Common.{◌≡◌, ◌+◌, ◌-◌, ◌≤◌, ℕ, ap, sym, ◌∙◌, arith, get_or}
use Rattle.vp_sets.specs.Sets.{choose}
use Rattle.vp_count.specs.Table.{words_of_cards}
use Rattle.vp_count.proofs.Scan.{cards_none, cards_more, cards_fit}
use Rattle.vp_count.proofs.table.sum_of_cards.Goals as goal

pub loop-card-init : goal.loop-card-init
loop-card-init c =
    let none : c.args.low - c.args.low ≡ 0 = omega arith in
    sym (ap (λ k. words_of_cards c.args.words.now c.args.first c.args.size c.args.low k) none ∙ cards_none c.args.words.now c.args.first c.args.size c.args.low)

pub overflow_add-total-in-loop-card : goal.overflow_add-total-in-loop-card
overflow_add-total-in-loop-card c =
    let here : c.args.low + (c.loop-card.card - c.args.low) ≡ c.loop-card.card = omega (arith, c.loop-card.auto.card) in
    let word : get_or c.args.words.now (c.args.first + choose (c.args.low + (c.loop-card.card - c.args.low)) c.args.size) 0 ≡ get_or c.args.words.now (c.args.first + c.choose.result) 0 =
    ap (λ x. get_or c.args.words.now (c.args.first + choose x c.args.size) 0) here ∙ ap (λ v. get_or c.args.words.now (c.args.first + v) 0) (sym c.choose.ensures) in
    omega (arith, word, cards_fit c.args.words.now c.args.first c.args.size c.args.low (c.loop-card.card - c.args.low) (c.args.end - c.args.low) (omega (arith, c.loop-card.auto.card, c.loop-card-test.true)), c.requires.small, c.loop-card.invariant)

pub loop-card-preserved : goal.loop-card-preserved
loop-card-preserved c =
    let here : c.args.low + (c.loop-card.card - c.args.low) ≡ c.loop-card.card = omega (arith, c.loop-card.auto.card) in
    let word : get_or c.args.words.now (c.args.first + choose (c.args.low + (c.loop-card.card - c.args.low)) c.args.size) 0 ≡ get_or c.args.words.now (c.args.first + c.choose.result) 0 =
    ap (λ x. get_or c.args.words.now (c.args.first + choose x c.args.size) 0) here ∙ ap (λ v. get_or c.args.words.now (c.args.first + v) 0) (sym c.choose.ensures) in
    let next : c.loop-card.card + 1 - c.args.low ≡ c.loop-card.card - c.args.low + 1 = omega (arith, c.loop-card.auto.card) in
    let more : words_of_cards c.args.words.now c.args.first c.args.size c.args.low (c.loop-card.card + 1 - c.args.low) ≡ words_of_cards c.args.words.now c.args.first c.args.size c.args.low (c.loop-card.card - c.args.low + 1) = ap (λ k. words_of_cards c.args.words.now c.args.first c.args.size c.args.low k) next in
    omega (arith, word, more, cards_more c.args.words.now c.args.first c.args.size c.args.low (c.loop-card.card - c.args.low), c.loop-card.invariant)

pub returns : goal.returns
returns c = c.loop-card.invariant ∙ ap (λ k. words_of_cards c.args.words.now c.args.first c.args.size c.args.low k) (omega (arith, c.loop-card.auto.card, c.loop-card-test.false, c.loop-card.auto.card-end))
