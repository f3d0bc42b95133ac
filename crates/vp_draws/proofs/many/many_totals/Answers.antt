use Rattle.std.proofs.Common.{◌≡◌, ◌<◌, ◌≤◌, ◌+◌, ◌^◌, [], ℕ, List, length, arith, sym, ap, subst, ◌∙◌}
use Rattle.vp_wild.specs.Kept.{Bet}
use Rattle.vp_sets.proofs.Holds.{Dealt, dealt_from}
use Rattle.vp_draws.specs.Draws.{total}
use Rattle.vp_wild.specs.Payment.{pay}
use Rattle.vp_draws.specs.ByLine.{summed}
use Rattle.vp_draws.specs.Many.{cell, deal_at}
use Rattle.vp_draws.proofs.LineDraws.{no_cards, nought_at}
use Rattle.vp_draws.proofs.Masks.{all_paid, few_cards}
use Rattle.vp_draws.proofs.Values.{total_fits}
use Rattle.vp_draws.proofs.many.many_totals.Goals as goal

pub walk-requires-clause-masks : goal.walk-requires-clause-masks
walk-requires-clause-masks g c = λ k l. nought_at 256 k ∙ sym (no_cards (deal_at c.of-deals.result k))

pub walk-requires-clause-hands : goal.walk-requires-clause-hands
walk-requires-clause-hands g c = subst (λ (d : List (List ℕ)). (k : ℕ) → length (deal_at d k) ≤ 5) (sym c.of-deals.ensures.same) (few_cards c.args.deals.now c.of-deals.ensures.hands)

pub walk-requires-clause-room : goal.walk-requires-clause-room
walk-requires-clause-room g c = λ k mask l s.
    let same = c.of-deals.ensures.same in
    let l' : k < length c.args.deals.now = omega (arith, l, ap (λ (d : List (List ℕ)). length d) same) in
    let d : Dealt c.args.table.now.deck (deal_at c.args.deals.now k) = dealt_from _ _ (c.of-deals.ensures.hands k l') (c.requires.cards k l') in
    let all : summed (pay c.new-payments.result.table c.new-payments.result.coin) c.args.table.now.deck [] 0 (deal_at c.of-deals.result k) mask ≡ total c.args.table.now c.args.coin (deal_at c.args.deals.now k) mask =
    ap (λ (t : _). summed (pay t c.new-payments.result.coin) c.args.table.now.deck [] 0 (deal_at c.of-deals.result k) mask) c.new-payments.ensures.table
    ∙ ap (λ (n : ℕ). summed (pay c.args.table.now n) c.args.table.now.deck [] 0 (deal_at c.of-deals.result k) mask) c.new-payments.ensures.coin
    ∙ ap (λ (d : List (List ℕ)). summed (pay c.args.table.now c.args.coin) c.args.table.now.deck [] 0 (deal_at d k) mask) same
    ∙ all_paid c.args.table.now c.args.coin (deal_at c.args.deals.now k) mask d s in
    omega (arith, all, c.clear.ensures k mask (omega (arith, c.requires.rows)), total_fits c.args.table.now c.args.coin (deal_at c.args.deals.now k) mask c.requires.table d)

pub returns-clause-totals : goal.returns-clause-totals
returns-clause-totals g c = λ k mask l s.
    let same = c.of-deals.ensures.same in
    let d : Dealt c.args.table.now.deck (deal_at c.args.deals.now k) = dealt_from _ _ (c.of-deals.ensures.hands k l) (c.requires.cards k l) in
    let all : summed (pay c.new-payments.result.table c.new-payments.result.coin) c.args.table.now.deck [] 0 (deal_at c.of-deals.result k) mask ≡ total c.args.table.now c.args.coin (deal_at c.args.deals.now k) mask =
    ap (λ (t : _). summed (pay t c.new-payments.result.coin) c.args.table.now.deck [] 0 (deal_at c.of-deals.result k) mask) c.new-payments.ensures.table
    ∙ ap (λ (n : ℕ). summed (pay c.args.table.now n) c.args.table.now.deck [] 0 (deal_at c.of-deals.result k) mask) c.new-payments.ensures.coin
    ∙ ap (λ (d : List (List ℕ)). summed (pay c.args.table.now c.args.coin) c.args.table.now.deck [] 0 (deal_at d k) mask) same
    ∙ all_paid c.args.table.now c.args.coin (deal_at c.args.deals.now k) mask d s in
    omega (arith, all, c.clear.ensures k mask (omega (arith, c.requires.rows)), c.walk.ensures.totals k mask (omega (arith, l, ap (λ (d : List (List ℕ)). length d) same)) s)
