use Rattle.std.proofs.Common.{◌≡◌, [], ℕ, List, arith, sym, ap, ◌∙◌}
use Rattle.vp_pay.specs.declared.table.PayTable.{PayTable}
use Rattle.vp_sets.proofs.Holds.{Dealt, dealt_from}
use Rattle.vp_draws.specs.ByLine.{ends_at, line_draws, summed}
use Rattle.vp_draws.proofs.LineDraws.{all_counted, line_draws_fit, no_cards, no_counts}
use Rattle.vp_draws.proofs.by_line.draws_by_line.Goals as goal

pub walk-requires-clause-mask : goal.walk-requires-clause-mask
walk-requires-clause-mask g c = sym (no_cards c.of-deal.result)

pub walk-requires-clause-room : goal.walk-requires-clause-room
walk-requires-clause-room g c = λ mask place l s.
    let d : Dealt c.args.table.now.deck c.args.hand.now = dealt_from _ _ c.of-deal.ensures.hand c.requires.cards in
    let all : summed (ends_at c.new-lines.result place) c.args.table.now.deck [] 0 c.of-deal.result mask ≡ line_draws c.args.table.now place c.args.hand.now mask =
    ap (λ (t : PayTable). summed (ends_at t place) c.args.table.now.deck [] 0 c.of-deal.result mask) c.new-lines.ensures
    ∙ ap (λ (h : List ℕ). summed (ends_at c.args.table.now place) c.args.table.now.deck [] 0 h mask) c.of-deal.ensures.same
    ∙ all_counted c.args.table.now place c.args.hand.now mask d l in
    omega (arith, all, no_counts mask place l, line_draws_fit c.args.table.now place c.args.hand.now mask c.requires.table d)

pub returns-clause-counts : goal.returns-clause-counts
returns-clause-counts g c = λ mask place l s.
    let d : Dealt c.args.table.now.deck c.args.hand.now = dealt_from _ _ c.of-deal.ensures.hand c.requires.cards in
    let all : summed (ends_at c.new-lines.result place) c.args.table.now.deck [] 0 c.of-deal.result mask ≡ line_draws c.args.table.now place c.args.hand.now mask =
    ap (λ (t : PayTable). summed (ends_at t place) c.args.table.now.deck [] 0 c.of-deal.result mask) c.new-lines.ensures
    ∙ ap (λ (h : List ℕ). summed (ends_at c.args.table.now place) c.args.table.now.deck [] 0 h mask) c.of-deal.ensures.same
    ∙ all_counted c.args.table.now place c.args.hand.now mask d l in
    omega (arith, all, no_counts mask place l, c.walk.ensures.counts mask place l s)
