use Rattle.std.proofs.Common.{◌≡◌, ℕ, ◌+◌, ◌-◌, ◌<◌, ◌≤◌, length}
use Rattle.vp_wild.specs.Payment.{pay}
use Rattle.vp_draws.specs.ByLine.{summed}
use Rattle.vp_draws.specs.Many.{cell, deal_at}
use Rattle.vp_draws.proofs.many.last_card.Given as goal

abbrev pub invariant-loop-card : goal.invariant-loop-card
invariant-loop-card g l = record {
  so_far : (k mask : ℕ) → k < length l.deals → mask < 32
      → cell l.totals k mask + summed (pay l.fn.payments.table l.fn.payments.coin) l.n l.chosen l.card (deal_at l.deals k) mask
      ≡ cell l.fn.totals k mask + summed (pay l.fn.payments.table l.fn.payments.coin) l.n l.chosen l.low (deal_at l.deals k) mask;
  same : l.payments ≡ l.fn.payments;
  steps : l.steps + l.low ≡ l.fn.steps + l.card;
}
