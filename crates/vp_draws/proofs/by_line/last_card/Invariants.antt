use Rattle.std.proofs.Common.{◌≡◌, ℕ, ◌+◌, ◌<◌}
use Rattle.vp_draws.specs.ByLine.{count_at, ends_at, summed}
use Rattle.vp_draws.proofs.by_line.last_card.Given as goal

abbrev pub invariant-loop-card : goal.invariant-loop-card
invariant-loop-card g l = record {
  so_far : (m place : ℕ) → m < 32 → place < 33
      → count_at l.counts m place + summed (ends_at l.fn.lines place) l.n l.chosen l.card l.deal m
      ≡ count_at l.fn.counts m place + summed (ends_at l.fn.lines place) l.n l.chosen l.low l.deal m;
  same : l.lines ≡ l.fn.lines;
  steps : l.steps + l.low ≡ l.fn.steps + l.card;
}
