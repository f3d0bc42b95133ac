use Rattle.std.proofs.Common.{◌≡◌, ℕ, ◌+◌, ◌<◌, ◌≤◌, [], length, slice_index_or}
use Rattle.vp_sets.specs.Sets.{choose}
use Rattle.vp_draws.specs.Draws.{total}
use Rattle.vp_draws.specs.Many.{AreValues, cell, deal_at}
use Rattle.vp_draws.proofs.many.many_values.Given as goal

abbrev pub invariant-loop-k : goal.invariant-loop-k
invariant-loop-k g l = record {
  done : (k : ℕ) → k < l.k → AreValues l.table l.coin (deal_at l.deals k) (slice_index_or l.values k []);
  left : (k mask : ℕ) → l.k ≤ k → k < length l.deals → mask < 32 → cell l.values k mask ≡ total l.table l.coin (deal_at l.deals k) mask;
}
