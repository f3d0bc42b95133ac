use Rattle.std.proofs.Common.{◌≡◌, ◌+◌, ◌<◌, ℕ, length, slice_index}
use Rattle.std.specs.List.{sum_by}
use Rattle.vp_sets.specs.Sets.{deck}
use Rattle.vp_sets.specs.Draws.{draws}
use Rattle.vp_draws.specs.Draws.{value}
use Rattle.vp_draws.proofs.best.plain_best.Given as goal

abbrev pub invariant-loop-mask : goal.invariant-loop-mask
invariant-loop-mask g l = record {
  long : length l.values ≡ 32;
  done : (k : ℕ) → k < l.mask → slice_index l.values k ≡ value l.table l.coin l.hand k;
  table : l.payments.table ≡ l.table;
  coin : l.payments.coin ≡ l.coin;
  steps : l.steps ≡ l.fn.steps + sum_by (λ mask. length (draws l.table.deck l.hand mask)) (deck l.mask);
}
