use Rattle.std.proofs.Common.{◌≡◌, ◌<◌, ℕ, length, get_or}
use Rattle.vp_card.specs.Cards.{held}
use Rattle.vp_count.specs.Sums.{containing}
use Rattle.vp_count.proofs.sum_table.SumTable.held_sums.Given as goal

abbrev pub invariant-loop-mask : goal.invariant-loop-mask
invariant-loop-mask l = record {
  long : length l.sums ≡ 32;
  found : (k : ℕ) → k < l.mask → get_or l.sums k 0 ≡ containing l.self.size l.self.numbers (held k l.hand);
}
