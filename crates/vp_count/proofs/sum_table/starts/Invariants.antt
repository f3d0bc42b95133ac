use Rattle.std.proofs.Common.{◌≡◌, ◌<◌, ℕ, length, get_or}
use Rattle.vp_count.specs.Table.{first_word}
use Rattle.vp_count.proofs.sum_table.starts.Given as goal

abbrev pub invariant-loop-k : goal.invariant-loop-k
invariant-loop-k l = record {
  long : length l.starts ≡ 6;
  told : (k : ℕ) → k < l.k → get_or l.starts k 0 ≡ first_word l.n k;
}
