use Rattle.std.proofs.Common.{◌≡◌, ℕ, ◌+◌, ◌<◌, length, get_or}
use Rattle.vp_sets.proofs.index.first_free.Given as goal

abbrev pub invariant-loop-place : goal.invariant-loop-place
invariant-loop-place l = record {
  run : (k : ℕ) → k < l.place → k + 1 < length l.set → get_or l.set k 0 + 1 ≡ get_or l.set (k + 1) 0;
  full : (k : ℕ) → k < l.place → length l.set ≡ k + 1 → get_or l.set k 0 + 1 ≡ l.n;
}
