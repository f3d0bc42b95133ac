use Rattle.std.proofs.Common.{◌≡◌, ℕ, ◌+◌, ◌<◌, length, slice_index}
use Rattle.vp_draws.proofs.many.with_card.Given as goal

abbrev pub invariant-loop-k : goal.invariant-loop-k
invariant-loop-k l = (length l.both ≡ 256) × ((k : ℕ) → k < l.k → slice_index l.both k ≡ slice_index l.masks k + slice_index l.more k)
