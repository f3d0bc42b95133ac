use Rattle.std.proofs.Common.{◌≡◌, ◌<◌, ℕ, length, map}
use Rattle.vp_draws.specs.Many.{deal_at}
use Rattle.vp_check.proofs.walk.hands_of.Given as goal

abbrev pub invariant-loop-k : goal.invariant-loop-k
invariant-loop-k l = record {
  room : length l.hands ≡ 256;
  done : (k : ℕ) → k < l.k → deal_at l.hands k ≡ deal_at (map (λ row. row.class.hand) l.asked) k;
}
