use Rattle.std.proofs.Common.{◌≡◌, ◌<◌, ◌≤◌, ℕ, List, Some, length, get_or}
use Rattle.std.specs.List.{All}
use Rattle.vp_wild.specs.Payment.{line, pay}
use Rattle.vp_hold.proofs.payments.payments_of.Given as goal

abbrev pub invariant-loop-place : goal.invariant-loop-place
invariant-loop-place l = record {
  room : length l.pays ≡ 33;
  bounded : All (λ x. x ≤ 250000000000) l.pays;
  none : get_or l.pays 32 0 ≡ 0;
  paid : (hand : List ℕ) (place : ℕ) → place < l.place → line l.table hand ≡ Some place → get_or l.pays place 0 ≡ pay l.table l.coin hand;
}
