use Rattle.std.proofs.Common.{◌≡◌, ◌<◌, ℕ, length, get_or}
use Rattle.vp_meter.proofs.hand_numbers.line_places.Given as goal

abbrev pub invariant-loop-place : goal.invariant-loop-place
invariant-loop-place l = record { long : length l.places ≡ 33; each : (i : ℕ) → i < l.place → get_or l.places i 0 ≡ i }
