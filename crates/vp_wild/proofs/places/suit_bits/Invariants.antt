use Rattle.std.proofs.Common.{◌≡◌, ◌<◌, ℕ, length, slice_index_or}
use Rattle.vp_wild.specs.Places.{suit_bit}
use Rattle.vp_wild.proofs.places.suit_bits.Given as goal

abbrev pub invariant-loop-card : goal.invariant-loop-card
invariant-loop-card l = (length l.bits ≡ 54) × ((k : ℕ) → k < l.card → slice_index_or l.bits k 0 ≡ suit_bit l.wild k)
