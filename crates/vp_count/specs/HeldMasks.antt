-- The held cards of the holds of a hand, and their indexes.
use Rattle.std.specs.Prelude.{◌≡◌, ◌⊎◌, ℕ, ◌<◌, List, length, slice_index}
use Rattle.vp_card.specs.Cards.{held}
use Rattle.vp_sets.specs.Index.{set_index}

-- the indexes of the held cards of the masks below `count` stand in the list, which has room for 32
pub record Indexed (hand indexes : List ℕ) (count : ℕ) : Type 0 where
  pub long : length indexes ≡ 32
  pub told : (mask : ℕ) → mask < count → slice_index indexes mask ≡ set_index (held mask hand)

-- the mask holds so many of five cards
abbrev pub HoldsMany : ℕ → ℕ → Type 0
HoldsMany mask many = (hand : List ℕ) → length hand ≡ 5 → many ≡ length (held mask hand)

-- one of the five bits of a mask
abbrev pub IsOneBit : ℕ → Type 0
IsOneBit bit = (bit ≡ 1) ⊎ ((bit ≡ 2) ⊎ ((bit ≡ 4) ⊎ ((bit ≡ 8) ⊎ (bit ≡ 16))))
