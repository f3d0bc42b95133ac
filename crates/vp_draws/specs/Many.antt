-- The totals of all holds of many deals.
use Rattle.std.specs.Prelude.{◌≡◌, ℕ, ◌<◌, List, [], length, slice_index, slice_index_or}
use Rattle.vp_pay.specs.declared.table.PayTable.{PayTable}
use Rattle.vp_sets.specs.Draws.{mask_of}
use Rattle.vp_draws.specs.Draws.{value}

-- the deal at a place; no cards past the last
abbrev pub deal_at : List (List ℕ) → ℕ → List ℕ
deal_at deals k = slice_index_or deals k []

-- the number of a mask in the row at a place
abbrev pub cell : List (List ℕ) → ℕ → ℕ → ℕ
cell rows k mask = slice_index (slice_index_or rows k []) mask

-- the masks that hold, of each of the deals, just these cards
abbrev pub AreMasks : List (List ℕ) → List ℕ → List ℕ → Type 0
AreMasks deals cards masks = (k : ℕ) → k < length deals → slice_index masks k ≡ mask_of cards (deal_at deals k)

-- the values of the 32 holds of a hand, by their masks
abbrev pub AreValues : PayTable → ℕ → List ℕ → List ℕ → Type 0
AreValues table coin hand values = (mask : ℕ) → mask < 32 → slice_index values mask ≡ value table coin hand mask
