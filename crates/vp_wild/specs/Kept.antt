-- A bet on a pay table, and pay lines that are kept for all hands that have the same place.
use Rattle.std.specs.Prelude.{◌≡◌, ℕ, ◌≤◌, List, length, Option, None, IfSome, slice_index, slice_index_or}
use Rattle.std.specs.Option.{unwrap_or}
use Rattle.vp_pay.specs.declared.table.PayTable.{PayTable}
use Rattle.vp_sets.specs.Index.{IsSet}
use Rattle.vp_wild.specs.Payment.{line, pay}
use Rattle.vp_wild.specs.Places.{place_of, places}

-- a pay table and the number of coins bet
pub record Bet : Type 0 where
  pub table : PayTable
  pub coin : ℕ

-- where the payment of a hand stands among those of the lines: at the place of its line, and at 32, past all lines, for none
abbrev pub slot : PayTable → List ℕ → ℕ
slot table hand = unwrap_or (line table hand) 32

-- each slot that is kept is that of every hand with its place
pub record AreKept (table : PayTable) (kept : List (Option ℕ)) : Type 0 where
  pub room : length kept ≡ places
  pub told : (hand : List ℕ) → IsSet 54 hand → length hand ≡ 5
      → IfSome (slice_index_or kept (place_of table.wild hand) None) (λ found. found ≡ slot table hand)

-- each hand is paid the number at its slot
pub record ArePaid (table : PayTable) (coin : ℕ) (pays : List ℕ) : Type 0 where
  pub few : length table.lines.items ≤ 32
  pub told : (hand : List ℕ) → slice_index pays (slot table hand) ≡ pay table coin hand
