-- What the chances of the lines obey.
use Rattle.std.specs.Prelude.{◌≡◌, ℕ, ◌+◌, ◌*◌, List, Option, Some, None, length, slice_index, sum_by}
use Rattle.vp_pay.specs.declared.table.PayTable.{PayTable}
use Rattle.vp_pay.specs.Table.{IsTable}
use Rattle.vp_sets.specs.Sets.{choose, deck}
use Rattle.vp_sets.specs.Draws.{common}
use Rattle.vp_suit.specs.Classes.{IsDeal}
use Rattle.vp_draws.specs.Draws.{IsPrintedHold, sum_of_best}
use Rattle.vp_hits.specs.Hits.{chance, often, payments, printed_chance}

-- under each printed hold of a deal a line has the same chance
abbrev pub PrintedHoldsHitAlike : Type 0
PrintedHoldsHitAlike = (table : PayTable) (coin : ℕ) (place : Option ℕ) (cards : List ℕ) (mask : ℕ) → IsTable table → IsDeal table.deck cards → IsPrintedHold table coin cards mask
    → chance table place cards mask ≡ printed_chance table coin place cards

-- the sum over the lines of a table of what f gives for their places
abbrev pub over_lines : PayTable → (ℕ → ℕ) → ℕ
over_lines table f = sum_by f (deck (length table.lines.items))

-- all lines and none come as often as there are deals, over the common denominator
abbrev pub LinesShareOutDraws : Type 0
LinesShareOutDraws = (table : PayTable) (coin : ℕ) → IsTable table
    → over_lines table (λ place. often table coin (Some place)) + often table coin None ≡ choose table.deck 5 * common table.deck

-- what the lines pay, each as often as it comes, is the sum of the best values of all deals: the numerator of the return
abbrev pub LinesMakeTheReturn : Type 0
LinesMakeTheReturn = (table : PayTable) (coin : ℕ) → IsTable table
    → over_lines table (λ place. slice_index (payments table coin) place * often table coin (Some place)) ≡ sum_of_best table coin
