-- What the laws of values and best holds say.
use Rattle.std.specs.Prelude.{◌≡◌, ℕ, ◌<◌, ◌≤◌, List, Option}
use Rattle.vp_pay.specs.declared.table.PayTable.{PayTable}
use Rattle.vp_pay.specs.Table.{IsTable}
use Rattle.vp_sets.specs.Draws.{sum_over_draws}
use Rattle.vp_suit.specs.Classes.{IsDeal, representative}
use Rattle.vp_suit.specs.Laws.{sum_by_weight}
use Rattle.vp_suit.specs.Turns.{carried, turn}
use Rattle.vp_wild.specs.Payment.{line, pay}
use Rattle.vp_draws.specs.Draws.{IsMean, IsPrinted, IsPrintedHold, best, least_best, sum_of_best, value}

-- ---- the best hold of a deal

-- the least best mask has the greatest value
abbrev pub LeastBestIsBest : Type 0
LeastBestIsBest = (coin : ℕ) (table : PayTable) (cards : List ℕ) → value table coin cards (least_best table coin cards) ≡ best table coin cards

-- no hold is worth more than the greatest value
abbrev pub NoneExceedsBest : Type 0
NoneExceedsBest = (mask coin : ℕ) (table : PayTable) (cards : List ℕ) → mask < 32 → value table coin cards mask ≤ best table coin cards

-- each mask below the least best one is worth less
abbrev pub SmallerMasksAreLess : Type 0
SmallerMasksAreLess = (mask coin : ℕ) (table : PayTable) (cards : List ℕ) → mask < least_best table coin cards → value table coin cards mask < best table coin cards

-- what holds of each deal from the deck of each table, at each bet
abbrev pub OfEachDeal : (ℕ → PayTable → List ℕ → Type 0) → Type 0
OfEachDeal P = (coin : ℕ) (table : PayTable) (cards : List ℕ) → IsTable table → IsDeal table.deck cards → P coin table cards

-- what holds of each mask over each deal from the deck of each table, at each bet
abbrev pub OfEachHold : (ℕ → ℕ → PayTable → List ℕ → Type 0) → Type 0
OfEachHold P = (mask coin : ℕ) (table : PayTable) (cards : List ℕ) → IsTable table → IsDeal table.deck cards → P mask coin table cards

-- a number of a hold: of a table, a bet, a deal and a mask
abbrev pub OfHolds : Type 0
OfHolds = PayTable → ℕ → List ℕ → ℕ → ℕ

-- what each hold is worth, over the common denominator, is the mean over its draws, of which it has the sum
abbrev pub AreMeans : OfHolds → OfHolds → Type 0
AreMeans sums worths =
    OfEachHold (λ mask coin table cards. IsMean table.deck cards mask (sums table coin cards mask) (worths table coin cards mask))

-- the least best hold of a deal may be printed, with the greatest value
abbrev pub PrintsLeastBest : ℕ → PayTable → List ℕ → Type 0
PrintsLeastBest coin table cards = IsPrinted table coin cards (least_best table coin cards) (best table coin cards)

-- ---- turns of the suits

-- a number of the holds is the same for a hold and for the carried hold of a turned deal
abbrev pub AreKept : OfHolds → Type 0
AreKept f = (t mask coin : ℕ) (table : PayTable) (cards : List ℕ) → 52 ≤ table.deck → t < 24 → IsDeal table.deck cards
    → f table coin (turn t cards) (carried t cards mask) ≡ f table coin cards mask

-- a turned deal has the same greatest value
abbrev pub BestIsKept : Type 0
BestIsKept = (t coin : ℕ) (table : PayTable) (cards : List ℕ) → 52 ≤ table.deck → t < 24 → IsDeal table.deck cards
    → best table coin (turn t cards) ≡ best table coin cards

-- the greatest values of the classes, each taken as often as the class weighs, sum to those of all deals
abbrev pub BestSumsByClasses : Type 0
BestSumsByClasses = (coin : ℕ) (table : PayTable) → 52 ≤ table.deck → sum_by_weight table.deck (best table coin) ≡ sum_of_best table coin

-- whatever is made of the payment has the same sum over the draws of a hold and over those of the carried hold of a turned deal
abbrev pub PaymentsAreKept : Type 0
PaymentsAreKept = (t mask coin : ℕ) (table : PayTable) (f : ℕ → ℕ) (cards : List ℕ) → 52 ≤ table.deck → t < 24 → IsDeal table.deck cards
    → sum_over_draws (λ hand. f (pay table coin hand)) table.deck (turn t cards) (carried t cards mask)
    ≡ sum_over_draws (λ hand. f (pay table coin hand)) table.deck cards mask

-- and so has whatever is made of the pay line
abbrev pub LinesAreKept : Type 0
LinesAreKept = (t mask : ℕ) (table : PayTable) (f : Option ℕ → ℕ) (cards : List ℕ) → 52 ≤ table.deck → t < 24 → IsDeal table.deck cards
    → sum_over_draws (λ hand. f (line table hand)) table.deck (turn t cards) (carried t cards mask)
    ≡ sum_over_draws (λ hand. f (line table hand)) table.deck cards mask

-- the hold has the greatest value of the 32
abbrev pub HasBest : PayTable → ℕ → List ℕ → ℕ → Type 0
HasBest table coin cards mask = value table coin cards mask ≡ best table coin cards

-- a hold that some turn carries to a best hold of the representative is a best hold of the deal
abbrev pub BestIsCarried : Type 0
BestIsCarried = (t mask coin : ℕ) (table : PayTable) (cards : List ℕ) → 52 ≤ table.deck → t < 24 → IsDeal table.deck cards → turn t cards ≡ representative cards
    → HasBest table coin (representative cards) (carried t cards mask) → HasBest table coin cards mask

-- a mask that turn t carries to this one
abbrev pub CarriedFrom : ℕ → List ℕ → ℕ → Type 0
CarriedFrom t cards mask = (held_before : ℕ) × (held_before < 32) × (carried t cards held_before ≡ mask)

-- each deal, from whatever deck, has a printed hold
abbrev pub HasPrintedHold : Type 0
HasPrintedHold = (table : PayTable) (coin n : ℕ) (cards : List ℕ) → IsDeal n cards → (mask : ℕ) × (mask < 32) × IsPrintedHold table coin cards mask
