-- What the costs of one table's play on another obey. Where nothing else is said, `played` is any table, and `priced` keeps the rules.
use Rattle.std.specs.Prelude.{◌≡◌, ◌↔◌, ℕ, ◌+◌, ◌<◌, ◌≤◌, true, List, None, Some, sum_by}
use Rattle.vp_pay.specs.declared.table.PayTable.{PayTable}
use Rattle.vp_pay.specs.Table.{IsTable}
use Rattle.vp_sets.specs.Index.{set_index}
use Rattle.vp_suit.specs.Classes.{IsDeal, is_representative}
use Rattle.vp_suit.specs.Laws.{deals}
use Rattle.vp_draws.specs.Draws.{IsPrintedHold, best, least_best, sum_of_best, value}
use Rattle.vp_cross.specs.Crossings.{cost, costly_classes, costly_deals, crossed_value, sum_of_crossed, worst}
use Rattle.vp_cross.specs.declared.crossed.Worst.{Worst}

-- each hold that the first table prints for a deal is worth the crossed value of the deal on the second
abbrev pub PrintedHoldsAreCrossed : Type 0
PrintedHoldsAreCrossed = (played priced : PayTable) (coin mask : ℕ) (cards : List ℕ) → IsTable priced → IsDeal priced.deck cards
    → IsPrintedHold played coin cards mask → value priced coin cards mask ≡ crossed_value played priced coin cards

-- the cost of a deal makes up its crossed value to its best value
abbrev pub CostsMakeUp : Type 0
CostsMakeUp = (played priced : PayTable) (coin : ℕ) (cards : List ℕ) → IsTable priced → IsDeal priced.deck cards
    → crossed_value played priced coin cards + cost played priced coin cards ≡ best priced coin cards

-- and the costs of all deals make up the crossed value to the optimum
abbrev pub CostsAddUp : Type 0
CostsAddUp = (played priced : PayTable) (coin : ℕ) → IsTable priced
    → sum_of_crossed played priced coin + sum_by (cost played priced coin) (deals priced.deck) ≡ sum_of_best priced coin

-- the crossed value never exceeds the optimum
abbrev pub CrossedNeverExceeds : Type 0
CrossedNeverExceeds = (played priced : PayTable) (coin : ℕ) → IsTable priced → sum_of_crossed played priced coin ≤ sum_of_best priced coin

-- each hold that the first table prints, for any deal, is worth the greatest value on the second
abbrev pub PrintsBestHolds : PayTable → PayTable → ℕ → Type 0
PrintsBestHolds played priced coin = (mask : ℕ) (cards : List ℕ) → IsDeal priced.deck cards → IsPrintedHold played coin cards mask
    → value priced coin cards mask ≡ best priced coin cards

-- the crossed value is the optimum exactly where each printed hold of each deal is best on the second table
abbrev pub EqualWhereBest : Type 0
EqualWhereBest = (played priced : PayTable) (coin : ℕ) → IsTable priced
    → (sum_of_crossed played priced coin ≡ sum_of_best priced coin) ↔ PrintsBestHolds played priced coin

-- a class that costs most: its deals cost something, no deal costs more, and no class of lesser index costs as much
pub record IsWorst (played priced : PayTable) (coin : ℕ) (w : Worst) : Type 0 where
  pub deal : IsDeal priced.deck w.hand
  pub class : is_representative w.hand ≡ true
  pub mask : w.mask ≡ least_best played coin w.hand
  pub best : w.best ≡ least_best priced coin w.hand
  pub is_cost : w.cost ≡ cost played priced coin w.hand
  pub some : 0 < w.cost
  pub greatest : (cards : List ℕ) → IsDeal priced.deck cards → cost played priced coin cards ≤ w.cost
  pub first : (cards : List ℕ) → IsDeal priced.deck cards → set_index cards < set_index w.hand → is_representative cards ≡ true
      → cost played priced coin cards < w.cost

abbrev pub WorstIsWorst : Type 0
WorstIsWorst = (played priced : PayTable) (coin : ℕ) (w : Worst) → IsTable priced → worst played priced coin ≡ Some w → IsWorst played priced coin w

-- there is none exactly where the crossed value is the optimum
abbrev pub NoneWhereEqual : Type 0
NoneWhereEqual = (played priced : PayTable) (coin : ℕ) → IsTable priced
    → (worst played priced coin ≡ None) ↔ (sum_of_crossed played priced coin ≡ sum_of_best priced coin)

-- a table's own play costs nothing: no sum, no class, no deal
pub record CostsNothing (table : PayTable) (coin : ℕ) : Type 0 where
  pub value : sum_of_crossed table table coin ≡ sum_of_best table coin
  pub classes : costly_classes table table coin ≡ 0
  pub deals : costly_deals table table coin ≡ 0
  pub worst : worst table table coin ≡ None

abbrev pub OwnPlayCostsNothing : Type 0
OwnPlayCostsNothing = (table : PayTable) (coin : ℕ) → IsTable table → CostsNothing table coin
