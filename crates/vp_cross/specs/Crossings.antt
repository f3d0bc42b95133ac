-- What the holds that are printed for one table cost on another table: the first is played, and the second prices. A cost is the difference
-- of two expected payments (vp_draws, Draws); which hold is played is this program's own rule (docs/FORMATS.md, `vpoker cross`).
use Rattle.std.specs.Prelude.{ℕ, ◌-◌, Bool, if◌then◌else◌, ◌==◌, nat_lt, max, List, [], ◌∷◌, Option, None, option_map, find, sum_by, count_by}
use Rattle.vp_pay.specs.declared.table.PayTable.{PayTable}
use Rattle.vp_suit.specs.Classes.{representative, representatives}
use Rattle.vp_suit.specs.Laws.{deals}
use Rattle.vp_draws.specs.Draws.{best, least_best, value}
use Rattle.vp_cross.specs.declared.crossed.Worst.{Worst}

-- the crossed value of a deal: what the hold that the first table prints for the representative of its class is worth on the second
unfoldable pub crossed_value : PayTable → PayTable → ℕ → List ℕ → ℕ
crossed_value played priced coin cards = value priced coin (representative cards) (least_best played coin (representative cards))

-- what a deal costs by that: the second table's best value less the crossed value
unfoldable pub cost : PayTable → PayTable → ℕ → List ℕ → ℕ
cost played priced coin cards = best priced coin cards - crossed_value played priced coin cards

-- the deal costs something
abbrev pub costs : PayTable → PayTable → ℕ → List ℕ → Bool
costs played priced coin cards = nat_lt 0 (cost played priced coin cards)

-- the sum of the crossed values over all deals
unfoldable pub sum_of_crossed : PayTable → PayTable → ℕ → ℕ
sum_of_crossed played priced coin = sum_by (crossed_value played priced coin) (deals priced.deck)

-- how many classes, and how many deals, cost something
unfoldable pub costly_classes : PayTable → PayTable → ℕ → ℕ
costly_classes played priced coin = count_by (costs played priced coin) (representatives priced.deck)

unfoldable pub costly_deals : PayTable → PayTable → ℕ → ℕ
costly_deals played priced coin = count_by (costs played priced coin) (deals priced.deck)

-- the greatest of the numbers that f gives for some deals
unfoldable pub most : (List ℕ → ℕ) → List (List ℕ) → ℕ
most f [] = 0
most f (cards ∷ more) = max (f cards) (most f more)

-- the first of some deals, of those that cost most, by a cost; None where none costs anything
unfoldable pub costliest : (List ℕ → ℕ) → List (List ℕ) → Option (List ℕ)
costliest f some = if nat_lt 0 (most f some) then find (λ cards. f cards == most f some) some else None

-- a class by its representative: the first table's least best mask, the second's, and what the class costs
abbrev pub priced_class : PayTable → PayTable → ℕ → List ℕ → Worst
priced_class played priced coin cards = record {
  hand = cards;
  mask = least_best played coin cards;
  best = least_best priced coin cards;
  cost = cost played priced coin cards;
}

-- the class that costs most, of equal ones that of least index
unfoldable pub worst : PayTable → PayTable → ℕ → Option Worst
worst played priced coin = option_map (priced_class played priced coin) (costliest (cost played priced coin) (representatives priced.deck))
