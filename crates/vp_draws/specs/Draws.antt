-- What the holds of a hand are worth. The expected payment of a hold is that of S. N. Ethier, The Doctrine of Chances (2010), in its
-- chapter on video poker: the mean of the payments over all draws, each as likely as the others.
use Rattle.std.specs.Prelude.{◌≡◌, ℕ, ◌*◌, ◌<◌, ◌≤◌, max, ◌==◌, List, [], ◌∷◌, length, find, unwrap_or, sum_by, count_by}
use Rattle.std.specs.List.{range_with_len}
use Rattle.vp_pay.specs.declared.table.PayTable.{PayTable}
use Rattle.vp_wild.specs.Payment.{pay}
use Rattle.vp_sets.specs.Sets.{choose, combos, deck}
use Rattle.vp_sets.specs.Draws.{common, discarded, draws, scale, sum_over_draws}
use Rattle.vp_suit.specs.Classes.{representative}
use Rattle.vp_suit.specs.Turns.{carried, turn}

-- the sum of the payments over all draws of a hold
unfoldable pub total : PayTable → ℕ → List ℕ → ℕ → ℕ
total table coin hand mask = sum_over_draws (pay table coin) table.deck hand mask

-- the expected payment of a hold, times the common denominator of the deck
unfoldable pub value : PayTable → ℕ → List ℕ → ℕ → ℕ
value table coin hand mask = total table coin hand mask * scale table.deck (length (discarded mask hand))

-- the sum of the squares of the payments over all draws of a hold
unfoldable pub total2 : PayTable → ℕ → List ℕ → ℕ → ℕ
total2 table coin hand mask = sum_over_draws (λ final. pay table coin final * pay table coin final) table.deck hand mask

-- the mean square of the payments of a hold, times the common denominator of the deck
unfoldable pub value2 : PayTable → ℕ → List ℕ → ℕ → ℕ
value2 table coin hand mask = total2 table coin hand mask * scale table.deck (length (discarded mask hand))

-- worth over the common denominator of the deck is the mean over all draws of a hold, where sum is the sum over them
abbrev pub IsMean : ℕ → List ℕ → ℕ → ℕ → ℕ → Type 0
IsMean n hand mask sum worth = worth * length (draws n hand mask) ≡ sum * common n

-- the masks of the 32 holds
unfoldable pub masks : List ℕ
masks = range_with_len 0 32

-- the greatest of the numbers that f gives for a list
unfoldable pub greatest : (ℕ → ℕ) → List ℕ → ℕ
greatest f [] = 0
greatest f (x ∷ xs) = max (f x) (greatest f xs)

-- the greatest value of the 32 holds
unfoldable pub best : PayTable → ℕ → List ℕ → ℕ
best table coin hand = greatest (value table coin hand) masks

-- the least mask that has the greatest value
unfoldable pub least_best : PayTable → ℕ → List ℕ → ℕ
least_best table coin hand = unwrap_or (find (λ mask. value table coin hand mask == best table coin hand) masks) 0

-- how many masks have the greatest value
unfoldable pub ties : PayTable → ℕ → List ℕ → ℕ
ties table coin hand = count_by (λ mask. value table coin hand mask == best table coin hand) masks

-- the sum of the greatest values over all deals: the mean of the best expected payment, times the number of deals and the common denominator
unfoldable pub sum_of_best : PayTable → ℕ → ℕ
sum_of_best table coin = sum_by (best table coin) (combos 5 (deck table.deck))

-- a printed hold of a hand with its value: the value over the common denominator is the mean payment over all draws, as it is for each
-- of the 32 holds; none of them is worth more, and each of a smaller mask is worth less
pub record IsPrinted (table : PayTable) (coin : ℕ) (hand : List ℕ) (mask top : ℕ) : Type 0 where
  pub hold : mask < 32
  pub worth : value table coin hand mask ≡ top
  pub mean : (other : ℕ) → other < 32 → IsMean table.deck hand other (total table coin hand other) (value table coin hand other)
  pub greatest : (other : ℕ) → other < 32 → value table coin hand other ≤ top
  pub least : (other : ℕ) → other < mask → value table coin hand other < top

-- a printed hold of a deal: a turn of the suits makes the deal the representative of its class, and carries the hold to the least
-- best hold of that
pub record IsPrintedHold (table : PayTable) (coin : ℕ) (cards : List ℕ) (mask : ℕ) : Type 0 where
  pub turning : ℕ
  pub within : turning < 24
  pub deal : turn turning cards ≡ representative cards
  pub hold : carried turning cards mask ≡ least_best table coin (representative cards)

-- over what a return stands: the number of deals from a deck of n, times the common denominator, times the bet
unfoldable pub return_denominator : ℕ → ℕ → ℕ
return_denominator n coin = choose n 5 * common n * coin
