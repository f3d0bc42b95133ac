-- The moments of k hands, summed over all deals. The mean and the variance of a sum of independent draws, as in any textbook of
-- probability.
use Rattle.std.specs.Prelude.{◌≡◌, ℕ, ◌+◌, ◌-◌, ◌*◌, List, sum_by}
use Rattle.vp_pay.specs.declared.table.PayTable.{PayTable}
use Rattle.vp_sets.specs.Sets.{choose}
use Rattle.vp_sets.specs.Draws.{common}
use Rattle.vp_suit.specs.Classes.{representative}
use Rattle.vp_suit.specs.Laws.{deals}
use Rattle.vp_draws.specs.Draws.{best, least_best, sum_of_best, value2}

-- the mean square of the payments of a deal's printed holds, over the common denominator: that of the representative's least best hold
unfoldable pub printed_square : PayTable → ℕ → List ℕ → ℕ
printed_square table coin cards = value2 table coin (representative cards) (least_best table coin (representative cards))

-- the square of the value of a deal's printed holds
unfoldable pub squared_value : PayTable → ℕ → List ℕ → ℕ
squared_value table coin cards = best table coin cards * best table coin cards

-- the mean total of k hands from a deal, over the common denominator
unfoldable pub first_moment : PayTable → ℕ → ℕ → List ℕ → ℕ
first_moment table coin k cards = k * best table coin cards

-- the mean square of the total of k hands from a deal, over the square of the common denominator: k squares of one payment, and
-- k * (k - 1) products of two, which are drawn apart
unfoldable pub second_moment : PayTable → ℕ → ℕ → List ℕ → ℕ
second_moment table coin k cards = k * printed_square table coin cards * common table.deck + k * (k - 1) * squared_value table coin cards

-- the variance of one hand from a deal, over the square of the common denominator
unfoldable pub variance_within : PayTable → ℕ → List ℕ → ℕ
variance_within table coin cards = printed_square table coin cards * common table.deck - squared_value table coin cards

-- the mean total of k hands from each deal, summed over all deals
unfoldable pub mean_sum : PayTable → ℕ → ℕ → ℕ
mean_sum table coin k = sum_by (first_moment table coin k) (deals table.deck)

-- the mean square of the total of k hands from each deal, summed over all deals
unfoldable pub second_sum : PayTable → ℕ → ℕ → ℕ
second_sum table coin k = sum_by (second_moment table coin k) (deals table.deck)

-- the variance of one hand from each deal, summed over all deals
unfoldable pub within_sum : PayTable → ℕ → ℕ
within_sum table coin = sum_by (variance_within table coin) (deals table.deck)

-- the variance over all deals of the value of the deal, times the square of the number of deals
unfoldable pub between_sum : PayTable → ℕ → ℕ
between_sum table coin = choose table.deck 5 * sum_by (squared_value table coin) (deals table.deck) - sum_of_best table coin * sum_of_best table coin

-- the sums over all deals of value, mean square and squared value, of which all moments are made
pub record ArePowerSums (table : PayTable) (coin a s q : ℕ) : Type 0 where
  pub values : a ≡ sum_of_best table coin
  pub squares : s ≡ sum_by (printed_square table coin) (deals table.deck)
  pub squared_values : q ≡ sum_by (squared_value table coin) (deals table.deck)
