-- What the moments of several hands are, and what they obey. The variance is that within deals and that between deals, as in any textbook
-- of probability.
use Rattle.std.specs.Prelude.{◌≡◌, ℕ, ◌+◌, ◌*◌, List}
use Rattle.vp_pay.specs.declared.table.PayTable.{PayTable}
use Rattle.vp_pay.specs.Table.{IsTable}
use Rattle.vp_sets.specs.Sets.{choose}
use Rattle.vp_suit.specs.Classes.{IsDeal}
use Rattle.vp_draws.specs.Draws.{IsPrintedHold, best, value, value2}
use Rattle.vp_multi.specs.Moments.{AreMoments}
use Rattle.vp_multi.specs.Sums.{printed_square, first_moment, second_moment, mean_sum, second_sum, within_sum, between_sum}

-- each printed hold of a deal has the greatest value, and all of them the same mean square
abbrev pub PrintedAlike : Type 0
PrintedAlike = (table : PayTable) (coin : ℕ) (cards : List ℕ) (mask : ℕ) → IsTable table → IsDeal table.deck cards → IsPrintedHold table coin cards mask
    → (value table coin cards mask ≡ best table coin cards) × (value2 table coin cards mask ≡ printed_square table coin cards)

-- whatever printed hold is drawn to, the moments of k hands from a deal are these numbers
abbrev pub MomentsExist : Type 0
MomentsExist = (table : PayTable) (coin k : ℕ) (cards : List ℕ) (mask : ℕ) → IsTable table → IsDeal table.deck cards → IsPrintedHold table coin cards mask
    → AreMoments table coin k cards mask (first_moment table coin k cards) (second_moment table coin k cards)

-- and no others
abbrev pub MomentsAreUnique : Type 0
MomentsAreUnique = (table : PayTable) (coin k : ℕ) (cards : List ℕ) (mask first second : ℕ) → IsTable table → IsDeal table.deck cards → IsPrintedHold table coin cards mask
    → AreMoments table coin k cards mask first second → (first ≡ first_moment table coin k cards) × (second ≡ second_moment table coin k cards)

-- the variance of k hands is k times that within the draws of a deal and k * k times that between the deals: over the square of the
-- number of deals and of the common denominator
abbrev pub VarianceHasTwoParts : Type 0
VarianceHasTwoParts = (table : PayTable) (coin k : ℕ) → IsTable table
    → choose table.deck 5 * second_sum table coin k ≡ mean_sum table coin k * mean_sum table coin k + (k * (choose table.deck 5 * within_sum table coin) + k * k * between_sum table coin)
