-- What the text of `multi` tells.
use Rattle.std.specs.Prelude.{◌≡◌, ℕ, ◌+◌, ◌*◌, ◌<◌, ◌≤◌, List, Ok, sum_by}
use Rattle.vp_text.specs.Written.{written}
use Rattle.vp_pay.specs.declared.table.PayTable.{PayTable}
use Rattle.vp_sets.specs.Draws.{common}
use Rattle.vp_sets.specs.Sets.{choose}
use Rattle.vp_suit.specs.Classes.{IsDeal}
use Rattle.vp_draws.specs.Draws.{IsPrintedHold, best, value, value2}
use Rattle.vp_multi.specs.Moments.{AreMoments}
use Rattle.vp_suit.specs.Laws.{deals}
use Rattle.vp_multi.specs.Sums.{first_moment, printed_square, second_moment, squared_value, variance_within}
use Rattle.vp_answer.specs.Answers.{Answer, done}
use Rattle.vp_answer.specs.declared.status.Status.TheVariants.{Done}
use Rattle.vp_multi.specs.Multi.{Drawn, moments_of, multi_due, multi_input, multi_lines}

-- a printed hold of a deal, to which several hands are drawn: none of the 32 holds is worth more, its mean square is the deal's and no
-- less than the square of its mean, and over all lists of draws the moments of the total payment are these numbers and no others
pub record HasMoments (d : Drawn) (cards : List ℕ) (mask : ℕ) : Type 0 where
  pub best : value d.table d.coin cards mask ≡ best d.table d.coin cards
  pub square : value2 d.table d.coin cards mask ≡ printed_square d.table d.coin cards
  pub square_of_mean : squared_value d.table d.coin cards
      ≤ printed_square d.table d.coin cards * common d.table.deck
  pub exist : AreMoments d.table d.coin d.hands cards mask
      (first_moment d.table d.coin d.hands cards)
      (second_moment d.table d.coin d.hands cards)
  pub unique : (first second : ℕ)
      → AreMoments d.table d.coin d.hands cards mask first second
      → (first ≡ first_moment d.table d.coin d.hands cards)
      × (second ≡ second_moment d.table d.coin d.hands cards)

-- The answer is the four lines of the moments. Each deal has a printed hold, and each printed hold has the deal's moments; the printed
-- mean, second moment and variance within are their sums over all deals; and the variance of k hands, which is what the second moment
-- times the number of deals exceeds the square of the mean, is k times that within the draws of a deal and k * k times that between the
-- deals
pub record PrintsMoments (d : Drawn) (due : Answer) : Type 0 where
  pub status : due.status ≡ Done
  pub text : due.text ≡ written (multi_lines d)
  pub some : (cards : List ℕ) → IsDeal d.table.deck cards
      → (mask : ℕ) × (mask < 32) × IsPrintedHold d.table d.coin cards mask
  pub holds : (cards : List ℕ) (mask : ℕ) → IsDeal d.table.deck cards
      → IsPrintedHold d.table d.coin cards mask → HasMoments d cards mask
  pub mean : (moments_of d).mean
      ≡ sum_by (first_moment d.table d.coin d.hands) (deals d.table.deck)
  pub second : (moments_of d).second
      ≡ sum_by (second_moment d.table d.coin d.hands) (deals d.table.deck)
  pub within : (moments_of d).within
      ≡ sum_by (variance_within d.table d.coin) (deals d.table.deck)
  pub variance : choose d.table.deck 5 * (moments_of d).second
      ≡ (moments_of d).mean * (moments_of d).mean
      + (d.hands * (choose d.table.deck 5 * (moments_of d).within)
      + d.hands * d.hands * (moments_of d).between)

-- the text of `multi` to each pay table that it takes
abbrev pub MultisPrintMoments : Type 0
MultisPrintMoments = (coin hands : ℕ) (bytes : List ℕ) (table : PayTable)
    → multi_input coin bytes ≡ Ok (table, tt)
    → PrintsMoments (record { table = table; coin = coin; hands = hands })
    (done (multi_due (record { table = table; coin = coin; hands = hands })).text)
