-- What the text of `cross` tells.
use Rattle.std.specs.Prelude.{◌≡◌, ◌↔◌, ℕ, ◌+◌, ◌-◌, ◌<◌, List, None, Some, Ok, count_by, sum_by}
use Rattle.vp_text.specs.Written.{written}
use Rattle.vp_pay.specs.declared.table.PayTable.{PayTable}
use Rattle.vp_suit.specs.Classes.{IsDeal, representatives}
use Rattle.vp_suit.specs.Laws.{deals}
use Rattle.vp_draws.specs.Draws.{IsMean, IsPrintedHold, best, total, value}
use Rattle.vp_cross.specs.Crossings.{cost, costs, crossed_value}
use Rattle.vp_cross.specs.Laws.{IsWorst}
use Rattle.vp_cross.specs.declared.crossed.Worst.{Worst}
use Rattle.vp_answer.specs.Answers.{Answer, done}
use Rattle.vp_answer.specs.declared.status.Status.TheVariants.{Done}
use Rattle.vp_cross.specs.Cross.{Crossing, cross_due, cross_input, cross_lines, crossed_of}

-- a hold that the first table prints for a deal: on the second it is worth the crossed value, which over the common denominator is its
-- mean payment there over all draws, and the best of the 32 holds is worth more by the cost
pub record IsCrossedHold (c : Crossing) (cards : List ℕ) (mask : ℕ) : Type 0 where
  pub worth : value c.priced c.coin cards mask ≡ crossed_value c.played c.priced c.coin cards
  pub mean : IsMean c.priced.deck cards mask
      (total c.priced c.coin cards mask)
      (value c.priced c.coin cards mask)
  pub cost : value c.priced c.coin cards mask + cost c.played c.priced c.coin cards
      ≡ best c.priced c.coin cards

-- The answer are the lines of the sums, of how many classes and deals cost something, and of the class that costs most. Each deal has a
-- hold that the first table prints, and each such hold is a crossed hold; the printed sums are those of the best values, of the crossed
-- values and of the costs, over all deals; the printed numbers are those of the classes and of the deals that cost something, on which
-- the best hold is worth more than the crossed one. The worst class costs most, and there is none exactly where nothing is lost
pub record PrintsCross (c : Crossing) (due : Answer) : Type 0 where
  pub status : due.status ≡ Done
  pub text : due.text ≡ written (cross_lines c)
  pub some : (cards : List ℕ) → IsDeal c.priced.deck cards
      → (mask : ℕ) × (mask < 32) × IsPrintedHold c.played c.coin cards mask
  pub holds : (cards : List ℕ) (mask : ℕ) → IsDeal c.priced.deck cards
      → IsPrintedHold c.played c.coin cards mask → IsCrossedHold c cards mask
  pub optimum : (crossed_of c).optimum ≡ sum_by (best c.priced c.coin) (deals c.priced.deck)
  pub value : (crossed_of c).value
      ≡ sum_by (crossed_value c.played c.priced c.coin) (deals c.priced.deck)
  pub loss : (crossed_of c).optimum - (crossed_of c).value
      ≡ sum_by (cost c.played c.priced c.coin) (deals c.priced.deck)
  pub classes : (crossed_of c).classes
      ≡ count_by (costs c.played c.priced c.coin) (representatives c.priced.deck)
  pub deals : (crossed_of c).deals
      ≡ count_by (costs c.played c.priced c.coin) (deals c.priced.deck)
  pub worst : (w : Worst) → (crossed_of c).worst ≡ Some w → IsWorst c.played c.priced c.coin w
  pub none : ((crossed_of c).worst ≡ None) ↔ ((crossed_of c).optimum - (crossed_of c).value ≡ 0)

-- the text of `cross` to each two pay tables that it takes
abbrev pub CrossesPricePlay : Type 0
CrossesPricePlay = (coin : ℕ) (bytes : List ℕ) (played priced : PayTable)
    → cross_input coin bytes ≡ Ok (played, priced)
    → PrintsCross (record { played = played; priced = priced; coin = coin })
    (done (cross_due (record { played = played; priced = priced; coin = coin })).text)
