-- What the text of `deal` tells.
use Rattle.std.specs.Prelude.{◌≡◌, ◌≤◌, ℕ, List, Ok}
use Rattle.vp_text.specs.Written.{written}
use Rattle.vp_pay.specs.declared.table.PayTable.{PayTable}
use Rattle.vp_draws.specs.Draws.{IsPrinted}
use Rattle.vp_answer.specs.Answers.{Answer, done}
use Rattle.vp_answer.specs.declared.status.Status.TheVariants.{Done}
use Rattle.vp_deal.specs.Deal.{Dealt, best_of, deal_due, deal_input, deal_lines}

-- the answer is the four lines of a hand. The hold that it prints has an expected payment that no other of the 32 holds exceeds, and
-- its printed value over the common denominator is that payment
pub record PrintsHold (d : Dealt) (due : Answer) : Type 0 where
  pub status : due.status ≡ Done
  pub text : due.text ≡ written (deal_lines d)
  pub printed : IsPrinted d.table d.coin d.hand (best_of d).mask (best_of d).value

-- the text of `deal` to each pay table and deal that it takes
abbrev pub DealsPrintBestHolds : Type 0
DealsPrintBestHolds = (coin : ℕ) (bytes : List ℕ) (table : PayTable) (hand : List ℕ) → deal_input coin bytes ≡ Ok (table, hand)
    → PrintsHold (record { table = table; coin = coin; hand = hand }) (done (deal_due (record { table = table; coin = coin; hand = hand })).text)
