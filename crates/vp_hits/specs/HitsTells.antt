-- What the text of `hits` tells.
use Rattle.std.specs.Prelude.{◌≡◌, ℕ, ◌+◌, ◌*◌, ◌<◌, List, Option, Some, None, Ok, slice_index}
use Rattle.vp_text.specs.Written.{written}
use Rattle.vp_pay.specs.Bets.{Bet}
use Rattle.vp_pay.specs.declared.table.PayTable.{PayTable}
use Rattle.vp_sets.specs.Draws.{common}
use Rattle.vp_sets.specs.Sets.{choose}
use Rattle.vp_suit.specs.Classes.{IsDeal}
use Rattle.vp_draws.specs.Draws.{IsMean, IsPrintedHold, best, sum_of_best, value}
use Rattle.vp_hits.specs.Hits.{chance, hits, often, payments, printed_chance}
use Rattle.vp_hits.specs.Laws.{over_lines}
use Rattle.vp_answer.specs.Answers.{Answer, done}
use Rattle.vp_answer.specs.declared.status.Status.TheVariants.{Done}
use Rattle.vp_hits.specs.HitsJob.{hits_due, hits_input, hits_lines}

-- a printed hold of a deal: none of the 32 holds is worth more; of each line, and of none, its chance over the common denominator is exactly
-- the share of its draws that end so; and that is the chance of the deal
pub record HasChances (b : Bet) (cards : List ℕ) (mask : ℕ) : Type 0 where
  pub best : value b.table b.coin cards mask ≡ best b.table b.coin cards
  pub share : (place : Option ℕ) → IsMean b.table.deck cards mask
      (hits b.table place cards mask)
      (chance b.table place cards mask)
  pub alike : (place : Option ℕ)
      → chance b.table place cards mask ≡ printed_chance b.table b.coin place cards

-- The answer is a line for each pay line, and two more. Each deal has a printed hold, and each printed hold has the deal's chances, whose
-- sums over all deals are printed; all lines and none share out all draws, and what the lines pay is the printed return
pub record PrintsChances (b : Bet) (due : Answer) : Type 0 where
  pub status : due.status ≡ Done
  pub text : due.text ≡ written (hits_lines b)
  pub some : (cards : List ℕ) → IsDeal b.table.deck cards
      → (mask : ℕ) × (mask < 32) × IsPrintedHold b.table b.coin cards mask
  pub holds : (cards : List ℕ) (mask : ℕ) → IsDeal b.table.deck cards
      → IsPrintedHold b.table b.coin cards mask → HasChances b cards mask
  pub shares : over_lines b.table (λ place. often b.table b.coin (Some place))
      + often b.table b.coin None
      ≡ choose b.table.deck 5 * common b.table.deck
  pub return : over_lines b.table (λ place.
      slice_index (payments b.table b.coin) place * often b.table b.coin (Some place))
      ≡ sum_of_best b.table b.coin

-- the text of `hits` to each pay table that it takes
abbrev pub HitsPrintChances : Type 0
HitsPrintChances = (coin : ℕ) (bytes : List ℕ) (table : PayTable)
    → hits_input coin bytes ≡ Ok (table, tt)
    → PrintsChances (record { table = table; coin = coin })
    (done (hits_due (record { table = table; coin = coin })).text)
