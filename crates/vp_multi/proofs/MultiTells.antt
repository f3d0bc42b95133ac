-- What `multi` prints of each pay table that it takes.
use Rattle.std.proofs.Common.{ℕ, List, refl}
use Rattle.vp_pay.specs.Table.{IsTable}
use Rattle.vp_suit.specs.Classes.{IsDeal}
use Rattle.vp_draws.specs.Draws.{IsPrintedHold}
use Rattle.vp_draws.proofs.Printed.{has_printed_hold}
use Rattle.vp_multi.specs.Sums.{mean_sum, second_sum, within_sum}
use Rattle.vp_multi.proofs.DealMoments.{moments_are_unique, moments_exist, within_fits}
use Rattle.vp_multi.proofs.DeckSums.{variance_has_two_parts}
use Rattle.vp_multi.proofs.Printed.{printed_alike}
use Rattle.vp_answer.specs.Answers.{done}
use Rattle.vp_pay.specs.Inputs.{has_bet}
use Rattle.vp_pay.proofs.Inputs.{tables_read}
use Rattle.vp_multi.specs.Multi.{Drawn, moments_of, multi_due}
use Rattle.vp_multi.specs.MultiTells.{HasMoments, MultisPrintMoments, PrintsMoments}

-- the moments of a deal
deal_moments : (d : Drawn) (cards : List ℕ) (mask : ℕ) → IsTable d.table → IsDeal d.table.deck cards → IsPrintedHold d.table d.coin cards mask → HasMoments d cards mask
deal_moments d cards mask known deal hold = record {
  best = (printed_alike d.table d.coin cards mask known deal hold).0;
  square = (printed_alike d.table d.coin cards mask known deal hold).1;
  square_of_mean = within_fits d.table d.coin cards known deal;
  exist = moments_exist d.table d.coin d.hands cards mask known deal hold;
  unique = λ first second are. moments_are_unique d.table d.coin d.hands cards mask first second known deal hold are;
}

prints_moments : (d : Drawn) → IsTable d.table → PrintsMoments d (done (multi_due d).text)
unfolding moments_of mean_sum second_sum within_sum
prints_moments d known = record {
  status = refl;
  text = refl;
  some = λ cards deal. has_printed_hold d.table d.coin d.table.deck cards deal;
  holds = λ cards mask deal hold. deal_moments d cards mask known deal hold;
  mean = refl;
  second = refl;
  within = refl;
  variance = variance_has_two_parts d.table d.coin d.hands known;
}

pub multis_print : MultisPrintMoments
multis_print coin hands bytes table says =
    prints_moments (record { table = table; coin = coin; hands = hands })
    (((tables_read (has_bet coin)).spelled bytes (table, tt)).0 says).0
