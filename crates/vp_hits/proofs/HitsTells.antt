-- What `hits` prints of each pay table that it takes.
use Rattle.std.proofs.Common.{ℕ, List, Option, refl}
use Rattle.vp_pay.specs.Bets.{Bet}
use Rattle.vp_pay.specs.Inputs.{has_bet}
use Rattle.vp_pay.specs.Table.{IsTable}
use Rattle.vp_pay.specs.declared.table.PayTable.{PayTable}
use Rattle.vp_pay.proofs.Inputs.{tables_read}
use Rattle.vp_suit.specs.Classes.{IsDeal}
use Rattle.vp_suit.proofs.TurnedDraws.{dealt_is}
use Rattle.vp_draws.specs.Draws.{IsMean, IsPrintedHold}
use Rattle.vp_draws.proofs.Printed.{has_printed_hold, printed_best}
use Rattle.vp_draws.proofs.Values.{scaled_mean}
use Rattle.vp_answer.specs.Answers.{done}
use Rattle.vp_hits.specs.Hits.{chance, hits}
use Rattle.vp_hits.specs.HitsJob.{hits_due}
use Rattle.vp_hits.specs.HitsTells.{HasChances, HitsPrintChances, PrintsChances}
use Rattle.vp_hits.proofs.Printed.{printed_alike}
use Rattle.vp_hits.proofs.Shares.{lines_make_the_return, lines_share_out_draws}

-- what the hits are scaled to is the share of the draws that end so
hits_share : (table : PayTable) (place : Option ℕ) (cards : List ℕ) (mask : ℕ) → IsTable table → IsDeal table.deck cards → IsMean table.deck cards mask (hits table place cards mask) (chance table place cards mask)
unfolding chance
hits_share table place cards mask known deal = scaled_mean table.deck cards mask (hits table place cards mask) known.known_deck (dealt_is table.deck cards deal)

deal_chances : (b : Bet) (cards : List ℕ) (mask : ℕ) → IsTable b.table → IsDeal b.table.deck cards → IsPrintedHold b.table b.coin cards mask → HasChances b cards mask
deal_chances b cards mask known deal hold = record {
  best = printed_best b.table b.coin cards mask known.known_deck.0 deal hold;
  share = λ place. hits_share b.table place cards mask known deal;
  alike = λ place. printed_alike b.table b.coin place cards mask known deal hold;
}

prints_chances : (b : Bet) → IsTable b.table → PrintsChances b (done (hits_due b).text)
prints_chances b known = record {
  status = refl;
  text = refl;
  some = λ cards deal. has_printed_hold b.table b.coin b.table.deck cards deal;
  holds = λ cards mask deal hold. deal_chances b cards mask known deal hold;
  shares = lines_share_out_draws b.table b.coin known;
  return = lines_make_the_return b.table b.coin known;
}

pub hits_print : HitsPrintChances
hits_print coin bytes table says =
    prints_chances (record { table = table; coin = coin })
    (((tables_read (has_bet coin)).spelled bytes (table, tt)).0 says).0
