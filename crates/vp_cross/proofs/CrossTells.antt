-- What `cross` prints of each two pay tables that it takes.
use Rattle.std.proofs.Common.{ℕ, List, refl, arith}
use Rattle.vp_pay.specs.Table.{IsTable}
use Rattle.vp_suit.specs.Classes.{IsDeal}
use Rattle.vp_suit.proofs.TurnedDraws.{dealt_is}
use Rattle.vp_draws.specs.Draws.{IsPrintedHold, sum_of_best}
use Rattle.vp_draws.proofs.Printed.{has_printed_hold}
use Rattle.vp_draws.proofs.Values.{value_mean}
use Rattle.vp_cross.specs.Crossings.{costly_classes, costly_deals, sum_of_crossed}
use Rattle.vp_cross.proofs.CostLaws.{none_where_equal, worst_is_worst}
use Rattle.vp_cross.proofs.Costs.{make_up, printed_value}
use Rattle.vp_cross.proofs.Totals.{costs_add_up, never_exceeds}
use Rattle.vp_answer.specs.Answers.{done}
use Rattle.vp_cross.specs.Cross.{Crossing, cross_due, crossed_of}
use Rattle.vp_cross.specs.CrossTells.{CrossesPricePlay, IsCrossedHold, PrintsCross}
use Rattle.vp_cross.proofs.CrossInputs.{crosses_read}

crossed_hold : (c : Crossing) (cards : List ℕ) (mask : ℕ) → IsTable c.priced → IsDeal c.priced.deck cards → IsPrintedHold c.played c.coin cards mask → IsCrossedHold c cards mask
crossed_hold c cards mask known deal hold =
    let worth = printed_value c.played c.priced c.coin mask cards known deal hold in
    record {
      worth = worth;
      mean = value_mean c.priced c.coin cards mask known (dealt_is c.priced.deck cards deal);
      cost = omega (arith, worth, make_up c.played c.priced c.coin cards known.known_deck.0 deal);
    }

prints_cross : (c : Crossing) → IsTable c.priced → PrintsCross c (done (cross_due c).text)
unfolding crossed_of sum_of_crossed sum_of_best costly_classes costly_deals
prints_cross c known = record {
  status = refl;
  text = refl;
  some = λ cards deal. has_printed_hold c.played c.coin c.priced.deck cards deal;
  holds = λ cards mask deal hold. crossed_hold c cards mask known deal hold;
  optimum = refl;
  value = refl;
  loss = omega (arith, costs_add_up c.played c.priced c.coin known);
  classes = refl;
  deals = refl;
  worst = λ w e. worst_is_worst c.played c.priced c.coin known w e;
  none = (
    λ e. omega (arith, (none_where_equal c.played c.priced c.coin known).0 e),
    λ e. (none_where_equal c.played c.priced c.coin known).1 (omega (arith, e, never_exceeds c.played c.priced c.coin known)),
  );
}

pub crosses_price : CrossesPricePlay
crosses_price coin bytes played priced says =
    prints_cross (record { played = played; priced = priced; coin = coin })
    (((crosses_read coin).spelled bytes (played, priced)).0 says).0.1
