-- What `audit` prints of each pay table and list that it takes.
use Rattle.std.proofs.Common.{◌≡◌, ℕ, ◌≤◌, List, refl}
use Rattle.std.specs.Prelude.{Ok}
use Rattle.vp_pay.specs.declared.table.PayTable.{PayTable}
use Rattle.vp_rule.specs.Lists.{RuleList}
use Rattle.vp_pay.specs.Bets.{IsBet}
use Rattle.vp_rule.specs.Valid.{IsList}
use Rattle.vp_rule.proofs.Inputs.{lists_read}
use Rattle.vp_audit.specs.Audits.{audited, loss}
use Rattle.vp_audit.proofs.LeastAllowed.{by_exception, by_nothing, ruled, ruled_greatest}
use Rattle.vp_audit.proofs.Shares.{deals_shared, least_at_most, loss_shared, worth_shared}
use Rattle.vp_audit.specs.Audit.{AuditInputsAreRead, Listed, audit_due, audit_input}
use Rattle.vp_audit.specs.AuditTells.{AuditsPrintLosses, PrintsLoss}
use Rattle.vp_answer.specs.Answers.{done}
use Rattle.vp_pay.specs.Inputs.{has_bet}
use Rattle.vp_pay.proofs.FittingBets.{bet_fits}
use Rattle.vp_suit.proofs.TurnedDraws.{dealt_is}
use Rattle.vp_draws.proofs.Values.{value_mean}

-- the list is one for the table, which has the bet
list_found : (coin : ℕ) (bytes : List ℕ) (table : PayTable) (list : RuleList) → 1 ≤ coin → audit_input coin bytes ≡ Ok (table, list) → IsBet table coin × IsList table list
list_found coin bytes table list some says =
    let found = ((lists_read (has_bet coin)).spelled bytes (table, list)).0 says in
    (record { rules = found.0.0; some = some; within = bet_fits coin table.coins found.1 }, found.0.1)

losses_of : (l : Listed) → IsBet l.table l.coin → IsList l.table l.list → PrintsLoss l (done (audit_due l).text)
unfolding audited loss
losses_of l bet valid = record {
  status = refl;
  text = refl;
  loss = refl;
  whole = worth_shared l.table l.coin l.list bet valid;
  mean = λ cards deal other low. value_mean l.table l.coin cards other bet.rules (dealt_is l.table.deck cards deal);
  below = λ cards deal. least_at_most l.table l.coin l.list cards bet valid deal;
  exceptions = by_exception l.table l.coin l.list;
  ruled = ruled l.table l.coin l.list;
  greatest = ruled_greatest l.table l.coin l.list;
  nothing = by_nothing l.table l.coin l.list;
  shared = deals_shared l.table l.coin l.list;
  losses = loss_shared l.table l.coin l.list bet valid;
}

pub losses_printed : AuditsPrintLosses
losses_printed coin bytes table list some says =
    let found = list_found coin bytes table list some says in
    losses_of (record { table = table; coin = coin; list = list }) found.0 found.1

-- what `audit` takes for its input
pub inputs_read : AuditInputsAreRead
inputs_read coin = lists_read (has_bet coin)
