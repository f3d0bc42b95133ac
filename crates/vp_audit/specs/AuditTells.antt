-- What the text of `audit` tells.
use Rattle.std.specs.Prelude.{◌≡◌, ℕ, ◌+◌, ◌-◌, ◌<◌, ◌≤◌, List, None, Some, Ok, slice_index_or, sum_by}
use Rattle.vp_text.specs.Written.{written}
use Rattle.vp_pay.specs.declared.table.PayTable.{PayTable}
use Rattle.vp_sets.specs.Sets.{choose}
use Rattle.vp_suit.specs.Classes.{IsDeal, representative}
use Rattle.vp_draws.specs.Draws.{IsMean, best, sum_of_best, total, value}
use Rattle.vp_rule.specs.Lists.{RuleList}
use Rattle.vp_suit.specs.Laws.{deals}
use Rattle.vp_audit.specs.Audits.{audited, shared_deals, shared_loss}
use Rattle.vp_audit.specs.Laws.{IsChargedJust, IsGreatestAllowed, IsLeastAllowed}
use Rattle.vp_audit.specs.Values.{deciding, excepted, greatest_value, least_value, no_rule}
use Rattle.vp_answer.specs.Answers.{Answer, done}
use Rattle.vp_answer.specs.declared.status.Status.TheVariants.{Done}
use Rattle.vp_audit.specs.Audit.{Listed, audit_due, audit_input, audit_lines}

-- The answer is the lines of a list, the loss among them. It is the sum over all deals of the best values, less that of the least
-- values, none of which exceeds the best value of its deal. Over the common denominator of the deck, the value of each of the 32 holds
-- of a deal is its mean payment over all draws. Where an exception is of a deal's class, the deal is worth what the
-- exception's hold of the representative is; else, where a rule is the first that matches some hold, the least (greatest) value is the
-- least (greatest) among the holds that this rule matches; else the deal is worth what holding nothing is. The deals of the tallies sum
-- to the number of all deals, and their losses to the loss.
pub record PrintsLoss (l : Listed) (due : Answer) : Type 0 where
  pub status : due.status ≡ Done
  pub text : due.text ≡ written (audit_lines l)
  pub loss : (audited l.table l.coin l.list).loss ≡ sum_of_best l.table l.coin - sum_by (least_value l.table l.coin l.list) (deals l.table.deck)
  pub whole : sum_by (least_value l.table l.coin l.list) (deals l.table.deck) + (audited l.table l.coin l.list).loss ≡ sum_of_best l.table l.coin
  pub mean : (cards : List ℕ) → IsDeal l.table.deck cards → (other : ℕ) → other < 32
      → IsMean l.table.deck cards other (total l.table l.coin cards other) (value l.table l.coin cards other)
  pub below : (cards : List ℕ) → IsDeal l.table.deck cards → least_value l.table l.coin l.list cards ≤ best l.table l.coin cards
  pub exceptions : (cards : List ℕ) (mask : ℕ) → excepted l.list.exceptions cards ≡ Some mask
      → IsChargedJust l.table l.coin l.list cards (value l.table l.coin (representative cards) mask)
  pub ruled : (cards : List ℕ) (place : ℕ) → excepted l.list.exceptions cards ≡ None → deciding l.table l.list.rules cards ≡ Some place
      → IsLeastAllowed l.table l.coin (slice_index_or l.list.rules place no_rule) cards (least_value l.table l.coin l.list cards)
  pub greatest : (cards : List ℕ) (place : ℕ) → excepted l.list.exceptions cards ≡ None → deciding l.table l.list.rules cards ≡ Some place
      → IsGreatestAllowed l.table l.coin (slice_index_or l.list.rules place no_rule) cards (greatest_value l.table l.coin l.list cards)
  pub nothing : (cards : List ℕ) → excepted l.list.exceptions cards ≡ None → deciding l.table l.list.rules cards ≡ None
      → IsChargedJust l.table l.coin l.list cards (value l.table l.coin cards 0)
  pub shared : shared_deals (audited l.table l.coin l.list) ≡ choose l.table.deck 5
  pub losses : shared_loss (audited l.table l.coin l.list) ≡ (audited l.table l.coin l.list).loss

-- the text of `audit` to each pay table and list that it takes
abbrev pub AuditsPrintLosses : Type 0
AuditsPrintLosses = (coin : ℕ) (bytes : List ℕ) (table : PayTable) (list : RuleList) → 1 ≤ coin → audit_input coin bytes ≡ Ok (table, list)
    → PrintsLoss (record { table = table; coin = coin; list = list }) (done (audit_due (record { table = table; coin = coin; list = list })).text)
