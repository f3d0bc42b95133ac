-- The values that a rule allows for a deal, and what holds of the values of lists, for all deals.
use Rattle.std.specs.Prelude.{◌≡◌, ◌↔◌, ℕ, ◌+◌, ◌<◌, ◌≤◌, true, List, length, None, Some, slice_index_or, sum_by}
use Rattle.vp_sets.specs.Sets.{choose}
use Rattle.vp_suit.specs.Classes.{IsDeal, representative, representatives}
use Rattle.vp_suit.specs.Turns.{turn}
use Rattle.vp_pay.specs.declared.table.PayTable.{PayTable}
use Rattle.vp_pay.specs.Bets.{IsBet}
use Rattle.vp_draws.specs.Draws.{best, sum_of_best, value}
use Rattle.vp_rule.specs.Holds.{matches}
use Rattle.vp_rule.specs.Lists.{RuleList, RulePool}
use Rattle.vp_rule.specs.Valid.{IsList, IsPool}
use Rattle.vp_rule.specs.declared.rule.Rule.{Rule}
use Rattle.vp_compile.specs.Excepted.{ArePlaces, loss_left}
use Rattle.vp_compile.specs.Matrices.{IsOrder}
use Rattle.vp_compile.specs.Rows.{order_loss, worth_at_best}
use Rattle.vp_suit.specs.Laws.{deals}
use Rattle.vp_audit.specs.Audits.{audited, loss, shared_deals, shared_loss}
use Rattle.vp_audit.specs.Compiled.{compiled_list, ordered_list, pool_rows}
use Rattle.vp_audit.specs.Values.{decided, deciding, excepted, greatest_value, least_value, no_rule}

-- some hold of the deal that the rule matches has this value
pub record Allows (table : PayTable) (coin : ℕ) (rule : Rule) (cards : List ℕ) (worth : ℕ) : Type 0 where
  pub mask : ℕ
  pub low : mask < 32
  pub matched : matches table rule cards mask ≡ true
  pub valued : value table coin cards mask ≡ worth

-- some hold of the deal that the rule matches has this value, and none that it matches has a lower one
pub record IsLeastAllowed (table : PayTable) (coin : ℕ) (rule : Rule) (cards : List ℕ) (worth : ℕ) : Type 0 where
  pub allowed : Allows table coin rule cards worth
  pub least : (other : ℕ) → Allows table coin rule cards other → worth ≤ other

-- some hold of the deal that the rule matches has this value, and none that it matches has a higher one
pub record IsGreatestAllowed (table : PayTable) (coin : ℕ) (rule : Rule) (cards : List ℕ) (worth : ℕ) : Type 0 where
  pub allowed : Allows table coin rule cards worth
  pub greatest : (other : ℕ) → Allows table coin rule cards other → other ≤ worth

-- ---- deals of one class: what the turns of the suits make of a deal

-- the values of the holds that a rule matches are the same
abbrev pub AllowedByClasses : Type 0
AllowedByClasses =
    (t coin worth : ℕ) (table : PayTable) (rule : Rule) (cards : List ℕ) → 52 ≤ table.deck → t < 24 → IsDeal table.deck cards
    → Allows table coin rule (turn t cards) worth ↔ Allows table coin rule cards worth

-- what decides a deal is the same
abbrev pub DecidedByClasses : Type 0
DecidedByClasses =
    (t : ℕ) (table : PayTable) (list : RuleList) (cards : List ℕ) → 52 ≤ table.deck → t < 24 → IsDeal table.deck cards
    → decided table list (turn t cards) ≡ decided table list cards

-- the least value under a list is the same
abbrev pub LeastByClasses : Type 0
LeastByClasses =
    (t coin : ℕ) (table : PayTable) (list : RuleList) (cards : List ℕ) → 52 ≤ table.deck → t < 24 → IsDeal table.deck cards
    → least_value table coin list (turn t cards) ≡ least_value table coin list cards

-- the greatest value under a list is the same
abbrev pub GreatestByClasses : Type 0
GreatestByClasses =
    (t coin : ℕ) (table : PayTable) (list : RuleList) (cards : List ℕ) → 52 ≤ table.deck → t < 24 → IsDeal table.deck cards
    → greatest_value table coin list (turn t cards) ≡ greatest_value table coin list cards

-- ---- what a list is charged for a deal

-- where no exception is one of the deal's class, the least value under a list is the least that the deciding rule allows
abbrev pub RulesChargeTheLeast : Type 0
RulesChargeTheLeast =
    (table : PayTable) (coin : ℕ) (list : RuleList) (cards : List ℕ) (place : ℕ)
    → excepted list.exceptions cards ≡ None → deciding table list.rules cards ≡ Some place
    → IsLeastAllowed table coin (slice_index_or list.rules place no_rule) cards (least_value table coin list cards)

-- and the greatest value is the greatest that it allows
abbrev pub RulesAllowTheGreatest : Type 0
RulesAllowTheGreatest =
    (table : PayTable) (coin : ℕ) (list : RuleList) (cards : List ℕ) (place : ℕ)
    → excepted list.exceptions cards ≡ None → deciding table list.rules cards ≡ Some place
    → IsGreatestAllowed table coin (slice_index_or list.rules place no_rule) cards (greatest_value table coin list cards)

-- the least and the greatest value of a deal under a list are both this one
pub record IsChargedJust (table : PayTable) (coin : ℕ) (list : RuleList) (cards : List ℕ) (worth : ℕ) : Type 0 where
  pub least : least_value table coin list cards ≡ worth
  pub greatest : greatest_value table coin list cards ≡ worth

-- where an exception is of the deal's class, with this mask, the deal is worth what the representative's hold of this mask is worth
abbrev pub ExceptionsChargeTheirHold : Type 0
ExceptionsChargeTheirHold =
    (table : PayTable) (coin : ℕ) (list : RuleList) (cards : List ℕ) (mask : ℕ)
    → excepted list.exceptions cards ≡ Some mask
    → IsChargedJust table coin list cards (value table coin (representative cards) mask)

-- where no exception is one of the deal's class and no rule matches a hold, the deal is worth what holding nothing is worth
abbrev pub NothingChargesHoldingNothing : Type 0
NothingChargesHoldingNothing =
    (table : PayTable) (coin : ℕ) (list : RuleList) (cards : List ℕ)
    → excepted list.exceptions cards ≡ None → deciding table list.rules cards ≡ None
    → IsChargedJust table coin list cards (value table coin cards 0)

-- ---- the loss of a list, and what it is made of

-- the least value of a deal is no more than its best one
abbrev pub LeastIsAtMostTheBest : Type 0
LeastIsAtMostTheBest =
    (table : PayTable) (coin : ℕ) (list : RuleList) (cards : List ℕ) → IsBet table coin → IsList table list → IsDeal table.deck cards
    → least_value table coin list cards ≤ best table coin cards

-- the least values of all deals and the loss are together the best values of all deals
abbrev pub LeastAndLossAreTheBest : Type 0
LeastAndLossAreTheBest =
    (table : PayTable) (coin : ℕ) (list : RuleList) → IsBet table coin → IsList table list
    → sum_by (least_value table coin list) (deals table.deck) + loss table coin list ≡ sum_of_best table coin

-- the deals of the tallies are together as many as all deals
abbrev pub DealsAreSharedOut : Type 0
DealsAreSharedOut =
    (table : PayTable) (coin : ℕ) (list : RuleList)
    → shared_deals (audited table coin list) ≡ choose table.deck 5

-- the losses of the tallies are together the loss
abbrev pub LossIsSharedOut : Type 0
LossIsSharedOut =
    (table : PayTable) (coin : ℕ) (list : RuleList) → IsBet table coin → IsList table list
    → shared_loss (audited table coin list) ≡ loss table coin list

-- ---- orders of a pool's rules, and the lists that are made of them

-- at best, the classes are worth together what all deals are
abbrev pub RowsAreWorthTheBest : Type 0
RowsAreWorthTheBest =
    (table : PayTable) (coin : ℕ) (rules : List Rule) → IsBet table coin
    → worth_at_best (pool_rows table coin rules) ≡ sum_of_best table coin

-- the loss of an order is that of the list of the rules in this order
abbrev pub OrdersLoseAsLists : Type 0
OrdersLoseAsLists =
    (table : PayTable) (coin : ℕ) (pool : RulePool) (order : List ℕ)
    → IsBet table coin → IsPool table pool → IsOrder (length pool.rules) order
    → order_loss (pool_rows table coin pool.rules) order ≡ loss table coin (ordered_list pool order)

-- the loss that is left without the classes at some places is that of the list with exceptions for them
abbrev pub ExceptedLoseAsLists : Type 0
ExceptedLoseAsLists =
    (table : PayTable) (coin : ℕ) (pool : RulePool) (order places : List ℕ)
    → IsBet table coin → IsPool table pool → IsOrder (length pool.rules) order → ArePlaces (length (representatives table.deck)) places
    → loss_left (pool_rows table coin pool.rules) order places ≡ loss table coin (compiled_list table coin pool order places)

-- that list is one for the table
abbrev pub CompiledAreLists : Type 0
CompiledAreLists =
    (table : PayTable) (coin : ℕ) (pool : RulePool) (order places : List ℕ)
    → IsBet table coin → IsPool table pool → IsOrder (length pool.rules) order → ArePlaces (length (representatives table.deck)) places
    → IsList table (compiled_list table coin pool order places)
