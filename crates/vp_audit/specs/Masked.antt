-- Lists with exceptions that give classes any holds, for the one law that the best holds lose least. The list is this program's own
-- (docs/FORMATS.md).
use Rattle.std.specs.Prelude.{ℕ, ◌<◌, ◌≤◌, List, length, map}
use Rattle.std.specs.List.{All}
use Rattle.vp_suit.specs.Classes.{representatives}
use Rattle.vp_pay.specs.Bets.{IsBet}
use Rattle.vp_pay.specs.declared.table.PayTable.{PayTable}
use Rattle.vp_rule.specs.Lists.{Exception, RuleList, RulePool}
use Rattle.vp_audit.specs.Audits.{loss}
use Rattle.vp_audit.specs.Compiled.{class_at, compiled_list, ordered}

-- the exception that gives the class at a place the hold that is given for the place
abbrev pub masked_exception : ℕ → (ℕ → ℕ) → ℕ → Exception
masked_exception n mask place = (class_at n place, mask place)

-- the list of a pool's rules in an order, with such exceptions for the classes at these places
abbrev pub masked_list : PayTable → RulePool → List ℕ → List ℕ → (ℕ → ℕ) → RuleList
masked_list table pool order places mask = record {
  version = pool.version;
  exceptions = map (masked_exception table.deck mask) places;
  rules = ordered pool.rules order;
}

-- whatever holds the exceptions of a list give, it loses at least what the list with exceptions for the same classes loses that gives
-- each its best hold
abbrev pub BestHoldsLoseLeast : Type 0
BestHoldsLoseLeast =
    (table : PayTable) (coin : ℕ) (pool : RulePool) (order places : List ℕ) (mask : ℕ → ℕ)
    → IsBet table coin → All (λ place. place < length (representatives table.deck)) places → ((place : ℕ) → mask place < 32)
    → loss table coin (compiled_list table coin pool order places) ≤ loss table coin (masked_list table pool order places mask)
