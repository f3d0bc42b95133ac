-- What a list loses against the best holds, over all deals: differences and sums of expected payments (vp_draws, Draws). Which numbers an
-- audit tells is this program's own choice (docs/FORMATS.md).
use Rattle.std.specs.Prelude.{ℕ, ◌+◌, ◌-◌, Bool, if◌then◌else◌, not, ◌==◌, List, length, map, sum_by, count_by}
use Rattle.std.specs.List.{range_with_len}
use Rattle.vp_suit.specs.Laws.{deals}
use Rattle.vp_pay.specs.declared.table.PayTable.{PayTable}
use Rattle.vp_draws.specs.Draws.{best, sum_of_best}
use Rattle.vp_rule.specs.Lists.{RuleList}
use Rattle.vp_audit.specs.Values.{decided, least_value, greatest_value, same}
use Rattle.vp_audit.specs.declared.priced.Decided.{Decided}
use Rattle.vp_audit.specs.declared.priced.Decided.TheVariants.{Except, ByRule, Nothing}
use Rattle.vp_audit.specs.declared.audited.Tally.{Tally}
use Rattle.vp_audit.specs.declared.audited.Audited.{Audited}

-- what the list loses on a deal
unfoldable pub lost : PayTable → ℕ → RuleList → List ℕ → ℕ
lost table coin list cards = best table coin cards - least_value table coin list cards

-- the number where the test holds, else 0
abbrev pub only : Bool → ℕ → ℕ
only b n = if b then n else 0

-- the deal is so decided
abbrev pub is_by : PayTable → RuleList → Decided → List ℕ → Bool
is_by table list by cards = same by (decided table list cards)

-- the deal has holds of different values that the list allows
abbrev pub is_ambiguous : PayTable → ℕ → RuleList → List ℕ → Bool
is_ambiguous table coin list cards = not (least_value table coin list cards == greatest_value table coin list cards)

-- the deals that are so decided, and what the list loses on them
unfoldable pub tally : PayTable → ℕ → RuleList → Decided → Tally
tally table coin list by = record {
  deals = count_by (is_by table list by) (deals table.deck);
  loss = sum_by (λ cards. only (is_by table list by cards) (lost table coin list cards)) (deals table.deck);
}

-- the optimum less the sum of the least values
unfoldable pub loss : PayTable → ℕ → RuleList → ℕ
loss table coin list = sum_of_best table coin - sum_by (least_value table coin list) (deals table.deck)

-- what a list loses: every number over all deals
unfoldable pub audited : PayTable → ℕ → RuleList → Audited
audited table coin list = record {
  optimum = sum_of_best table coin;
  least = sum_by (least_value table coin list) (deals table.deck);
  greatest = sum_by (greatest_value table coin list) (deals table.deck);
  loss = loss table coin list;
  ambiguous = count_by (is_ambiguous table coin list) (deals table.deck);
  except = tally table coin list Except;
  rules = record { items = map (λ i. tally table coin list (ByRule i)) (range_with_len 0 (length list.rules)) };
  none = tally table coin list Nothing;
}

-- the deals of all tallies, and what is lost on them
abbrev pub shared_deals : Audited → ℕ
shared_deals a = a.except.deals + sum_by (λ tally. tally.deals) a.rules.items + a.none.deals

abbrev pub shared_loss : Audited → ℕ
shared_loss a = a.except.loss + sum_by (λ tally. tally.loss) a.rules.items + a.none.loss
