-- What the rules of a pool give each class of deals, and the lists that are made of them. What a list is made of is this program's own
-- rule (docs/FORMATS.md, `vpoker compile`).
use Rattle.std.specs.Prelude.{ℕ, List, [], map, slice_index_or}
use Rattle.vp_suit.specs.Classes.{representatives, weight}
use Rattle.vp_pay.specs.declared.table.PayTable.{PayTable}
use Rattle.vp_draws.specs.Draws.{best, least_best, value}
use Rattle.vp_rule.specs.Lists.{Exception, RuleList, RulePool}
use Rattle.vp_rule.specs.declared.rule.Rule.{Rule}
use Rattle.vp_compile.specs.Rows.{Row}
use Rattle.vp_audit.specs.Choices.{least_or_empty}
use Rattle.vp_audit.specs.Values.{matched, no_rule}

-- what a rule gives a deal: the least value of the holds that it matches; the empty cell where it matches none
unfoldable pub rule_cell : PayTable → ℕ → List ℕ → Rule → ℕ
rule_cell table coin cards rule = least_or_empty (value table coin cards) (matched table rule cards)

-- a class: its weight, the values of its best hold and of holding nothing, and what each rule gives it
unfoldable pub class_row : PayTable → ℕ → List Rule → List ℕ → Row
class_row table coin rules cards = record {
  weight = weight cards;
  best = best table coin cards;
  none = value table coin cards 0;
  cells = map (rule_cell table coin cards) rules;
}

-- all classes of a deck, by rising index of their representatives
unfoldable pub pool_rows : PayTable → ℕ → List Rule → List Row
pool_rows table coin rules = map (class_row table coin rules) (representatives table.deck)

-- the rules at these places
abbrev pub ordered : List Rule → List ℕ → List Rule
ordered rules order = map (λ place. slice_index_or rules place no_rule) order

-- the list of a pool's rules in an order, without exceptions
abbrev pub ordered_list : RulePool → List ℕ → RuleList
ordered_list pool order = record { version = pool.version; exceptions = []; rules = ordered pool.rules order }

-- the representative of the class at a place
abbrev pub class_at : ℕ → ℕ → List ℕ
class_at n place = slice_index_or (representatives n) place []

-- the exception that gives the class at a place its least best hold
abbrev pub best_exception : PayTable → ℕ → ℕ → Exception
best_exception table coin place = (class_at table.deck place, least_best table coin (class_at table.deck place))

-- the list of a pool's rules in an order, with exceptions for the classes at these places
abbrev pub compiled_list : PayTable → ℕ → RulePool → List ℕ → List ℕ → RuleList
compiled_list table coin pool order places = record {
  version = pool.version;
  exceptions = map (best_exception table coin) places;
  rules = ordered pool.rules order;
}
