-- What decides a deal under a list, and what the list is charged for it. A list is read as a player reads a strategy card, the first rule
-- that fits deciding; that it is charged the worst hold that the rule allows is this program's own rule (docs/FORMATS.md).
use Rattle.std.specs.Prelude.{ℕ, Bool, false, true, ◌==◌, min, List, [], ◌∷◌, filter, find, position, Option, Some, None, option_map, slice_index_or}
use Rattle.std.specs.List.{list_any}
use Rattle.vp_sets.specs.Index.{set_index}
use Rattle.vp_suit.specs.Classes.{representative}
use Rattle.vp_pay.specs.declared.table.PayTable.{PayTable}
use Rattle.vp_draws.specs.Draws.{greatest, masks, value}
use Rattle.vp_rule.specs.Holds.{matches}
use Rattle.vp_rule.specs.Lists.{Exception, RuleList}
use Rattle.vp_rule.specs.declared.rule.Rule.{Rule}
use Rattle.vp_audit.specs.declared.priced.Decided.{Decided}
use Rattle.vp_audit.specs.declared.priced.Decided.TheVariants.{Except, ByRule, Nothing}

-- the mask of the exception of a deal's class, where there is one
unfoldable pub excepted : List Exception → List ℕ → Option ℕ
excepted exceptions cards = option_map (λ e. e.1) (find (λ e. set_index e.0 == set_index (representative cards)) exceptions)

-- the holds of a deal that a rule matches
unfoldable pub matched : PayTable → Rule → List ℕ → List ℕ
matched table rule cards = filter (λ mask. matches table rule cards mask) masks

-- the place of the first rule that matches some hold
unfoldable pub deciding : PayTable → List Rule → List ℕ → Option ℕ
deciding table rules cards = position (λ rule. list_any (λ mask. matches table rule cards mask) masks) rules

-- the least of the numbers that f gives for a list
unfoldable pub least : (ℕ → ℕ) → List ℕ → ℕ
least f [] = 0
least f (x ∷ []) = f x
least f (x ∷ y ∷ xs) = min (f x) (least f (y ∷ xs))

-- the exception decides, where there is one; else the first rule that matches some hold; else nothing
abbrev pub decision : Option ℕ → Option ℕ → Decided
decision (Some mask) place = Except
decision None (Some place) = ByRule place
decision None None = Nothing

-- what decides a deal
unfoldable pub decided : PayTable → RuleList → List ℕ → Decided
decided table list cards = decision (excepted list.exceptions cards) (deciding table list.rules cards)

-- the other rule, which is never taken: a place that was found is one of the rules
abbrev pub no_rule : Rule
no_rule = record { tests = record { items = [] } }

-- the value of the exception's mask for the representative of the class; else the least or the greatest value of the holds that the
-- deciding rule matches; else the value of holding nothing
abbrev pub charged : ((ℕ → ℕ) → List ℕ → ℕ) → PayTable → ℕ → List Rule → List ℕ → List ℕ → Option ℕ → Option ℕ → ℕ
charged extreme table coin rules stands cards (Some mask) place = value table coin stands mask
charged extreme table coin rules stands cards None (Some place) = extreme (value table coin cards) (matched table (slice_index_or rules place no_rule) cards)
charged extreme table coin rules stands cards None None = value table coin cards 0

-- the least value of a deal under a list
unfoldable pub least_value : PayTable → ℕ → RuleList → List ℕ → ℕ
least_value table coin list cards = charged least table coin list.rules (representative cards) cards (excepted list.exceptions cards) (deciding table list.rules cards)

-- the greatest value of a deal under a list
unfoldable pub greatest_value : PayTable → ℕ → RuleList → List ℕ → ℕ
greatest_value table coin list cards = charged greatest table coin list.rules (representative cards) cards (excepted list.exceptions cards) (deciding table list.rules cards)

-- two deals are decided alike
abbrev pub same : Decided → Decided → Bool
same Except Except = true
same (ByRule i) (ByRule j) = i == j
same Nothing Nothing = true
same Except (ByRule i) = false
same Except Nothing = false
same (ByRule i) Except = false
same (ByRule i) Nothing = false
same Nothing Except = false
same Nothing (ByRule i) = false
