-- The value that an order of a pool's rules gives a class is what the list of the rules in this order is charged for its representative.
use Rattle.std.proofs.Common.{◌≡◌, ℕ, suc, ◌+◌, ◌<◌, Bool, true, false, cond, List, [], ◌∷◌, length, get_or, refl, sym, ap, subst, ◌∙◌, arith, Some, None, Option, inl, inr}
use Rattle.std.specs.Prelude.{◌==◌, nat_lt, not, position, option_map}
use Rattle.std.specs.List.{All, list_any, position_or_len}
use Rattle.std.proofs.lemmas.Bool.{cases_lt}
use Rattle.std.proofs.lemmas.Bool.Decides.{nat_tests}
use Rattle.std.proofs.lemmas.List.{get_or-map}
use Rattle.std.proofs.lemmas.List.Elements.{All-head, All-tail}
use Rattle.vp_pay.specs.declared.table.PayTable.{PayTable}
use Rattle.vp_draws.specs.Draws.{masks, value}
use Rattle.vp_rule.specs.Holds.{matches}
use Rattle.vp_rule.specs.declared.rule.Rule.{Rule}
use Rattle.vp_compile.specs.Rows.{empty, full_or, list_value}
use Rattle.vp_audit.specs.Choices.{least_or_empty}
use Rattle.vp_audit.specs.Compiled.{class_row, ordered, rule_cell}
use Rattle.vp_audit.specs.Values.{charged, deciding, least, matched, no_rule}
use Rattle.vp_audit.proofs.Decisions.{any_filter}
use Rattle.vp_audit.proofs.KeptValues.{any_in, filter_out}
use Rattle.vp_audit.proofs.Lookups.{OneOf}

-- a number that is not the empty cell's
full : (x other : ℕ) → x < empty → full_or x other ≡ x
full x other l = let no : (x == empty) ≡ false = grind (arith, nat_tests) in ap (λ b. cond b other x) no

-- the least of numbers below a bound is below it
least_below : (f : ℕ → ℕ) (m x : ℕ) (xs : List ℕ) → ((i : ℕ) → f i < m) → least f (x ∷ xs) < m
unfolding least
least_below f m x [] all = all x
least_below f m x (y ∷ xs) all = let a = all x in let b = least_below f m y xs all in grind (arith, nat_tests)

-- ---- the first place that passes, by the first entry

found : ℕ → Option ℕ
found k = Some k

place_step : (k n : ℕ) → cond (nat_lt (suc k) (suc n)) (found (suc k)) None ≡ option_map suc (cond (nat_lt k n) (found k) None)
unfolding found
place_step k n = elim (cases_lt k n) [
  | inl l ↦ let a : nat_lt (suc k) (suc n) ≡ true = grind (arith, nat_tests) in let b : nat_lt k n ≡ true = grind (arith, nat_tests) in rw (a, b) refl
  | inr l ↦ let a : nat_lt (suc k) (suc n) ≡ false = grind (arith, nat_tests) in let b : nat_lt k n ≡ false = grind (arith, nat_tests) in rw (a, b) refl
]

position_cons : {X : Type 0} (p : X → Bool) (x : X) (xs : List X) → position p (x ∷ xs) ≡ cond (p x) (found 0) (option_map suc (position p xs))
unfolding found
position_cons p x xs = at (p x)
  where
    at : (b : Bool) → cond (nat_lt (cond (not b) (1 + position_or_len p xs) 0) (suc (length xs))) (found (cond (not b) (1 + position_or_len p xs) 0)) None ≡ cond b (found 0) (option_map suc (position p xs))
    at true = let z : nat_lt 0 (suc (length xs)) ≡ true = grind (arith, nat_tests) in ap (λ b. cond b (found 0) None) z
    at false =
        let e : 1 + position_or_len p xs ≡ suc (position_or_len p xs) = omega arith in
        ap (λ (k : ℕ). cond (nat_lt k (suc (length xs))) (found k) None) e ∙ place_step (position_or_len p xs) (length xs)

module _ (table : PayTable) (coin : ℕ) (cards : List ℕ) where
  abbrev some_hold : Rule → Bool
  some_hold rule = list_any (λ mask. matches table rule cards mask) masks

  -- what rules are charged
  abbrev pub by_rules : List Rule → ℕ
  by_rules rules = charged least table coin rules cards cards None (deciding table rules cards)

  abbrev by_place : List Rule → Option ℕ → ℕ
  by_place rules place = charged least table coin rules cards cards None place

  skip_place : (rule : Rule) (rules : List Rule) (o : Option ℕ) → by_place (rule ∷ rules) (option_map suc o) ≡ by_place rules o
  skip_place rule rules None = refl
  skip_place rule rules (Some k) = refl

  deciding_cons : (rule : Rule) (rules : List Rule) → deciding table (rule ∷ rules) cards ≡ cond (some_hold rule) (found 0) (option_map suc (deciding table rules cards))
  unfolding deciding
  deciding_cons rule rules = position_cons some_hold rule rules

  none_hold : (rule : Rule) → matched table rule cards ≡ [] → some_hold rule ≡ false
  unfolding matched
  none_hold rule none = any_filter (λ mask. matches table rule cards mask) masks none

  one_holds : (rule : Rule) (m : ℕ) (ms : List ℕ) → matched table rule cards ≡ m ∷ ms → some_hold rule ≡ true
  unfolding matched
  one_holds rule m ms some =
      let out = filter_out (λ mask. matches table rule cards mask) masks m (subst (λ (xs : List ℕ). OneOf xs m) (sym some) (inl refl)) in
      any_in (λ mask. matches table rule cards mask) masks m out.0 out.1

  -- a rule in front that matches no hold
  rule_skipped : (rule : Rule) (rules : List Rule) → matched table rule cards ≡ [] → by_rules (rule ∷ rules) ≡ by_rules rules
  rule_skipped rule rules none =
      let step : deciding table (rule ∷ rules) cards ≡ option_map suc (deciding table rules cards) =
      deciding_cons rule rules ∙ ap (λ b. cond b (found 0) (option_map suc (deciding table rules cards))) (none_hold rule none) in
      ap (by_place (rule ∷ rules)) step ∙ skip_place rule rules (deciding table rules cards)

  -- a rule in front that matches some hold
  rule_decides : (rule : Rule) (rules : List Rule) (m : ℕ) (ms : List ℕ) → matched table rule cards ≡ m ∷ ms → by_rules (rule ∷ rules) ≡ least (value table coin cards) (m ∷ ms)
  unfolding found
  rule_decides rule rules m ms some =
      let step : deciding table (rule ∷ rules) cards ≡ found 0 =
      deciding_cons rule rules ∙ ap (λ b. cond b (found 0) (option_map suc (deciding table rules cards))) (one_holds rule m ms some) in
      ap (by_place (rule ∷ rules)) step ∙ ap (least (value table coin cards)) some

  module _ (small : (mask : ℕ) → value table coin cards mask < empty) where
    rule_in_front : (rule : Rule) (rules : List Rule) (other : ℕ) → other ≡ by_rules rules → full_or (rule_cell table coin cards rule) other ≡ by_rules (rule ∷ rules)
    unfolding rule_cell
    rule_in_front rule rules other rest = by_masks (matched table rule cards) refl
      where
        by_masks : (ms : List ℕ) → matched table rule cards ≡ ms → full_or (least_or_empty (value table coin cards) (matched table rule cards)) other ≡ by_rules (rule ∷ rules)
        by_masks [] is = ap (λ (ms : List ℕ). full_or (least_or_empty (value table coin cards) ms) other) is ∙ (rest ∙ sym (rule_skipped rule rules is))
        by_masks (m ∷ ms) is =
            ap (λ (ms : List ℕ). full_or (least_or_empty (value table coin cards) ms) other) is
            ∙ (full (least (value table coin cards) (m ∷ ms)) other (least_below (value table coin cards) empty m ms small) ∙ sym (rule_decides rule rules m ms is))

    no_rules : value table coin cards 0 ≡ by_rules []
    unfolding deciding
    no_rules = refl

    -- the value that an order gives a class
    pub list_value_is : (rules : List Rule) (order : List ℕ) → All (λ place. place < length rules) order → list_value (class_row table coin rules cards) order ≡ by_rules (ordered rules order)
    unfolding list_value class_row
    list_value_is rules [] inside = no_rules
    list_value_is rules (place ∷ order) inside =
        ap (λ c. full_or c (list_value (class_row table coin rules cards) order))
        (get_or-map (rule_cell table coin cards) rules place no_rule empty (All-head (λ place. place < length rules) place order inside))
        ∙ rule_in_front (get_or rules place no_rule) (ordered rules order) (list_value (class_row table coin rules cards) order)
        (list_value_is rules order (All-tail (λ place. place < length rules) place order inside))
