-- The lines of a list that are left to put, and its text in parts.
use Rattle.std.proofs.Common.{◌≡◌, ℕ, ◌+◌, ◌-◌, ◌<◌, ◌≤◌, true, List, [], ◌∷◌, ◌++◌, length, map, drop, get_or, append-nil, append_assoc, ap, sym, subst, ◌∙◌, arith}
use Rattle.std.specs.Prelude.{codes}
use Rattle.std.specs.List.{All}
use Rattle.std.proofs.lemmas.Grind.{flat_map-append}
use Rattle.std.proofs.lemmas.List.{drop_more, get_or-drop, get_or_default}
use Rattle.std.proofs.lemmas.List.Elements.{All-get_or, All-weaker}
use Rattle.vp_card.specs.Cards.{in_deck}
use Rattle.vp_text.specs.Lines.{Word}
use Rattle.vp_text.specs.Written.{line_of, written}
use Rattle.vp_suit.specs.Classes.{IsDeal, is_representative, representatives}
use Rattle.vp_suit.proofs.ClassLaws.{representatives_only}
use Rattle.vp_suit.proofs.TurnedDraws.{dealt_is}
use Rattle.vp_pay.specs.declared.table.PayTable.{PayTable}
use Rattle.vp_draws.specs.Draws.{least_best}
use Rattle.vp_rule.specs.Lists.{RulePool}
use Rattle.vp_rule.specs.Spelling.{except_words, list_text, rule_words, version_words}
use Rattle.vp_rule.specs.Valid.{IsPool, IsRule}
use Rattle.vp_rule.specs.declared.rule.Rule.{Rule}
use Rattle.vp_rule.proofs.Versions.{of_version_2}
use Rattle.vp_audit.specs.Compiled.{best_exception, class_at, compiled_list, ordered}
use Rattle.vp_audit.specs.Values.{no_rule}
use Rattle.vp_audit.proofs.PassedClasses.{drop_twice}

-- the lines of the items from one on are its line, and the lines of the rest
seen_left : {A B : Type 0} (words : B → List Word) (see : A → B) (items : List A) (i : ℕ) (other : A) → i < length items
    → written (map words (map see (drop i items))) ≡ line_of (words (see (get_or items i other))) ++ written (map words (map see (drop (i + 1) items)))
seen_left words see items i other inside = ap (λ xs. written (map words (map see xs))) (drop_more items i other inside)

-- ---- rules

-- the line of the rule at the next place, and those behind it
pub rules_left : (table : PayTable) (rules : List Rule) (order : List ℕ) (i : ℕ) (rule : Rule) → i < length order → All (λ place. place < length rules) order → rule ≡ get_or rules (get_or order i 0) rule
    → written (map (rule_words table) (ordered rules (drop i order))) ≡ line_of (rule_words table rule) ++ written (map (rule_words table) (ordered rules (drop (i + 1) order)))
rules_left table rules order i rule inside below is =
    let low : get_or order i 0 < length rules = All-get_or (λ place. place < length rules) order i 0 inside below in
    seen_left (rule_words table) (λ place. get_or rules place no_rule) order i 0 inside
    ∙ ap (λ r. line_of (rule_words table r) ++ written (map (rule_words table) (ordered rules (drop (i + 1) order)))) (get_or_default rules (get_or order i 0) no_rule rule low ∙ sym is)

-- the rules of a pool are rules of version 2
pub pool_rules : (table : PayTable) (pool : RulePool) (told : PayTable) (rules : List Rule) → IsPool table pool → told ≡ table → rules ≡ pool.rules → All (IsRule 2 told) rules
pool_rules table pool told rules is same_table same_rules =
    let all : All (IsRule 2 table) pool.rules = All-weaker (IsRule pool.version table) (IsRule 2 table) (of_version_2 pool.version table) pool.rules is.rules in
    subst (λ t. All (IsRule 2 t) rules) (sym same_table) (subst (λ (rs : List Rule). All (IsRule 2 table) rs) (sym same_rules) all)

-- ---- exceptions

-- the class behind some of those that are left is the one at its place
pub class_behind : (n passed place : ℕ) (left : List (List ℕ)) (hand : List ℕ) → left ≡ drop passed (representatives n) → passed ≤ place → hand ≡ get_or left (place - passed) [] → hand ≡ class_at n place
class_behind n passed place left hand so low is =
    let at : passed + (place - passed) ≡ place = omega arith in
    is ∙ ap (λ (xs : List (List ℕ)). get_or xs (place - passed) []) so ∙ get_or-drop passed (representatives n) (place - passed) [] ∙ ap (λ k. get_or (representatives n) k []) at

-- those that are left behind it
pub left_behind : (n passed place : ℕ) (left after : List (List ℕ)) → left ≡ drop passed (representatives n) → passed ≤ place → after ≡ drop (place - passed + 1) left → after ≡ drop (place + 1) (representatives n)
left_behind n passed place left after so low is =
    let at : passed + (place - passed + 1) ≡ place + 1 = omega arith in
    is ∙ ap (drop (place - passed + 1)) so ∙ drop_twice (place - passed + 1) passed (representatives n) ∙ ap (λ k. drop k (representatives n)) at

-- its cards are of the deck
pub class_cards : (n place : ℕ) (hand : List ℕ) → place < length (representatives n) → hand ≡ class_at n place → in_deck n hand ≡ true
class_cards n place hand low is =
    let class : IsDeal n (class_at n place) × (is_representative (class_at n place) ≡ true) = All-get_or (λ cards. IsDeal n cards × (is_representative cards ≡ true)) (representatives n) place [] low (representatives_only n) in
    ap (in_deck n) is ∙ (dealt_is n (class_at n place) class.0).of_deck

-- the line of the exception for the next class, and those behind it
pub exceptions_left : (table : PayTable) (coin : ℕ) (places : List ℕ) (i : ℕ) (hand : List ℕ) → i < length places → hand ≡ class_at table.deck (get_or places i 0)
    → written (map except_words (map (best_exception table coin) (drop i places))) ≡ line_of (except_words (hand, least_best table coin hand)) ++ written (map except_words (map (best_exception table coin) (drop (i + 1) places)))
exceptions_left table coin places i hand inside is =
    seen_left except_words (best_exception table coin) places i 0 inside
    ∙ ap (λ cards. line_of (except_words (cards, least_best table coin cards)) ++ written (map except_words (map (best_exception table coin) (drop (i + 1) places)))) (sym is)

-- ---- the whole list

-- its first line, its exceptions, its rules, and the last line
pub list_parts : (table : PayTable) (coin : ℕ) (pool : RulePool) (order places : List ℕ)
    → written (list_text table (compiled_list table coin pool order places))
    ≡ line_of (version_words (codes "list") pool.version) ++ (written (map except_words (map (best_exception table coin) places)) ++ (written (map (rule_words table) (ordered pool.rules order)) ++ line_of (codes "end" ∷ [])))
unfolding list_text
list_parts table coin pool order places =
    let excepts = map except_words (map (best_exception table coin) places) in
    let rules = map (rule_words table) (ordered pool.rules order) in
    parts (version_words (codes "list") pool.version) (codes "end" ∷ []) excepts rules
  where
    parts : (first last : List Word) (excepts rules : List (List Word)) → written (first ∷ excepts ++ rules ++ last ∷ []) ≡ line_of first ++ (written excepts ++ (written rules ++ line_of last))
    parts first last excepts rules =
        flat_map-append line_of (first ∷ excepts ++ rules) (last ∷ [])
        ∙ ap (λ (text : List ℕ). written (first ∷ excepts ++ rules) ++ text) (append-nil (line_of last))
        ∙ ap (λ (text : List ℕ). line_of first ++ text ++ line_of last) (flat_map-append line_of excepts rules)
        ∙ append_assoc (line_of first) (written excepts ++ written rules) (line_of last)
        ∙ ap (λ (text : List ℕ). line_of first ++ text) (append_assoc (written excepts) (written rules) (line_of last))

-- the first line, by its version
abbrev pub first_line : ℕ → List ℕ
first_line version = line_of (version_words (codes "list") version)

-- the lines of rules, where the table and the rules are these
pub rule_lines_as : (told table : PayTable) (said rules : List Rule) (order : List ℕ) → told ≡ table → said ≡ rules → written (map (rule_words told) (ordered said order)) ≡ written (map (rule_words table) (ordered rules order))
rule_lines_as told table said rules order same_table same_rules =
    ap (λ (t : PayTable). written (map (rule_words t) (ordered said order))) same_table ∙ ap (λ (rs : List Rule). written (map (rule_words table) (ordered rs order))) same_rules
