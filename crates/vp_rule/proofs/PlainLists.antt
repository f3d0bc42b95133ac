-- The words of lists and pools are plain: none has a blank, a line feed, a carriage return or a `#`.
use Rattle.std.proofs.Common.{ℕ, zero, suc, ◌≤◌, ◌<◌, Bool, true, false, cond, ◌==◌, List, [], ◌∷◌, ◌++◌, map, length, get_or, refl, sym, arith, append_assoc, subst}
use Rattle.std.specs.Prelude.{codes, flat_map}
use Rattle.std.specs.Fmt.{decimal}
use Rattle.std.specs.List.{AllByRecursion}
use Rattle.vp_card.specs.Texts.{card_text}
use Rattle.vp_text.specs.Lines.{Word}
use Rattle.vp_text.specs.Sections.{Text}
use Rattle.vp_text.specs.Written.{IsPlainWord, IsPlainLine, IsPlainText}
use Rattle.vp_text.proofs.PlainWords.{plain_key, plain_number, plain_words}
use Rattle.vp_pay.specs.Spelling.{pay_line_words, table_text}
use Rattle.vp_pay.specs.Table.{IsTable}
use Rattle.vp_pay.specs.declared.table.PayLine.{PayLine}
use Rattle.vp_pay.specs.declared.table.PayTable.{PayTable}
use Rattle.vp_pay.proofs.Plain.{plain_card, plain_set, plain_table}
use Rattle.vp_pay.proofs.Tables.{of_all}
use Rattle.vp_rule.specs.Lists.{Exception, RuleList, RulePool}
use Rattle.vp_rule.specs.Spelling.{except_words, list_text, name_at, pool_text, rule_words, test_words, version_words}
use Rattle.vp_rule.specs.Valid.{IsException, IsList, IsPool, IsRule, IsTest}
use Rattle.vp_rule.specs.declared.rule.Rule.{Rule}
use Rattle.vp_rule.specs.declared.rule.Test.{Test}
use Rattle.vp_rule.specs.declared.rule.Test.TheVariants.{Hold, Wilds, Suited, Mixed, Royal, Windows, Count, Equal, Ranks, Made, Left, LeftSuit}

-- ---- the names of pay lines stand in the table's plain text

name_in : (coins : ℕ) (lines : List PayLine) (more : Text) (place : ℕ) → place < length lines → IsPlainText (map (pay_line_words coins) lines ++ more) → IsPlainWord (get_or (map (λ line. line.name) lines) place [])
unfolding pay_line_words
name_in coins [] more place inside plain = absurd (omega arith)
name_in coins (line ∷ lines) more zero inside plain = plain.0.1.1.0
name_in coins (line ∷ lines) more (suc place) inside plain = name_in coins lines more place (omega (arith, inside)) plain.1

plain_name : (table : PayTable) (place : ℕ) → IsTable table → place < length table.lines.items → IsPlainWord (name_at table place)
unfolding table_text
plain_name table place is inside = name_in table.coins table.lines.items ((codes "end" ∷ []) ∷ []) place inside (plain_table table is).1.1.1.1

-- ---- rules

number_small : (n : ℕ) → n ≤ 31 → IsPlainWord (decimal n)
number_small n small = plain_number n (omega arith)

plain_test : (version : ℕ) (table : PayTable) (test : Test) → IsTable table → IsTest version table test → AllByRecursion IsPlainWord (test_words table test)
plain_test version table (Hold k) t is = (plain_key (codes "hold") (omega arith) refl, (number_small k (omega arith), tt))
plain_test version table (Wilds k) t is = (plain_key (codes "wilds") (omega arith) refl, (number_small k (omega arith), tt))
plain_test version table Suited t is = (plain_key (codes "suited") (omega arith) refl, tt)
plain_test version table Mixed t is = (plain_key (codes "mixed") (omega arith) refl, tt)
plain_test version table Royal t is = (plain_key (codes "royal") (omega arith) refl, tt)
plain_test version table (Windows a b) t is = (plain_key (codes "windows") (omega arith) refl, (number_small a (omega (arith, is.0, is.1)), (number_small b (omega (arith, is.1)), tt)))
plain_test version table (Count set a b) t is =
    (plain_key (codes "count") (omega arith) refl, (plain_set set is.0, (number_small a (omega (arith, is.1, is.2)), (number_small b (omega (arith, is.2)), tt))))
plain_test version table (Equal k) t is = (plain_key (codes "equal") (omega arith) refl, (number_small k (omega arith), tt))
plain_test version table (Ranks k) t is = (plain_key (codes "ranks") (omega arith) refl, (number_small k (omega arith), tt))
plain_test version table (Made place) t is = (plain_key (codes "made") (omega arith) refl, (plain_name table place t is, tt))
plain_test version table (Left set k) t is = (plain_key (codes "left") (omega arith) refl, (plain_set set is.1, (number_small k (omega (arith, is.2)), tt)))
plain_test version table (LeftSuit k) t is = (plain_key (codes "leftsuit") (omega arith) refl, (number_small k (omega (arith, is.1)), tt))

plain_tests : (version : ℕ) (table : PayTable) (tests : List Test) → IsTable table → AllByRecursion (IsTest version table) tests → AllByRecursion IsPlainWord (flat_map (test_words table) tests)
plain_tests version table [] t all = tt
plain_tests version table (test ∷ tests) t all =
    plain_words (test_words table test) (flat_map (test_words table) tests) (plain_test version table test t all.0) (plain_tests version table tests t all.1)

plain_rule : (version : ℕ) (table : PayTable) (rule : Rule) → IsTable table → IsRule version table rule → IsPlainLine (rule_words table rule)
unfolding rule_words
plain_rule version table rule t is =
    (omega arith, (plain_key (codes "rule") (omega arith) refl, plain_tests version table rule.tests.items t (of_all (IsTest version table) rule.tests.items is.tests)))

plain_end : IsPlainText ((codes "end" ∷ []) ∷ [])
plain_end = ((omega arith, (plain_key (codes "end") (omega arith) refl, tt)), tt)

plain_rules : (version : ℕ) (table : PayTable) (rules : List Rule) → IsTable table → AllByRecursion (IsRule version table) rules → IsPlainText (map (rule_words table) rules ++ (codes "end" ∷ []) ∷ [])
plain_rules version table [] t all = plain_end
plain_rules version table (rule ∷ rules) t all = (plain_rule version table rule t all.0, plain_rules version table rules t all.1)

-- ---- exceptions

plain_cards : (cards : List ℕ) → AllByRecursion IsPlainWord (map card_text cards)
plain_cards [] = tt
plain_cards (card ∷ cards) = (plain_card card, plain_cards cards)

plain_except : (n : ℕ) (exception : Exception) → IsException n exception → IsPlainLine (except_words exception)
unfolding except_words
plain_except n exception is =
    (omega arith, (plain_key (codes "except") (omega arith) refl, plain_words (map card_text exception.0) (decimal exception.1 ∷ []) (plain_cards exception.0) (number_small exception.1 (omega (arith, is.mask)), tt)))

plain_excepts : (n : ℕ) (exceptions : List Exception) (more : Text) → AllByRecursion (IsException n) exceptions → IsPlainText more → IsPlainText (map except_words exceptions ++ more)
plain_excepts n [] more all plain = plain
plain_excepts n (exception ∷ exceptions) more all plain = (plain_except n exception all.0, plain_excepts n exceptions more all.1 plain)

-- ---- lists and pools

plain_first : (key : Word) (version : ℕ) → IsPlainWord key → IsPlainLine (version_words key version)
plain_first key version plain = (omega arith, (plain, by_version (version == 2)))
  where
    by_version : (second : Bool) → AllByRecursion IsPlainWord (cond second (codes "2" ∷ []) [])
    by_version true = (plain_key (codes "2") (omega arith) refl, tt)
    by_version false = tt

pub plain_list : (table : PayTable) (list : RuleList) → IsTable table → IsList table list → IsPlainText (list_text table list)
unfolding list_text
plain_list table list t is =
    let rules = plain_rules list.version table list.rules t (of_all (IsRule list.version table) list.rules is.rules) in
    let all = plain_excepts table.deck list.exceptions (map (rule_words table) list.rules ++ (codes "end" ∷ []) ∷ []) (of_all (IsException table.deck) list.exceptions is.exceptions) rules in
    (plain_first (codes "list") list.version (plain_key (codes "list") (omega arith) refl), subst IsPlainText (sym (append_assoc (map except_words list.exceptions) (map (rule_words table) list.rules) ((codes "end" ∷ []) ∷ []))) all)

pub plain_pool : (table : PayTable) (pool : RulePool) → IsTable table → IsPool table pool → IsPlainText (pool_text table pool)
unfolding pool_text
plain_pool table pool t is =
    (plain_first (codes "pool") pool.version (plain_key (codes "pool") (omega arith) refl), plain_rules pool.version table pool.rules t (of_all (IsRule pool.version table) pool.rules is.rules))
