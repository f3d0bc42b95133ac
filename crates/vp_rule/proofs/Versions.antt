-- What a rule of one version is in the other.
use Rattle.std.proofs.Common.{ℕ, List, [], ◌∷◌, refl}
use Rattle.std.specs.List.{AllByRecursion}
use Rattle.std.proofs.lemmas.List.Elements.{All-from_recursion}
use Rattle.vp_pay.specs.declared.table.PayTable.{PayTable}
use Rattle.vp_pay.proofs.Tables.{of_all}
use Rattle.vp_rule.specs.Valid.{IsRule, IsTest}
use Rattle.vp_rule.specs.declared.rule.Rule.{Rule}
use Rattle.vp_rule.specs.declared.rule.Test.{Test}
use Rattle.vp_rule.specs.declared.rule.Test.TheVariants.{Hold, Wilds, Suited, Mixed, Royal, Windows, Count, Equal, Ranks, Made, Left, LeftSuit}

test_of_2 : (version : ℕ) (table : PayTable) (test : Test) → IsTest version table test → IsTest 2 table test
test_of_2 version table (Hold k) is = is
test_of_2 version table (Wilds k) is = is
test_of_2 version table Suited is = is
test_of_2 version table Mixed is = is
test_of_2 version table Royal is = is
test_of_2 version table (Windows least most) is = is
test_of_2 version table (Count set least most) is = is
test_of_2 version table (Equal k) is = is
test_of_2 version table (Ranks k) is = is
test_of_2 version table (Made place) is = is
test_of_2 version table (Left set k) is = (refl, is.1, is.2)
test_of_2 version table (LeftSuit k) is = (refl, is.1)

tests_of_2 : (version : ℕ) (table : PayTable) (tests : List Test) → AllByRecursion (IsTest version table) tests → AllByRecursion (IsTest 2 table) tests
tests_of_2 version table [] all = tt
tests_of_2 version table (test ∷ tests) all = (test_of_2 version table test all.0, tests_of_2 version table tests all.1)

pub of_version_2 : (version : ℕ) (table : PayTable) (rule : Rule) → IsRule version table rule → IsRule 2 table rule
of_version_2 version table rule is = record {
  tests = All-from_recursion (IsTest 2 table) rule.tests.items (tests_of_2 version table rule.tests.items (of_all (IsTest version table) rule.tests.items is.tests));
  some = is.some;
  most = is.most;
}
