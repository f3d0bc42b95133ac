-- Which tests, rules, exceptions, lists and pools keep the rules and limits of the list language (docs/FORMATS.md).
use Rattle.std.specs.Prelude.{◌≡◌, ℕ, ◌<◌, ◌≤◌, true, length, map}
use Rattle.std.specs.List.{All}
use Rattle.vp_card.specs.Cards.{is_rank_set}
use Rattle.vp_card.specs.Rising.{IsRising}
use Rattle.vp_sets.specs.Index.{set_index}
use Rattle.vp_suit.specs.Classes.{IsDeal, is_representative}
use Rattle.vp_pay.specs.declared.table.PayTable.{PayTable}
use Rattle.vp_rule.specs.Lists.{Exception, RuleList, RulePool}
use Rattle.vp_rule.specs.declared.rule.Rule.{Rule}
use Rattle.vp_rule.specs.declared.rule.Test.{Test}
use Rattle.vp_rule.specs.declared.rule.Test.TheVariants.{Hold, Wilds, Suited, Mixed, Royal, Windows, Count, Equal, Ranks, Made, Left, LeftSuit}

-- version 1 or 2
abbrev pub IsVersion : ℕ → Type 0
IsVersion version = (1 ≤ version) × (version ≤ 2)

-- the numbers of a test are in their ranges, its set of ranks isn't empty, its pay line is one of the table; the tests on discards are of version 2
abbrev pub IsTest : ℕ → PayTable → Test → Type 0
IsTest version table (Hold k) = k ≤ 5
IsTest version table (Wilds k) = k ≤ 5
IsTest version table Suited = Unit {0}
IsTest version table Mixed = Unit {0}
IsTest version table Royal = Unit {0}
IsTest version table (Windows least most) = (least ≤ most) × (most ≤ 10)
IsTest version table (Count set least most) = (is_rank_set set ≡ true) × (least ≤ most) × (most ≤ 5)
IsTest version table (Equal k) = k ≤ 5
IsTest version table (Ranks k) = k ≤ 5
IsTest version table (Made place) = place < length table.lines.items
IsTest version table (Left set k) = (version ≡ 2) × (is_rank_set set ≡ true) × (k ≤ 5)
IsTest version table (LeftSuit k) = (version ≡ 2) × (k ≤ 5)

-- a rule: 1 to 8 tests
pub record IsRule (version : ℕ) (table : PayTable) (rule : Rule) : Type 0 where
  pub tests : All (IsTest version table) rule.tests.items
  pub some : 1 ≤ length rule.tests.items
  pub most : length rule.tests.items ≤ 8

-- an exception: the representative of a class of deals from a deck of n, and a mask from 0 to 31
pub record IsException (n : ℕ) (exception : Exception) : Type 0 where
  pub deal : IsDeal n exception.0
  pub representative : is_representative exception.0 ≡ true
  pub mask : exception.1 < 32

-- a list for this table: exceptions by rising index, and at most 128 rules
pub record IsList (table : PayTable) (list : RuleList) : Type 0 where
  pub version : IsVersion list.version
  pub exceptions : All (IsException table.deck) list.exceptions
  pub rising : IsRising (map (λ exception. set_index exception.0) list.exceptions)
  pub rules : All (IsRule list.version table) list.rules
  pub most : length list.rules ≤ 128

-- a pool for this table: 1 to 64 rules
pub record IsPool (table : PayTable) (pool : RulePool) : Type 0 where
  pub version : IsVersion pool.version
  pub rules : All (IsRule pool.version table) pool.rules
  pub some : 1 ≤ length pool.rules
  pub most : length pool.rules ≤ 64
