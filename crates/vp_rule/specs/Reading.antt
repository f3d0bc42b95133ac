-- How rules, exceptions, lists and pools are read from left to right.
use Rattle.std.specs.Prelude.{ℕ, Bool, true, ◌&&◌, ◌==◌, nat_lt, nat_le, List, [], ◌∷◌, ◌++◌, length, Option, Some, None, option_map, ◌⊎◌, bytes_eq, codes, if◌then◌else◌}
use Rattle.std.specs.List.{position}
use Rattle.std.proofs.Common.{inl, inr}
use Rattle.vp_card.specs.Cards.{in_deck, rises}
use Rattle.vp_card.specs.Reading.{card_of, rank_set_of}
use Rattle.vp_sets.specs.Index.{set_index}
use Rattle.vp_text.specs.Lines.{Word}
use Rattle.vp_text.specs.Reading.{next_is, one_line, both, mapped, closed}
use Rattle.vp_text.specs.Numbers.{number_within}
use Rattle.vp_text.specs.Pieces.{Piece, ◌>>=◌, one_word, so_many, key_word, ended, up_to_end}
use Rattle.vp_text.specs.Sequences.{◌>>◌, after, all_of}
use Rattle.vp_text.specs.Streams.{always, following, has_room, passing}
use Rattle.vp_text.specs.ExactReaders.{Reader}
use Rattle.vp_pay.specs.declared.table.PayTable.{PayTable}
use Rattle.vp_suit.specs.Classes.{is_representative}
use Rattle.vp_rule.specs.Lists.{Exception, RuleList, RulePool}
use Rattle.vp_rule.specs.declared.rule.Rule.{Rule}
use Rattle.vp_rule.specs.declared.rule.Test.{Test}
use Rattle.vp_rule.specs.declared.rule.Test.TheVariants.{Hold, Wilds, Suited, Mixed, Royal, Windows, Count, Equal, Ranks, Made, Left, LeftSuit}

-- ---- tests

-- a number of at most so much
abbrev pub digit : ℕ → Word → Option ℕ
digit most = number_within 0 most

-- a number of cards
abbrev pub number_piece : (ℕ → Test) → Piece Test
number_piece test words = do
  k ← one_word (digit 5) words
  Some (test k.0, k.1)

-- two numbers, the second not below the first
unfoldable pub range_piece : ℕ → Piece (ℕ × ℕ)
range_piece most words = do
  least ← one_word (digit most) words
  greatest ← one_word (number_within least.0 most) least.1
  Some ((least.0, greatest.0), greatest.1)

unfoldable pub windows_piece : Piece Test
windows_piece words = do
  range ← range_piece 10 words
  Some (Windows range.0.0 range.0.1, range.1)

unfoldable pub count_piece : Piece Test
count_piece words = do
  set ← one_word rank_set_of words
  range ← range_piece 5 set.1
  Some (Count set.0 range.0.0 range.0.1, range.1)

unfoldable pub left_piece : Piece Test
left_piece words = do
  set ← one_word rank_set_of words
  k ← one_word (digit 5) set.1
  Some (Left set.0 k.0, k.1)

-- the place of the pay line with this name
abbrev pub place_of : PayTable → Word → Option ℕ
place_of table name = position (λ line. bytes_eq line.name name) table.lines.items

unfoldable pub made_piece : PayTable → Piece Test
made_piece table words = do
  place ← one_word (place_of table) words
  Some (Made place.0, place.1)

-- a test of one word
abbrev pub plain_test : Word → Option Test
plain_test word =
    if bytes_eq word (codes "suited") then Some Suited else (
    if bytes_eq word (codes "mixed") then Some Mixed else (
    if bytes_eq word (codes "royal") then Some Royal else None))

-- the words behind the first word of a test, in a list of this version
unfoldable pub test_behind : ℕ → PayTable → Word → Piece Test
test_behind version table word words =
    if bytes_eq word (codes "hold") then number_piece Hold words else (
    if bytes_eq word (codes "wilds") then number_piece Wilds words else (
    if bytes_eq word (codes "windows") then windows_piece words else (
    if bytes_eq word (codes "count") then count_piece words else (
    if bytes_eq word (codes "equal") then number_piece Equal words else (
    if bytes_eq word (codes "ranks") then number_piece Ranks words else (
    if bytes_eq word (codes "made") then made_piece table words else (
    if version == 2 && bytes_eq word (codes "left") then left_piece words else (
    if version == 2 && bytes_eq word (codes "leftsuit") then number_piece LeftSuit words else
    option_map (λ test. (test, words)) (plain_test word)))))))))

-- ---- rules

-- a rule has some test
abbrev pub rule_from : List Test → Option Rule
rule_from [] = None
rule_from (test ∷ tests) = Some (record { tests = record { items = test ∷ tests } })

-- `rule` and 1 to 8 tests
unfoldable pub rule_of : ℕ → PayTable → List Word → Option Rule
rule_of version table words = do
  key ← key_word (codes "rule") words
  tests ← up_to_end 8 (test_behind version table) key.1
  rule_from tests

-- a rule behind these, where they are fewer than so many
unfoldable pub next_rule_of : ℕ → ℕ → PayTable → List Rule → List Word → Option Rule
next_rule_of most version table = following (has_room most) (rule_of version table)

-- ---- exceptions

-- its cards rise, are of a deck of n, and are the representative of their class
abbrev pub stands : ℕ → Exception → Bool
stands n exception = (rises exception.0 && in_deck n exception.0) && is_representative exception.0

-- `except`, a representative and a mask
unfoldable pub exception_of : ℕ → List Word → Option Exception
exception_of n words = passing (stands n) (all_of (after (codes "except") (so_many card_of 5 >> one_word (digit 31))) words)

-- ---- what stands in front of a line

-- an exception or a rule
abbrev pub Item : Type 0
Item = Exception ⊎ Rule

-- what is kept of the items so far: the index of the last exception, and the rules
pub record Front : Type 0 where
  pub last : Option ℕ
  pub rules : List Rule

abbrev pub nothing_yet : Front
nothing_yet = record { last = None; rules = [] }

-- with one item more
abbrev pub front_with : Front → Item → Front
front_with front (inl exception) = record { last = Some (set_index exception.0); rules = front.rules }
front_with front (inr rule) = record { last = front.last; rules = front.rules ++ rule ∷ [] }

abbrev pub front_behind : Front → List Item → Front
front_behind front [] = front
front_behind front (item ∷ items) = front_behind (front_with front item) items

abbrev pub front_of : List Item → Front
front_of items = front_behind nothing_yet items

-- the index is above the last one
abbrev pub is_above : Option ℕ → ℕ → Bool
is_above None index = true
is_above (Some last) index = nat_lt last index

-- an exception stands before all rules, and above the exception before
abbrev pub may_stand : Front → Exception → Bool
may_stand front exception = (length front.rules == 0) && is_above front.last (set_index exception.0)

unfoldable pub next_exception_of : ℕ → Front → List Word → Option Exception
next_exception_of n = following may_stand (exception_of n)

-- a line behind these
unfoldable pub item_behind : ℕ → PayTable → Front → List Word → Option Item
item_behind version table front words =
    if next_is (codes "except") words then option_map inl (next_exception_of table.deck front words) else option_map inr (next_rule_of 128 version table front.rules words)

-- ---- the first line

abbrev pub version_behind : List Word → Option ℕ
version_behind [] = Some 1
version_behind (word ∷ words) = if bytes_eq word (codes "2") then ended 2 words else None

-- this word, and behind it `2` for version 2
unfoldable pub version_of : Word → List Word → Option ℕ
version_of key words = do
  first ← key_word key words
  version_behind first.1

abbrev pub version_line : Word → Reader ℕ
version_line key = one_line (version_of key)

-- ---- lists

-- the exceptions in front of the first rule
abbrev pub exceptions_of : List Item → List Exception
exceptions_of [] = []
exceptions_of (inl exception ∷ items) = exception ∷ exceptions_of items
exceptions_of (inr rule ∷ items) = []

abbrev pub rules_of : List Item → List Rule
rules_of [] = []
rules_of (inl exception ∷ items) = rules_of items
rules_of (inr rule ∷ items) = rule ∷ rules_of items

abbrev pub list_from : ℕ × List Item → RuleList
list_from p = record { version = p.0; exceptions = exceptions_of p.1; rules = rules_of p.1 }

abbrev pub items_at : ℕ → PayTable → Reader (List Item)
items_at version table = closed (codes "end") always (λ items. item_behind version table (front_of items))

-- a list for this table
unfoldable pub list_at : PayTable → Reader RuleList
list_at table = mapped list_from (both (version_line (codes "list")) (λ version. items_at version table))

-- ---- pools

abbrev pub some_rules : List Rule → Bool
some_rules rules = nat_le 1 (length rules)

abbrev pub rules_at : ℕ → PayTable → Reader (List Rule)
rules_at version table = closed (codes "end") some_rules (next_rule_of 64 version table)

abbrev pub pool_from : ℕ × List Rule → RulePool
pool_from p = record { version = p.0; rules = p.1 }

-- a pool for this table
unfoldable pub pool_at : PayTable → Reader RulePool
pool_at table = mapped pool_from (both (version_line (codes "pool")) (λ version. rules_at version table))
