-- How long the text of a list, and of the numbers that are said of it, may be.
use Rattle.std.proofs.Common.{◌≡◌, ℕ, ◌+◌, ◌*◌, ◌<◌, ◌≤◌, List, [], ◌∷◌, ◌++◌, map, length, cond, Bool, true, false, arith}
use Rattle.std.specs.Prelude.{codes, flat_map, ◌==◌}
use Rattle.std.specs.Fmt.{decimal}
use Rattle.std.specs.List.{All, AllByRecursion}
use Rattle.std.proofs.lemmas.List.{length-map}
use Rattle.std.proofs.lemmas.List.Elements.{All-get_or, All-map, All-weaker, recursion_from_All}
use Rattle.vp_card.specs.Texts.{card_text, rank_set_text}
use Rattle.vp_card.proofs.Texts.{card_text_length}
use Rattle.vp_text.specs.Lines.{Word}
use Rattle.vp_text.specs.Sections.{Text}
use Rattle.vp_text.specs.Written.{written}
use Rattle.vp_text.proofs.Room.{digits_of_64, one_word, room, room-append, room-cons, room-nil, room_lines, room_map, two_words, written-append}
use Rattle.vp_pay.specs.Table.{IsPayLine, IsTable}
use Rattle.vp_pay.specs.Names.{is_name}
use Rattle.vp_pay.specs.declared.table.PayLine.{PayLine}
use Rattle.vp_pay.specs.declared.table.PayTable.{PayTable}
use Rattle.vp_rule.specs.Lists.{Exception, RuleList}
use Rattle.vp_rule.specs.Spelling.{except_words, list_text, name_at, rule_words, test_words, version_words}
use Rattle.vp_rule.specs.Valid.{IsException, IsList, IsRule, IsTest}
use Rattle.vp_rule.specs.declared.rule.Rule.{Rule}
use Rattle.vp_rule.specs.declared.rule.Test.{Test}
use Rattle.vp_rule.specs.declared.rule.Test.TheVariants.{Hold, Wilds, Suited, Mixed, Royal, Windows, Count, Equal, Ranks, Made, Left, LeftSuit}
use Rattle.vp_pay.proofs.ShortTables.{room_name, room_ranks}

-- ---- rules

number_room : (n : ℕ) → n ≤ 31 → length (decimal n) ≤ 20
number_room n small = digits_of_64 n (omega (arith, small))

one_number : (key : Word) (n : ℕ) → n ≤ 31 → room (key ∷ decimal n ∷ []) ≤ length key + 22
one_number key n small = omega (arith, two_words key (decimal n), number_room n small)

two_numbers : (a b : ℕ) → a ≤ 31 → b ≤ 31 → room (decimal a ∷ decimal b ∷ []) ≤ 42
two_numbers a b small low = omega (arith, two_words (decimal a) (decimal b), number_room a small, number_room b low)

short_name : (table : PayTable) (place : ℕ) → IsTable table → place < length table.lines.items → length (name_at table place) ≤ 24
short_name table place is inside =
    let names : List Word = map (λ (line : PayLine). line.name) table.lines.items in
    let many : length names ≡ length table.lines.items = length-map table.lines.items (λ (line : PayLine). line.name) in
    let all : All (λ (name : Word). is_name name ≡ true) names =
    All-map (λ (name : Word). is_name name ≡ true) (λ (line : PayLine). line.name) table.lines.items (All-weaker (IsPayLine table.coins) (λ (line : PayLine). is_name line.name ≡ true) (λ line known. known.name) table.lines.items is.lines) in
    room_name (name_at table place) (All-get_or (λ (name : Word). is_name name ≡ true) names place [] (omega (arith, many, inside)) all)

room_test : (version : ℕ) (table : PayTable) (test : Test) → IsTable table → IsTest version table test → room (test_words table test) ≤ 70
room_test version table (Hold k) t is = omega (arith, one_number (codes "hold") k (omega (arith, is)))
room_test version table (Wilds k) t is = omega (arith, one_number (codes "wilds") k (omega (arith, is)))
room_test version table Suited t is = omega (arith, one_word (codes "suited"))
room_test version table Mixed t is = omega (arith, one_word (codes "mixed"))
room_test version table Royal t is = omega (arith, one_word (codes "royal"))
room_test version table (Windows a b) t is = omega (arith, room-cons (codes "windows") (decimal a ∷ decimal b ∷ []), two_numbers a b (omega (arith, is.0, is.1)) (omega (arith, is.1)))
room_test version table (Count set a b) t is =
    omega (
      arith,
      room-cons (codes "count") (rank_set_text set ∷ decimal a ∷ decimal b ∷ []),
      room-cons (rank_set_text set) (decimal a ∷ decimal b ∷ []),
      room_ranks set,
      two_numbers a b (omega (arith, is.1, is.2)) (omega (arith, is.2)),
    )
room_test version table (Equal k) t is = omega (arith, one_number (codes "equal") k (omega (arith, is)))
room_test version table (Ranks k) t is = omega (arith, one_number (codes "ranks") k (omega (arith, is)))
room_test version table (Made place) t is = omega (arith, two_words (codes "made") (name_at table place), short_name table place t is)
room_test version table (Left set k) t is = omega (arith, room-cons (codes "left") (rank_set_text set ∷ decimal k ∷ []), two_words (rank_set_text set) (decimal k), room_ranks set, number_room k (omega (arith, is.2)))
room_test version table (LeftSuit k) t is = omega (arith, one_number (codes "leftsuit") k (omega (arith, is.1)))

room_tests : (version : ℕ) (table : PayTable) (tests : List Test) → IsTable table → AllByRecursion (IsTest version table) tests → room (flat_map (test_words table) tests) ≤ 70 * length tests
room_tests version table [] t all = omega (arith, room-nil)
room_tests version table (test ∷ tests) t all =
    omega (arith, room-append (test_words table test) (flat_map (test_words table) tests), room_test version table test t all.0, room_tests version table tests t all.1)

room_rule : (version : ℕ) (table : PayTable) (rule : Rule) → IsTable table → IsRule version table rule → room (rule_words table rule) < 600
unfolding rule_words
room_rule version table rule t is =
    omega (arith, room-cons (codes "rule") (flat_map (test_words table) rule.tests.items), room_tests version table rule.tests.items t (recursion_from_All (IsTest version table) rule.tests.items is.tests), is.most)

room_rules : (version : ℕ) (table : PayTable) (rules : List Rule) → IsTable table → AllByRecursion (IsRule version table) rules → AllByRecursion (λ words. room words < 600) (map (rule_words table) rules)
room_rules version table [] t all = tt
room_rules version table (rule ∷ rules) t all = (room_rule version table rule t all.0, room_rules version table rules t all.1)

-- ---- exceptions

room_except : (n : ℕ) (e : Exception) → IsException n e → room (except_words e) < 45
unfolding except_words
room_except n e is =
    omega (
      arith,
      room-cons (codes "except") (map card_text e.0 ++ decimal e.1 ∷ []),
      room-append (map card_text e.0) (decimal e.1 ∷ []),
      room_map card_text 2 card_text_length e.0,
      is.deal.five,
      one_word (decimal e.1),
      number_room e.1 (omega (arith, is.mask)),
    )

room_excepts : (n : ℕ) (es : List Exception) → AllByRecursion (IsException n) es → AllByRecursion (λ words. room words < 45) (map except_words es)
room_excepts n [] all = tt
room_excepts n (e ∷ es) all = (room_except n e all.0, room_excepts n es all.1)

-- ---- lists

room_version : (version : ℕ) → room (version_words (codes "list") version) < 600
room_version version = by (version == 2)
  where
    by : (second : Bool) → room (codes "list" ∷ cond second (codes "2" ∷ []) []) < 600
    by true = omega (arith, two_words (codes "list") (codes "2"))
    by false = omega (arith, one_word (codes "list"))

-- a list, by its exceptions
pub short_list : (table : PayTable) (list : RuleList) → IsTable table → IsList table list → length (written (list_text table list)) ≤ 45 * length list.exceptions + 78000
unfolding list_text
short_list table list t is =
    let first : Text = version_words (codes "list") list.version ∷ [] in
    let excepts = map except_words list.exceptions in
    let rules = map (rule_words table) list.rules in
    let end : Text = (codes "end" ∷ []) ∷ [] in
    let head : length (written first) ≤ 600 * 1 = room_lines 600 first (room_version list.version, tt) in
    let last : length (written end) ≤ 600 * 1 = room_lines 600 end (omega (arith, one_word (codes "end")), tt) in
    omega (
      arith,
      written-append first (excepts ++ rules ++ end),
      written-append (excepts ++ rules) end,
      written-append excepts rules,
      head,
      last,
      room_lines 45 excepts (room_excepts table.deck list.exceptions (recursion_from_All (IsException table.deck) list.exceptions is.exceptions)),
      length-map list.exceptions except_words,
      room_lines 600 rules (room_rules list.version table list.rules t (recursion_from_All (IsRule list.version table) list.rules is.rules)),
      length-map list.rules (rule_words table),
      is.most,
    )
