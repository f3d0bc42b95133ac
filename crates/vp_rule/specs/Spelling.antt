-- The one spelling of a list and of a pool. The lines and their key words are this program's own (docs/FORMATS.md); sets of ranks and cards are
-- written by their usual letters (vp_card, Texts).
use Rattle.std.specs.Prelude.{ℕ, List, [], ◌∷◌, ◌++◌, map, flat_map, slice_index_or, codes, if◌then◌else◌, ◌==◌}
use Rattle.std.specs.Fmt.{decimal}
use Rattle.vp_card.specs.Texts.{card_text, rank_set_text}
use Rattle.vp_text.specs.Lines.{Word}
use Rattle.vp_text.specs.Sections.{Text}
use Rattle.vp_pay.specs.declared.table.PayTable.{PayTable}
use Rattle.vp_rule.specs.Lists.{Exception, RuleList, RulePool}
use Rattle.vp_rule.specs.declared.rule.Rule.{Rule}
use Rattle.vp_rule.specs.declared.rule.Test.{Test}
use Rattle.vp_rule.specs.declared.rule.Test.TheVariants.{Hold, Wilds, Suited, Mixed, Royal, Windows, Count, Equal, Ranks, Made, Left, LeftSuit}

-- the name of the pay line at a place
abbrev pub name_at : PayTable → ℕ → Word
name_at table place = slice_index_or (map (λ line. line.name) table.lines.items) place []

-- the words of a test
abbrev pub test_words : PayTable → Test → List Word
test_words table (Hold k) = codes "hold" ∷ decimal k ∷ []
test_words table (Wilds k) = codes "wilds" ∷ decimal k ∷ []
test_words table Suited = codes "suited" ∷ []
test_words table Mixed = codes "mixed" ∷ []
test_words table Royal = codes "royal" ∷ []
test_words table (Windows least most) = codes "windows" ∷ decimal least ∷ decimal most ∷ []
test_words table (Count set least most) = codes "count" ∷ rank_set_text set ∷ decimal least ∷ decimal most ∷ []
test_words table (Equal k) = codes "equal" ∷ decimal k ∷ []
test_words table (Ranks k) = codes "ranks" ∷ decimal k ∷ []
test_words table (Made place) = codes "made" ∷ name_at table place ∷ []
test_words table (Left set k) = codes "left" ∷ rank_set_text set ∷ decimal k ∷ []
test_words table (LeftSuit k) = codes "leftsuit" ∷ decimal k ∷ []

-- a rule: its tests in their order
unfoldable pub rule_words : PayTable → Rule → List Word
rule_words table rule = codes "rule" ∷ flat_map (test_words table) rule.tests.items

-- an exception: its cards, rising, and its mask
unfoldable pub except_words : Exception → List Word
except_words exception = codes "except" ∷ map card_text exception.0 ++ decimal exception.1 ∷ []

-- the first line: this word, and behind it `2` for version 2
abbrev pub version_words : Word → ℕ → List Word
version_words key version = key ∷ (if version == 2 then codes "2" ∷ [] else [])

-- a list: its first line, its exceptions, its rules in their order, and `end`
unfoldable pub list_text : PayTable → RuleList → Text
list_text table list = version_words (codes "list") list.version ∷ map except_words list.exceptions ++ map (rule_words table) list.rules ++ (codes "end" ∷ []) ∷ []

-- a pool: its first line, its rules in their order, and `end`
unfoldable pub pool_text : PayTable → RulePool → Text
pool_text table pool = version_words (codes "pool") pool.version ∷ map (rule_words table) pool.rules ++ (codes "end" ∷ []) ∷ []
