-- The text of a meter. Its lines and key words are this program's own (docs/FORMATS.md).
use Rattle.std.specs.Prelude.{ℕ, ◌-◌, List, [], ◌∷◌, ◌++◌, map, flat_map, codes}
use Rattle.std.specs.Fmt.{decimal}
use Rattle.vp_card.specs.Texts.{card_text}
use Rattle.vp_text.specs.Lines.{Word}
use Rattle.vp_text.specs.Sections.{Text}
use Rattle.vp_suit.specs.Classes.{representatives, weight}
use Rattle.vp_meter.specs.declared.segment.Segment.{Segment}
use Rattle.vp_meter.specs.Metered.{Metering, line_name}
use Rattle.vp_meter.specs.Segments.{choice, later, segment_at, segments, worth}
use Rattle.vp_meter.specs.Pieces.{Graph, piece_words, pieces}

-- a class with its segments
unfoldable pub graph_of : Metering → ℕ → ℕ → List ℕ → Graph
graph_of m lo hi cards = record {
  weight = weight cards;
  first = segment_at (worth m cards) lo;
  later = later (worth m cards) (choice (worth m cards) lo) lo (hi - lo);
}

abbrev pub graphs_of : Metering → ℕ → ℕ → List Graph
graphs_of m lo hi = map (graph_of m lo hi) (representatives m.table.deck)

-- the line of a class, and those of its segments
unfoldable pub class_words : List ℕ → ℕ → List Word
class_words cards weight = codes "class" ∷ map card_text cards ++ decimal weight ∷ []

unfoldable pub segment_words : Segment → List Word
segment_words s = codes "seg" ∷ decimal s.from ∷ decimal s.mask ∷ decimal s.base ∷ decimal s.slope ∷ []

unfoldable pub class_text : Metering → ℕ → ℕ → List ℕ → Text
class_text m lo hi cards = class_words cards (weight cards) ∷ map segment_words (segments (worth m cards) lo hi)

-- the first line: the bet, the name of the line, and the range
unfoldable pub head_words : Metering → ℕ → ℕ → List Word
head_words m lo hi = codes "meter" ∷ decimal m.coin ∷ line_name m ∷ decimal lo ∷ decimal hi ∷ []

-- what stands behind the first line: the classes, the pieces, and `end`
unfoldable pub body_text : Metering → ℕ → ℕ → Text
body_text m lo hi = flat_map (class_text m lo hi) (representatives m.table.deck) ++ (map piece_words (pieces lo hi (graphs_of m lo hi)) ++ (codes "end" ∷ []) ∷ [])

unfoldable pub meter_text : Metering → ℕ → ℕ → Text
meter_text m lo hi = head_words m lo hi ∷ body_text m lo hi
