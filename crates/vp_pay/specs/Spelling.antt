-- The one spelling of a pay table, and of a deal line. The lines and their key words are this program's own (docs/FORMATS.md); ranks, suits and
-- patterns have the usual names of the hands of five cards, and sets of ranks and cards are written by their usual letters (vp_card, Texts).
use Rattle.std.specs.Prelude.{ℕ, List, [], ◌∷◌, ◌++◌, map, take, slice_index, Option, Some, None, codes}
use Rattle.std.specs.Fmt.{decimal}
use Rattle.vp_card.specs.Texts.{rank_letters, rank_set_text, card_text}
use Rattle.vp_text.specs.Lines.{Word}
use Rattle.vp_text.specs.Sections.{Text}
use Rattle.vp_pay.specs.declared.pattern.Pattern.{Pattern}
use Rattle.vp_pay.specs.declared.pattern.Pattern.TheVariants.{Royal, StraightFlush, FiveKind, Wilds, Quads, FullHouse, Flush, Straight, Trips, TwoPair, Pair}
use Rattle.vp_pay.specs.declared.pattern.Qualifier.{Qualifier}
use Rattle.vp_pay.specs.declared.pattern.Qualifier.TheVariants.{Either, Natural, Wild}
use Rattle.vp_pay.specs.declared.table.PayLine.{PayLine}
use Rattle.vp_pay.specs.declared.table.PayTable.{PayTable}

-- the words behind a set of ranks: none, or `kicker` and the second set
abbrev pub kicker_words : Option ℕ → List Word
kicker_words None = []
kicker_words (Some set) = codes "kicker" ∷ rank_set_text set ∷ []

-- the words of a pattern
abbrev pub pattern_words : Pattern → List Word
pattern_words Royal = codes "royal" ∷ []
pattern_words StraightFlush = codes "straight-flush" ∷ []
pattern_words (FiveKind set) = codes "five-kind" ∷ rank_set_text set ∷ []
pattern_words (Wilds count kicker) = codes "wilds" ∷ decimal count ∷ kicker_words kicker
pattern_words (Quads set kicker) = codes "quads" ∷ rank_set_text set ∷ kicker_words kicker
pattern_words FullHouse = codes "full-house" ∷ []
pattern_words Flush = codes "flush" ∷ []
pattern_words Straight = codes "straight" ∷ []
pattern_words Trips = codes "trips" ∷ []
pattern_words TwoPair = codes "two-pair" ∷ []
pattern_words (Pair set) = codes "pair" ∷ rank_set_text set ∷ []

-- the word of a qualifier
abbrev pub qualifier_word : Qualifier → Word
qualifier_word Either = codes "either"
qualifier_word Natural = codes "natural"
qualifier_word Wild = codes "wild"

-- the word of the wild rank: `none`, or its letter
abbrev pub wild_word : Option ℕ → Word
wild_word None = codes "none"
wild_word (Some rank) = slice_index rank_letters rank ∷ []

-- a pay line: its name, pattern and qualifier, and a payment for each bet
unfoldable pub pay_line_words : ℕ → PayLine → List Word
pay_line_words coins line = codes "line" ∷ line.name ∷ pattern_words line.pattern ++ qualifier_word line.qualifier ∷ map decimal (take coins line.pays)

-- the lines in front of the pay lines: the table's name, its deck, the wild rank and the greatest bet
abbrev pub head_text : PayTable → Text
head_text t =
    (codes "table" ∷ t.name ∷ []) ∷ (codes "deck" ∷ decimal t.deck ∷ []) ∷ (codes "wild" ∷ wild_word t.wild ∷ []) ∷ (codes "coins" ∷ decimal t.coins ∷ []) ∷ []

-- a pay table: its head, its pay lines in their order, and `end`
unfoldable pub table_text : PayTable → Text
table_text t = head_text t ++ map (pay_line_words t.coins) t.lines.items ++ (codes "end" ∷ []) ∷ []

-- a deal line: the cards in the order of dealing
unfoldable pub deal_text : List ℕ → Text
deal_text cards = (codes "deal" ∷ map card_text cards) ∷ []
