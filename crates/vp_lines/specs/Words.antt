-- The words that a line is written from.
use Rattle.std.specs.Prelude.{ℕ, ◌+◌, ◌*◌, ◌<◌, List, [], ◌∷◌, ◌++◌, length, map, codes}
use Rattle.std.specs.Borrow.{Bor}
use Rattle.std.specs.Fmt.{decimal}
use Rattle.std.specs.List.{sum_by, AllByRecursion}
use Rattle.vp_card.specs.Texts.{card_text, rank_set_text}
use Rattle.vp_text.specs.Written.{fraction}
use Rattle.vp_lines.specs.declared.words.Word.{Word}
use Rattle.vp_lines.specs.declared.words.Word.TheVariants.{Nothing, Text, Number, Numbers, Fraction, Ranks, Cards, Hand}

-- the words themselves
abbrev pub words_of : Word → List (List ℕ)
words_of Nothing = []
words_of (Text text) = text.now ∷ []
words_of (Number n) = decimal n ∷ []
words_of (Numbers ns) = map decimal ns.now
words_of (Fraction over under) = fraction over under
words_of (Ranks set) = rank_set_text set.now ∷ []
words_of (Cards cards) = map card_text cards.now
words_of (Hand hand) = map card_text hand.now

-- the words of a line
abbrev pub line_words : List Word → List (List ℕ)
line_words [] = []
line_words (word ∷ []) = words_of word
line_words (word ∷ next ∷ more) = words_of word ++ line_words (next ∷ more)

-- the words of lines
abbrev pub lines_words : List (Bor (List Word)) → List (List (List ℕ))
lines_words lines = map (λ line. line_words line.now) lines

-- the most bytes that they take, with a space for each
abbrev pub word_room : Word → ℕ
word_room Nothing = 0
word_room (Text text) = length text.now + 1
word_room (Number n) = 40
word_room (Numbers ns) = 11 * length ns.now
word_room (Fraction over under) = 82
word_room (Ranks set) = 14
word_room (Cards cards) = 3 * length cards.now
word_room (Hand hand) = 15

abbrev pub room_of : List Word → ℕ
room_of words = sum_by word_room words

-- the first is a text, and it is not empty
abbrev pub HasStart : List Word → Type 0
HasStart (Text text ∷ more) = 0 < length text.now
HasStart _ = ⊥

-- the words of one line, which has at most 512 bytes with its line feed
pub record IsLine (words : List Word) : Type 0 where
  pub start : HasStart words
  pub room : room_of words < 512

abbrev pub AreLines : List (Bor (List Word)) → Type 0
AreLines lines = AllByRecursion (λ line. IsLine line.now) lines
