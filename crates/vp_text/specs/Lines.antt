-- The lines of a text that have words, each with its number. The rules of lines and words are this program's own (docs/FORMATS.md, Lines
-- and words).
use Rattle.std.specs.Prelude.{◌≡◌, ◌≤◌, ℕ, zero, suc, ◌+◌, Bool, ◌||◌, not, ◌==◌, List, [], ◌∷◌, length, filter, if◌then◌else◌}
use Rattle.std.specs.List.{slice_split, before_first}
use Rattle.std.specs.Str.Lines.{strip_carriage_return}

-- a word is its bytes
abbrev pub Word : Type 0
Word = List ℕ

-- a line that has words: its number, and the words that it has left
pub record WordLine : Type 0 where
  pub line : ℕ
  pub words : List Word

-- the input: one more than the number of its lines, and its bytes, until it was found that no line is left
pub record Past : Type 0 where
  pub line : ℕ
  pub bytes : List ℕ

-- a text that is read line by line: the lines that are left, the input, and the number of the line that was given last (0 before the first)
pub record Feed : Type 0 where
  pub lines : List WordLine
  pub past : Past
  pub last : ℕ

-- a space or a tab
abbrev pub is_blank : ℕ → Bool
is_blank byte = byte == 32 || byte == 9

abbrev pub is_empty : Word → Bool
is_empty word = length word == 0

-- the words between the blanks
abbrev pub words_in : List ℕ → List Word
words_in text = filter (λ word. not (is_empty word)) (slice_split is_blank text)

-- what a line says: without the carriage return at its end, and without its comment
abbrev pub said : List ℕ → List ℕ
said text = before_first (λ byte. byte == 35) (strip_carriage_return text)

-- the lines between the line feeds; what stands behind the last line feed is a line where it is not empty
abbrev pub lines_between : List (List ℕ) → List (List ℕ)
lines_between [] = []
lines_between (text ∷ []) = if is_empty text then [] else text ∷ []
lines_between (text ∷ next ∷ more) = text ∷ lines_between (next ∷ more)

abbrev pub lines_in : List ℕ → List (List ℕ)
lines_in bytes = lines_between (slice_split (λ byte. byte == 10) bytes)

-- the lines that have words; the first of all lines has this number
abbrev pub numbered : ℕ → List (List ℕ) → List WordLine
numbered line [] = []
numbered line (text ∷ more) =
    if length (words_in (said text)) == 0 then numbered (line + 1) more else record { line = line; words = words_in (said text) } ∷ numbered (line + 1) more

-- a text before its first line is read
abbrev pub feed_of : List ℕ → Feed
feed_of bytes = record { lines = numbered 1 (lines_in bytes); past = record { line = length (lines_in bytes) + 1; bytes = bytes }; last = 0 }

-- what stands behind the first line feed
abbrev pub after_feed : List ℕ → List ℕ
after_feed [] = []
after_feed (byte ∷ bytes) = if byte == 10 then bytes else after_feed bytes

-- what stands behind the line feed of the line with this number; all bytes for 0
unfoldable pub behind_line : ℕ → List ℕ → List ℕ
behind_line zero bytes = bytes
behind_line (suc line) bytes = behind_line line (after_feed bytes)

-- the bytes behind the line that was given last; none where it was found that no line is left
abbrev pub rest_of : Feed → List ℕ
rest_of feed = behind_line feed.last feed.past.bytes

-- it was found that no line is left
abbrev pub at_end : Feed → Feed
at_end feed = record { lines = feed.lines; past = record { line = feed.past.line; bytes = [] }; last = feed.last }

-- a reader behind so many lines of the text, of which this was given last: the rest of the text, or none of it where no line was left
pub record IsReading (count last : ℕ) (bytes rest : List ℕ) : Type 0 where
  pub bound : count + length rest ≤ 67108864
  pub behind_last : behind_line last bytes ≡ rest
  pub behind : behind_line count bytes ≡ rest
