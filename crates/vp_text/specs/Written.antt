-- How words are written: one space between the words of a line, and a line feed at its end. This is this program's own rule
-- (docs/FORMATS.md).
use Rattle.std.specs.Prelude.{ℕ, ◌<◌, Bool, ◌||◌, not, ◌==◌, IsTrue, List, [], ◌∷◌, ◌++◌, length, flat_map, if◌then◌else◌, codes}
use Rattle.std.specs.Fmt.{decimal}
use Rattle.std.specs.List.{AllByRecursion}
use Rattle.vp_text.specs.Lines.{Word, is_blank, is_empty}
use Rattle.vp_text.specs.Sections.{Text}

-- a line, and one more word at its end
abbrev pub with_word : List ℕ → Word → List ℕ
with_word line word = if is_empty line then word else line ++ 32 ∷ word

-- a line, and these words at its end
abbrev pub with_words : List ℕ → List Word → List ℕ
with_words line [] = line
with_words line (word ∷ words) = with_words (with_word line word) words

-- words, with one space between
abbrev pub spaced : List Word → List ℕ
spaced [] = []
spaced (word ∷ []) = word
spaced (word ∷ next ∷ more) = word ++ 32 ∷ spaced (next ∷ more)

-- a line with its line feed
abbrev pub line_of : List Word → List ℕ
line_of words = spaced words ++ 10 ∷ []

abbrev pub written : Text → List ℕ
written text = flat_map line_of text

-- a fraction: a number, `/` and the number that it stands over
abbrev pub fraction : ℕ → ℕ → List Word
fraction over under = decimal over ∷ codes "/" ∷ decimal under ∷ []

-- a byte that stands for itself wherever it stands in a word: no blank, line feed, carriage return or `#`
abbrev pub is_plain : ℕ → Bool
is_plain byte = not (is_blank byte || byte == 10 || byte == 13 || byte == 35)

abbrev pub IsPlainWord : Word → Type 0
IsPlainWord word = (0 < length word) × AllByRecursion (λ byte. IsTrue (is_plain byte)) word

abbrev pub IsPlainLine : List Word → Type 0
IsPlainLine words = (0 < length words) × AllByRecursion IsPlainWord words

-- each line has words, and each word is plain
abbrev pub IsPlainText : Text → Type 0
IsPlainText text = AllByRecursion IsPlainLine text
