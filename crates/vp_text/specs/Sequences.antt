-- Lines that are read as a sequence of pieces. `class`, five cards and a number, say, are read by
--     all_of (after (codes "class") (so_many card_of 5 >> one_word number_of))
-- Each part is exact where its own parts are (Exact-after, Exact-then, Exact-all_of), and so the whole line is: see ExactText.
use Rattle.std.specs.Prelude.{List, Option, Some}
use Rattle.vp_text.specs.Lines.{Word}
use Rattle.vp_text.specs.Pieces.{Piece, ◌>>=◌, one_word, key_word, ended}

infixr 6 ◌>>◌
-- a piece, and then another
abbrev pub ◌>>◌ : {A B : Type 0} → Piece A → Piece B → Piece (A × B)
(first >> second) words = do
  a ← first words
  b ← second a.1
  Some ((a.0, b.0), b.1)

-- this word, and then a piece
abbrev pub after : {A : Type 0} → Word → Piece A → Piece A
after key piece words = do
  word ← key_word key words
  piece word.1

-- a piece, and no word behind it
abbrev pub all_of : {A : Type 0} → Piece A → List Word → Option A
all_of piece words = do
  value ← piece words
  ended value.0 value.1

-- a line of two words: this word, and a value's
abbrev pub keyed : {A : Type 0} → Word → (Word → Option A) → List Word → Option A
keyed key read = all_of (after key (one_word read))
