-- How words are handed over: one behind another, each ended by a zero byte. Words for C are as in C, ended by a zero byte; that they stand
-- one behind another is this program's own rule.
use Rattle.std.specs.Prelude.{◌≡◌, ℕ, List, [], ◌∷◌, ◌++◌}
use Rattle.std.specs.List.{Contains}
use Rattle.std.specs.Str.{IsUtf8}
use Rattle.vp_text.specs.Lines.{Word}

-- a word is valid UTF-8 and has no zero byte
pub record IsWord (word : Word) : Type 0 where
  pub valid : IsUtf8 word
  pub whole : ¬ Contains word 0

-- the bytes begin with this word and its zero byte, and behind that is the rest
pub record BeginsWith (word rest bytes : List ℕ) : Type 0 where
  pub word_is : IsWord word
  pub bytes_are : bytes ≡ word ++ (0 ∷ rest)

-- the bytes are these words: no bytes are none, and behind the first word are the others
abbrev pub AreWords : List Word → List ℕ → Type 0
AreWords [] bytes = bytes ≡ []
AreWords (word ∷ words) bytes = (rest : List ℕ) × BeginsWith word rest bytes × AreWords words rest
