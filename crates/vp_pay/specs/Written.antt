-- Values that are spelled at the front of a text.
use Rattle.std.specs.Prelude.{◌≡◌, ℕ, List, ◌++◌}
use Rattle.vp_text.specs.Lines.{Feed, feed_of}
use Rattle.vp_text.specs.Sections.{Text, Starts, text_of}
use Rattle.vp_text.specs.Written.{written}

-- the lines of the text begin with the spelling of the value
pub record StandsIn {A : Type 0} (spell : A → Text) (value : A) (bytes : List ℕ) : Type 0 where
  pub left : Feed
  pub front : Starts spell (feed_of bytes) value left

-- the spelling of the value was written, and these bytes follow: it stands in front, and the lines of the bytes are left
pub record IsReadAgain {A : Type 0} (spell : A → Text) (value : A) (more : List ℕ) : Type 0 where
  pub left : Feed
  pub front : Starts spell (feed_of (written (spell value) ++ more)) value left
  pub rest : text_of left.lines ≡ text_of (feed_of more).lines

-- different valid values have different spellings, and no spelling begins another one
abbrev pub SpellingsDiffer : {A : Type 0} → (A → Text) → (A → Type 0) → Type 0
SpellingsDiffer {A = A} spell Valid = (a b : A) (x y : Text) → Valid a → Valid b → spell a ++ x ≡ spell b ++ y → (a ≡ b) × (x ≡ y)
