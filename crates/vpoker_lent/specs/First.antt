-- The first six words tell the answer to all: no command has more.
use Rattle.std.specs.Prelude.{◌≡◌, ℕ, List, take}
use Rattle.vp_text.specs.Lines.{Word}
use Rattle.vpoker_lent.specs.Ends.{IsAnswered, IsMeasured}

-- all words of which these are the first six are answered
abbrev pub AnswersAll :
    (first : List Word) (input : List ℕ) (lent : ℕ) (before after : List ℕ) (taken code : ℕ) → Type 0
AnswersAll first input lent before after taken code =
    (given : List Word) → first ≡ take 6 given → IsAnswered given input lent before after taken code

-- for all of them the words of memory are measured
abbrev pub MeasuresAll : (first : List Word) (input : List ℕ) (needed code : ℕ) → Type 0
MeasuresAll first input needed code = (given : List Word) → first ≡ take 6 given → IsMeasured given input needed code
