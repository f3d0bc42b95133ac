-- The first six words tell the answer to all: no command has more.
use Rattle.std.specs.Prelude.{◌≡◌, ℕ, List, take}
use Rattle.vp_text.specs.Lines.{Word}
use Rattle.vpoker_c.specs.Ends.{IsAnswered}

-- all words of which these are the first six are answered
abbrev pub AnswersAll : (first : List Word) (input before after : List ℕ) (taken code : ℕ) → Type 0
AnswersAll first input before after taken code =
    (given : List Word) → first ≡ take 6 given → IsAnswered given input before after taken code
