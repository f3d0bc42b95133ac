-- How a call over lent memory ends: its code, what stands in the room then, and how many of its bytes are the text. The codes are this
-- program's own.
use Rattle.std.specs.Prelude.{◌≡◌, ◌<◌, ◌≤◌, ◌-◌, ◌↔◌, ◌⊎◌, ℕ, true, List, [], ◌++◌, length, take, replicate}
use Rattle.vp_text.specs.Lines.{Word}
use Rattle.vp_answer.specs.Answers.{Answer}
use Rattle.vp_answer.specs.StatusCode.{code_of}
use Rattle.vp_answer.specs.declared.status.Status.{Status}
use Rattle.vp_answer.specs.declared.status.Status.TheVariants.{ReadFault, WriteFault, NoMemory, TooLong}
use Rattle.vp_run.specs.Answer.{answer}
use Rattle.vp_run.specs.Memory.{IsTooLong, WantsMore}
use Rattle.vp_run.specs.Memory.{in_region, region_words}
use Rattle.vp_handed.specs.Words.{AreWords}

-- a text stands at the front of the room: as many bytes of it were taken as it has, and what is behind them is zero
pub record Holds (text before after : List ℕ) (taken : ℕ) : Type 0 where
  pub count : taken ≡ length text
  pub bytes : after ≡ text ++ replicate (length before - length text) 0

-- the room has the whole text, and the status is the answer's
pub record IsWhole (due : Answer) (before after : List ℕ) (taken : ℕ) (status : Status) : Type 0 where
  pub is : status ≡ due.status
  pub fits : length due.text ≤ length before
  pub held : Holds due.text before after taken

-- the room is smaller than the text, and full of its beginning
pub record IsCut (due : Answer) (before after : List ℕ) (taken : ℕ) : Type 0 where
  pub short : length before < length due.text
  pub held : Holds (take (length before) due.text) before after taken

-- what a status says of the room: the answer that is due, the room before and after, and how many of its bytes are the text
abbrev pub Ends : Answer → List ℕ → List ℕ → ℕ → Status → Type 0
Ends due before after taken ReadFault = ⊥
Ends due before after taken WriteFault = IsCut due before after taken
Ends due before after taken NoMemory = Holds [] before after taken
Ends due before after taken TooLong = Holds [] before after taken
Ends due before after taken status = IsWhole due before after taken status

-- these words are answered to this input over so many words of lent memory; an input that is too long, and an answer that takes more
-- than is lent, and nothing else, is told so
pub record IsAnswered (words : List Word) (input : List ℕ) (lent : ℕ) (before after : List ℕ) (taken code : ℕ) : Type 0 where
  pub status : Status
  pub code_is : code ≡ code_of status
  pub ends : Ends (answer words input) before after taken status
  pub long : status ≡ TooLong ↔ IsTooLong words input
  pub memory : ¬ IsTooLong words input → (status ≡ NoMemory ↔ WantsMore words input lent)

-- bytes that are words get the answer to these words and the input
abbrev pub AnswersWords : (bytes input : List ℕ) (lent : ℕ) (before after : List ℕ) (taken code : ℕ) → Type 0
AnswersWords bytes input lent before after taken code =
    (words : List Word) → AreWords words bytes → IsAnswered words input lent before after taken code

-- what was handed over is no words: nothing was written
pub record IsRefused (before after : List ℕ) (taken code : ℕ) : Type 0 where
  pub code_is : code ≡ 8
  pub none : taken ≡ 0
  pub same : after ≡ before

-- bytes that are no words are refused
abbrev pub RefusesOthers : (bytes before after : List ℕ) (taken code : ℕ) → Type 0
RefusesOthers bytes before after taken code = ((words : List Word) → ¬ AreWords words bytes) → IsRefused before after taken code

-- ---- how much memory has to be lent

-- so many words, and no fewer, are enough
pub record IsMeasuredBy (words : List Word) (input : List ℕ) (needed code : ℕ) : Type 0 where
  pub code_is : code ≡ 0
  pub count : needed ≡ region_words words input
  pub alone : in_region words input ≡ true
  pub within : ¬ IsTooLong words input

-- no number of words is enough
pub record IsNever (words : List Word) (input : List ℕ) (needed code : ℕ) : Type 0 where
  pub none : needed ≡ 0
  pub because : ((code ≡ 7) × IsTooLong words input) ⊎ ((code ≡ 6) × ((lent : ℕ) → WantsMore words input lent) × ¬ IsTooLong words input)

abbrev pub IsMeasured : List Word → List ℕ → ℕ → ℕ → Type 0
IsMeasured words input needed code = IsMeasuredBy words input needed code ⊎ IsNever words input needed code

-- bytes that are words are told how many words of memory their answer takes
abbrev pub MeasuresWords : (bytes input : List ℕ) (needed code : ℕ) → Type 0
MeasuresWords bytes input needed code = (words : List Word) → AreWords words bytes → IsMeasured words input needed code

abbrev pub MeasuresNoOthers : (bytes : List ℕ) (needed code : ℕ) → Type 0
MeasuresNoOthers bytes needed code = ((words : List Word) → ¬ AreWords words bytes) → (code ≡ 8) × (needed ≡ 0)
