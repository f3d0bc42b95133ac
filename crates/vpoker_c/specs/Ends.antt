-- How a call ends: its code, what stands in the room then, and how many of its bytes are the text. The codes are this program's own.
use Rattle.std.specs.Prelude.{◌≡◌, ◌⊎◌, ◌<◌, ◌≤◌, ℕ, true, List, ◌++◌, length, take, drop}
use Rattle.vp_text.specs.Lines.{Word}
use Rattle.vp_answer.specs.Answers.{Answer}
use Rattle.vp_answer.specs.StatusCode.{code_of}
use Rattle.vp_answer.specs.declared.status.Status.{Status}
use Rattle.vp_answer.specs.declared.status.Status.TheVariants.{ReadFault, WriteFault, NoMemory, TooLong}
use Rattle.vp_run.specs.Answer.{answer}
use Rattle.vp_run.specs.Memory.{IsTooLong}
use Rattle.vp_handed.specs.Words.{AreWords}

-- a text stands at the front of the room: as many bytes of it were taken as it has, and what is behind them is as before
pub record Holds (text before after : List ℕ) (taken : ℕ) : Type 0 where
  pub count : taken ≡ length text
  pub bytes : after ≡ text ++ drop (length text) before

-- nothing was written
pub record IsUntouched (before after : List ℕ) (taken : ℕ) : Type 0 where
  pub none : taken ≡ 0
  pub same : after ≡ before

-- the room has the whole text, and the status is the answer's
pub record IsWhole (due : Answer) (before after : List ℕ) (taken : ℕ) (status : Status) : Type 0 where
  pub is : status ≡ due.status
  pub fits : length due.text ≤ length before
  pub held : Holds due.text before after taken

-- the room is smaller than the text, and full of its beginning
pub record IsCut (due : Answer) (before after : List ℕ) (taken : ℕ) : Type 0 where
  pub short : length before < length due.text
  pub held : Holds (take (length before) due.text) before after taken

-- what a status says of the room: the answer that is due, the room before and after, and how many of its bytes are the text
abbrev pub Ends : Answer → List ℕ → List ℕ → ℕ → Status → Type 0
Ends due before after taken ReadFault = ⊥
Ends due before after taken WriteFault = IsCut due before after taken
Ends due before after taken NoMemory = IsUntouched before after taken
Ends due before after taken TooLong = IsUntouched before after taken
Ends due before after taken status = IsWhole due before after taken status

-- these words are answered to this input; one that is too long gets `TooLong`, if there is memory
pub record IsAnswered (words : List Word) (input before after : List ℕ) (taken code : ℕ) : Type 0 where
  pub status : Status
  pub code_is : code ≡ code_of status
  pub ends : Ends (answer words input) before after taken status
  pub long : status ≡ TooLong → IsTooLong words input
  pub only : IsTooLong words input → (status ≡ TooLong) ⊎ (status ≡ NoMemory)

-- bytes that are words get the answer to these words and the input
abbrev pub AnswersWords : (bytes input before after : List ℕ) (taken code : ℕ) → Type 0
AnswersWords bytes input before after taken code = (words : List Word) → AreWords words bytes → IsAnswered words input before after taken code

-- what was handed over is no words
pub record IsRefused (before after : List ℕ) (taken code : ℕ) : Type 0 where
  pub code_is : code ≡ 8
  pub untouched : IsUntouched before after taken

-- bytes that are no words are refused
abbrev pub RefusesOthers : (bytes before after : List ℕ) (taken code : ℕ) → Type 0
RefusesOthers bytes before after taken code = ((words : List Word) → ¬ AreWords words bytes) → IsRefused before after taken code
