-- How much memory an answer needs beside its input. It is this program's own (docs/FORMATS.md, Commands).
use Rattle.std.specs.Prelude.{◌<◌, ◌⊎◌, ℕ, Bool, true, false, List, Option, Some, None, ◌≡◌, length}
use Rattle.vp_answer.specs.Answers.{words_read}
use Rattle.vp_answer.specs.Asking.{alone_read}
use Rattle.vp_answer.specs.Jobs.{job_alone, job_words}
use Rattle.vp_answer.specs.declared.status.Status.{Status}
use Rattle.vp_answer.specs.declared.status.Status.TheVariants.{NoMemory, TooLong}
use Rattle.vp_command.specs.Commands.{command_of}
use Rattle.vp_command.specs.declared.command.Command.{Command}
use Rattle.vp_command.specs.declared.command.Command.TheVariants.{Over, Tables}
use Rattle.vp_run.specs.Answer.{heap_due, job_of, lent_due, needs_input}

-- what a command needs; `tables` reads no input
abbrev pub command_room : Option Command → List ℕ → ℕ
command_room None bytes = 0
command_room (Some Tables) bytes = 0
command_room (Some (Over task)) bytes = words_read (job_words lent_due heap_due) (job_of task bytes)

-- how many words of 64 bits the answer to these words and this input needs
unfoldable pub region_words : List (List ℕ) → List ℕ → ℕ
region_words words bytes = command_room (command_of words) bytes

-- it needs no memory beside these words
abbrev pub command_alone : Option Command → List ℕ → Bool
command_alone None bytes = true
command_alone (Some Tables) bytes = true
command_alone (Some (Over task)) bytes = alone_read job_alone (job_of task bytes)

-- the answer to these words and this input needs no memory beside its words
unfoldable pub in_region : List (List ℕ) → List ℕ → Bool
in_region words bytes = command_alone (command_of words) bytes

-- ---- words that are lent

-- the words read the input, and it has more bytes than an input may have
abbrev pub IsTooLong : List (List ℕ) → List ℕ → Type 0
IsTooLong words input = (needs_input words ≡ true) × (67108864 < length input)

-- the answer takes more than so many words of 64 bits
abbrev pub WantsMore : List (List ℕ) → List ℕ → ℕ → Type 0
WantsMore words input lent = (lent < region_words words input) ⊎ (in_region words input ≡ false)

-- so many words are what the answer takes, and it takes no more than words
pub record IsEnough (words : List (List ℕ)) (input : List ℕ) (n : ℕ) : Type 0 where
  pub count : n ≡ region_words words input
  pub alone : in_region words input ≡ true
  pub within : ¬ IsTooLong words input

-- no number of words is enough: the input is too long, or its answer takes memory beside its words
abbrev pub IsShort : List (List ℕ) → List ℕ → Status → Type 0
IsShort words input status =
    ((status ≡ TooLong) × IsTooLong words input) ⊎ ((status ≡ NoMemory) × (in_region words input ≡ false) × ¬ IsTooLong words input)
