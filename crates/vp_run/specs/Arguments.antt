-- How the program ends on the arguments that the system hands over.
use Rattle.std.specs.Prelude.{◌≡◌, ℕ, List, [], drop, map, true, false, string_bytes, String}
use Rattle.std.specs.Vec.Iter.{into_iter_items}
use Rattle.std.specs.declared.vec.IntoIter.{IntoIter}
use Rattle.vp_text.specs.Lines.{Word}
use Rattle.vp_run.specs.Answer.{answer, needs_input}
use Rattle.vp_answer.specs.Outcome.{Outcome, Unread}
use Rattle.vp_io.specs.Streams.{Told}
use Rattle.vp_answer.specs.StatusCode.{code_of}
use Rattle.vp_answer.specs.declared.status.Status.{Status}

-- the words of the command line: the texts of all arguments but the first, which is the program's own name
abbrev pub words_of : {Z : Type 0} → IntoIter (String Z) Z → List Word
words_of arguments = map string_bytes (drop 1 (into_iter_items arguments))

-- the code is that of a status, with which these words end: words that need no input get their answer, and a command that reads gets the answer to its input
pub record Ended (words : List Word) (source left sink taken : Told) (code : ℕ) : Type 0 where
  pub status : Status
  pub code_is : code ≡ code_of status
  pub unread : needs_input words ≡ false → Unread (answer words []) sink taken status
  pub command : needs_input words ≡ true → Outcome (answer words) source left sink taken status
