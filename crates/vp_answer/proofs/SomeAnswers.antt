-- Answers to what was read say something, and have not the status of words that are no command.
use Rattle.std.proofs.Common.{◌≡◌, ◌≢◌, ℕ, Bool, true, false, ◌<◌, List, [], ◌∷◌, ◌++◌, length, arith, length-append, Result, Ok, Err}
use Rattle.std.proofs.lemmas.List.Concat.{flat_map-append, flat_map-cons}
use Rattle.std.specs.Prelude.{codes}
use Rattle.std.specs.Fmt.{decimal}
use Rattle.vp_text.specs.Lines.{Word}
use Rattle.vp_text.specs.Sections.{Text}
use Rattle.vp_text.specs.Written.{line_of, spaced, written}
use Rattle.vp_answer.specs.Answers.{Said, answer_of, answer_read, finding_words, stop_answer}
use Rattle.vp_answer.specs.Jobs.{Due, DueOf, job_answer}
use Rattle.vp_answer.specs.declared.ending.Ending.{Ending}
use Rattle.vp_answer.specs.declared.ending.Ending.TheVariants as ending
use Rattle.vp_answer.specs.declared.status.Status.TheVariants.{Usage}
use Rattle.vp_answer.specs.declared.stop.Stop.{Stop}
use Rattle.vp_answer.specs.declared.stop.Stop.TheVariants.{Finding as Found, Record, Refused as Refusal}
use Rattle.vp_answer.specs.declared.work.Job.{Job}
use Rattle.vp_answer.specs.declared.work.Job.TheVariants.{Lent, Heap}

-- ---- some text

pub line_some : (words : List Word) → 0 < length (line_of words)
line_some words = omega (arith, length-append (spaced words) (10 ∷ []))

-- bytes, and a line behind them
pub line_behind : (front : List ℕ) (words : List Word) → 0 < length (front ++ line_of words)
line_behind front words = omega (arith, length-append front (line_of words), line_some words)

-- a first line
pub first_line : (line : List Word) (more : Text) → 0 < length (written (line ∷ more))
first_line line more = rw (flat_map-cons line_of line more) (omega (arith, length-append (line_of line) (written more), line_some line))

-- there is no line
abbrev pub no_lines : Text → Bool
no_lines [] = true
no_lines (line ∷ more) = false

-- some lines
pub some_lines : (text : Text) → no_lines text ≡ false → 0 < length (written text)
some_lines [] some = absurd cc
some_lines (line ∷ more) some = first_line line more

-- a line behind others
pub later_line : (front : Text) (line : List Word) (more : Text) → 0 < length (written (front ++ line ∷ more))
later_line front line more = rw (flat_map-append line_of front (line ∷ more)) (omega (arith, length-append (written front) (written (line ∷ more)), first_line line more))

pub stop_some : (stop : Stop) → 0 < length (stop_answer stop).text
stop_some (Refusal line) = line_some (codes "refused" ∷ decimal line ∷ [])
stop_some (Record place) = line_some (codes "refused" ∷ codes "record" ∷ decimal place ∷ [])
stop_some (Found at rule said due) = line_some (finding_words at rule said due)

pub some_text : {W H : Type 0} (lent : W → Due) (heap : H → DueOf) → ((work : W) → 0 < length (lent work).text) → ((work : H) → 0 < length (heap work).said.text)
    → (read : Result (Job W H) Stop) → 0 < length (answer_read (job_answer lent heap) read).text
some_text lent heap first second (Ok (Lent work)) = first work
some_text lent heap first second (Ok (Heap work)) = second work
some_text lent heap first second (Err stop) = stop_some stop

-- ---- no status of words that are no command

ending_usage : (said : Said) → (answer_of said).status ≢ Usage
ending_usage said = of_ending said.ending
  where
    of_ending : (e : Ending) → (answer_of (record { ending = e; text = said.text })).status ≢ Usage
    of_ending ending.Done same = absurd cc
    of_ending ending.Finding same = absurd cc
    of_ending ending.Refused same = absurd cc

pub no_usage : {W H : Type 0} (lent : W → Due) (heap : H → DueOf) (read : Result (Job W H) Stop) → (answer_read (job_answer lent heap) read).status ≢ Usage
no_usage lent heap (Ok (Lent work)) same = absurd cc
no_usage lent heap (Ok (Heap work)) same = ending_usage (heap work).said same
no_usage lent heap (Err (Refusal line)) same = absurd cc
no_usage lent heap (Err (Record place)) same = absurd cc
no_usage lent heap (Err (Found at rule said due)) same = absurd cc
