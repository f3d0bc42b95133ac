-- What a job takes and says, and what is made of an input that was read. They are this program's own (docs/FORMATS.md, Commands).
use Rattle.std.specs.Prelude.{ℕ, Bool, true, false, List, Result, Ok, Err}
use Rattle.vp_answer.specs.Answers.{Answer, Said, answer_of, done}
use Rattle.vp_answer.specs.declared.stop.Stop.{Stop}
use Rattle.vp_answer.specs.declared.stop.Stop.TheVariants.{Refused as Refusal}
use Rattle.vp_answer.specs.declared.work.Job.{Job}
use Rattle.vp_answer.specs.declared.work.Job.TheVariants.{Lent, Heap}

-- a job's words of memory, of 64 bits each, and its text
pub record Due : Type 0 where
  pub words : ℕ
  pub text : List ℕ

-- the same, and how it ends
pub record DueOf : Type 0 where
  pub words : ℕ
  pub said : Said

-- what was read makes a job, or is refused at a line
abbrev pub read_as : {A W : Type 0} → (A → W) → Result A ℕ → Result W Stop
read_as job (Ok read) = Ok (job read)
read_as job (Err line) = Err (Refusal line)

-- one of two kinds of job, made of a job
abbrev pub as_job : {W V : Type 0} → (W → V) → Result W Stop → Result V Stop
as_job kind (Ok work) = Ok (kind work)
as_job kind (Err stop) = Err stop

-- the answer of a job
abbrev pub job_answer : {W H : Type 0} → (W → Due) → (H → DueOf) → Job W H → Answer
job_answer lent heap (Lent work) = done (lent work).text
job_answer lent heap (Heap work) = answer_of (heap work).said

-- how many words of 64 bits it takes
abbrev pub job_words : {W H : Type 0} → (W → Due) → (H → DueOf) → Job W H → ℕ
job_words lent heap (Lent work) = (lent work).words
job_words lent heap (Heap work) = (heap work).words

-- it takes no memory beside these words
abbrev pub job_alone : {W H : Type 0} → Job W H → Bool
job_alone (Lent work) = true
job_alone (Heap work) = false
