-- What the program answers to its words and its input. Statuses and texts are this program's own (docs/FORMATS.md).
use Rattle.std.specs.Prelude.{◌≡◌, ◌≢◌, ℕ, Bool, true, false, List, [], ◌∷◌, ◌++◌, Option, Some, None, is_some, Result, codes}
use Rattle.std.specs.Option.{option_map_or}
use Rattle.vp_text.specs.Written.{line_of, written}
use Rattle.vp_pay.specs.BuiltIn.{built_in}
use Rattle.vp_pay.specs.Spelling.{table_text}
use Rattle.vp_answer.specs.Answers.{Answer, answer_read, done}
use Rattle.vp_answer.specs.Jobs.{Due, DueOf, as_job, job_answer}
use Rattle.vp_answer.specs.declared.status.Status.TheVariants.{Usage}
use Rattle.vp_answer.specs.declared.stop.Stop.{Stop}
use Rattle.vp_answer.specs.declared.work.Job.{Job}
use Rattle.vp_answer.specs.declared.work.Job.TheVariants.{Lent, Heap}
use Rattle.vp_command.specs.Commands.{command_of, reads}
use Rattle.vp_command.specs.declared.command.Command.{Command}
use Rattle.vp_command.specs.declared.command.Command.TheVariants.{Over, Tables}
use Rattle.vp_command.specs.declared.command.Task.{Task}
use Rattle.vp_command.specs.declared.command.Task.TheVariants as task
use Rattle.vp_deal.specs.Deal.{deal_due, deal_job}
use Rattle.vp_holds.specs.Holds.{holds_due}
use Rattle.vp_cert.specs.Certify.{certify_due, certify_job}
use Rattle.vp_audit.specs.Audit.{audit_due, audit_job}
use Rattle.vp_cross.specs.Cross.{cross_due, cross_job}
use Rattle.vp_check.specs.CheckJob.{check_job, checked_due}
use Rattle.vp_replay.specs.Replay.{replay_due, replay_job}
use Rattle.vp_meter.specs.Meter.{meter_due, meter_job}
use Rattle.vp_multi.specs.Multi.{multi_due, multi_job}
use Rattle.vp_hits.specs.HitsJob.{hits_due, hits_job}
use Rattle.vp_sessions.specs.Sessions.{sessions_due, sessions_job}
use Rattle.vp_gen.specs.Play.{play_due, play_job}
use Rattle.vp_audit.specs.Compile.{compile_due, compile_job}
use Rattle.vp_run.specs.declared.job.HeapJob.{HeapJob}
use Rattle.vp_run.specs.declared.job.HeapJob.TheVariants as heap
use Rattle.vp_run.specs.declared.job.LentJob.{LentJob}
use Rattle.vp_run.specs.declared.job.LentJob.TheVariants as lent

-- ---- what is left to do once an input is read

-- in lent words alone: how many, and the text
abbrev pub lent_due : LentJob → Due
lent_due (lent.Deal job) = deal_due job
lent_due (lent.Holds job) = holds_due job
lent_due (lent.Certify job) = certify_due job
lent_due (lent.Audit job) = audit_due job
lent_due (lent.Cross job) = cross_due job
lent_due (lent.Checked job) = checked_due job
lent_due (lent.Replay job) = replay_due job
lent_due (lent.Meter job) = meter_due job
lent_due (lent.Multi job) = multi_due job
lent_due (lent.Hits job) = hits_due job

-- with memory of its own beside them: how many words, how it ends, and the text
abbrev pub heap_due : HeapJob → DueOf
heap_due (heap.Sessions job) = sessions_due job
heap_due (heap.Play job) = play_due job
heap_due (heap.Compile job) = compile_due job

-- what a task leaves to do, or where its input is stopped at
abbrev pub job_of : Task → List ℕ → Result (Job LentJob HeapJob) Stop
job_of (task.Deal coin) bytes = as_job (λ job. Lent (lent.Deal job)) (deal_job coin bytes)
job_of (task.Holds coin) bytes = as_job (λ job. Lent (lent.Holds job)) (deal_job coin bytes)
job_of (task.Certify coin) bytes = as_job (λ job. Lent (lent.Certify job)) (certify_job coin bytes)
job_of (task.Audit coin) bytes = as_job (λ job. Lent (lent.Audit job)) (audit_job coin bytes)
job_of (task.Cross coin) bytes = as_job (λ job. Lent (lent.Cross job)) (cross_job coin bytes)
job_of (task.Check from count) bytes = as_job (λ job. Lent (lent.Checked job)) (check_job from count bytes)
job_of task.Replay bytes = as_job (λ job. Lent (lent.Replay job)) (replay_job bytes)
job_of (task.Meter coin name lo hi) bytes = as_job (λ job. Lent (lent.Meter job)) (meter_job coin name lo hi bytes)
job_of (task.Multi coin hands) bytes = as_job (λ job. Lent (lent.Multi job)) (multi_job coin hands bytes)
job_of (task.Hits coin) bytes = as_job (λ job. Lent (lent.Hits job)) (hits_job coin bytes)
job_of task.Sessions bytes = as_job (λ job. Heap (heap.Sessions job)) (sessions_job bytes)
job_of (task.Play coin seed games) bytes = as_job (λ job. Heap (heap.Play job)) (play_job coin seed games bytes)
job_of (task.Compile coin millionths) bytes = as_job (λ job. Heap (heap.Compile job)) (compile_job coin millionths bytes)

-- ---- words that need no input

-- the answer to words that are no command
unfoldable pub usage : Answer
usage = record { status = Usage; text = line_of (codes "usage" ∷ []) }

-- the spelling of a built-in table
abbrev pub built_in_text : ℕ → List ℕ
built_in_text i = option_map_or (λ t. written (table_text t)) (built_in i) []

-- the answer of `tables`: the four built-in tables, one after another
unfoldable pub tables_answer : Answer
tables_answer = done (built_in_text 0 ++ (built_in_text 1 ++ (built_in_text 2 ++ built_in_text 3)))

-- ---- all commands

-- the answer of a task to an input: that of what it leaves to do, or of where the input is stopped at
abbrev pub task_answer : Task → List ℕ → Answer
task_answer task bytes = answer_read (job_answer lent_due heap_due) (job_of task bytes)

-- the answer of a command to an input
abbrev pub command_answer : Command → List ℕ → Answer
command_answer Tables bytes = tables_answer
command_answer (Over task) bytes = task_answer task bytes

-- the answer to words, by the command that they are, if they are one
abbrev pub answer_to : Option Command → List ℕ → Answer
answer_to None bytes = usage
answer_to (Some command) bytes = command_answer command bytes

-- the words are a command, with its numbers in range
unfoldable pub is_command : List (List ℕ) → Bool
is_command words = is_some (command_of words)

-- the words are a command that reads its input
unfoldable pub needs_input : List (List ℕ) → Bool
needs_input words = option_map_or reads (command_of words) false

-- the answer to these words and this input
unfoldable pub answer : List (List ℕ) → List ℕ → Answer
answer words bytes = answer_to (command_of words) bytes

-- words that are no command have the line on usage for an answer, and no command has that status
pub record UsageIsForNoCommand : Type 0 where
  pub no_command : (words : List (List ℕ)) (bytes : List ℕ) → is_command words ≡ false → answer words bytes ≡ usage
  pub command : (words : List (List ℕ)) (bytes : List ℕ) → is_command words ≡ true → (answer words bytes).status ≢ Usage

-- words that are a task have the answer of that task
abbrev pub AnswersAreOfTasks : Type 0
AnswersAreOfTasks = (words : List (List ℕ)) (task : Task) (bytes : List ℕ) → command_of words ≡ Some (Over task) → answer words bytes ≡ task_answer task bytes
