-- Words that are no command have one answer, whatever the input; words that are a task have the answer of that task.
use Rattle.std.proofs.Common.{◌≡◌, ◌≢◌, ℕ, ◌<◌, List, [], ◌++◌, length, true, false, refl, Option, Some, None, sym, ap, arith, length-append}
use Rattle.std.specs.Prelude.{is_some}
use Rattle.vp_answer.specs.Answers.{Answer, answer_of, done}
use Rattle.vp_answer.specs.declared.status.Status.TheVariants.{Usage}
use Rattle.vp_answer.proofs.SomeAnswers.{no_usage, some_text}
use Rattle.vp_command.specs.Commands.{command_of}
use Rattle.vp_command.specs.declared.command.Command.{Command}
use Rattle.vp_command.specs.declared.command.Command.TheVariants.{Over, Tables}
use Rattle.vp_pay.specs.Spelling.{table_text}
use Rattle.vp_run.specs.Answer.{AnswersAreOfTasks, UsageIsForNoCommand, answer, answer_to, built_in_text, heap_due, is_command, job_of, lent_due, tables_answer, task_answer, usage}
use Rattle.vp_run.specs.SomeText.{heap_some, lent_some}

no_answer : (command : Option Command) (bytes : List ℕ) → is_some command ≡ false → answer_to command bytes ≡ usage
no_answer None bytes none = refl
no_answer (Some command) bytes none = absurd (cc)

command_usage : (command : Option Command) (bytes : List ℕ) → is_some command ≡ true → (answer_to command bytes).status ≢ Usage
unfolding tables_answer
command_usage None bytes some = absurd (cc)
command_usage (Some (Over task)) bytes some = no_usage lent_due heap_due (job_of task bytes)
command_usage (Some Tables) bytes some = λ same. absurd (cc)

-- the line on usage is for words that are no command, and for no others
pub usage_is : UsageIsForNoCommand
unfolding answer is_command
usage_is = record {
  no_command = λ words bytes none. no_answer (command_of words) bytes none;
  command = λ words bytes some. command_usage (command_of words) bytes some;
}

-- the answer to the words is that of the command that was read from them
answer_as : (words : List (List ℕ)) (command : Option Command) (bytes : List ℕ) → command_of words ≡ command → answer_to command bytes ≡ answer words bytes
unfolding answer
answer_as words command bytes is = ap (λ (c : Option Command). answer_to c bytes) (sym is)

pub of_tasks : AnswersAreOfTasks
of_tasks words task bytes is = sym (answer_as words (Some (Over task)) bytes is)

-- ---- no answer is empty

front_some : (front back : List ℕ) → 0 < length front → 0 < length (front ++ back)
front_some front back some = omega (arith, length-append front back)

first_some : 0 < length (built_in_text 0)
unfolding table_text
first_some = omega arith

to_some : (command : Option Command) (bytes : List ℕ) → 0 < length (answer_to command bytes).text
unfolding usage tables_answer
to_some None bytes = omega arith
to_some (Some (Over task)) bytes = some_text lent_due heap_due lent_some heap_some (job_of task bytes)
to_some (Some Tables) bytes = front_some (built_in_text 0) (built_in_text 1 ++ (built_in_text 2 ++ built_in_text 3)) first_some

pub answer_some : (words : List (List ℕ)) (bytes : List ℕ) → 0 < length (answer words bytes).text
unfolding answer
answer_some words bytes = to_some (command_of words) bytes
