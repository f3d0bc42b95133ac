-- More than six words are no command, whatever they are.
use Rattle.std.proofs.Common.{◌≡◌, ℕ, Bool, List, [], take, refl, ap, ◌∙◌, subst, true, false, Option}
use Rattle.std.specs.Option.{option_map_or}
use Rattle.vp_io.specs.Streams.{Told}
use Rattle.vp_text.specs.Lines.{Word}
use Rattle.vp_answer.specs.Answers.{Answer}
use Rattle.vp_run.specs.Answer.{answer, answer_to, needs_input}
use Rattle.vp_run.specs.Arguments.{Ended}
use Rattle.vp_command.specs.Commands.{reads}
use Rattle.vp_command.proofs.FewWords.{command_of-take}
use Rattle.vp_run.specs.Memory.{command_alone, command_room, in_region, region_words}
use Rattle.vp_answer.specs.Outcome.{Outcome, Unread}
use Rattle.vp_answer.specs.StatusCode.{code_of}
use Rattle.vp_command.specs.declared.command.Command.{Command}
use Rattle.vp_answer.specs.declared.status.Status.{Status}

pub needs-take : (words : List Word) → needs_input (take 6 words) ≡ needs_input words
unfolding needs_input
needs-take words = ap (λ (c : Option Command). option_map_or reads c false) (command_of-take words)

pub answer-take : (words : List Word) → answer (take 6 words) ≡ answer words
unfolding answer
answer-take words = ap {B = List ℕ → Answer} (λ (c : Option Command) (bytes : List ℕ). answer_to c bytes) (command_of-take words)

pub region-take : (words : List Word) → region_words (take 6 words) ≡ region_words words
unfolding region_words
region-take words = ap {B = List ℕ → ℕ} (λ (c : Option Command) (bytes : List ℕ). command_room c bytes) (command_of-take words)

pub alone-take : (words : List Word) → in_region (take 6 words) ≡ in_region words
unfolding in_region
alone-take words = ap {B = List ℕ → Bool} (λ (c : Option Command) (bytes : List ℕ). command_alone c bytes) (command_of-take words)

-- what the first six words end with, all words do
pub ended_as : (words given : List Word) (source left sink taken : Told) (status : Status) (code : ℕ) → given ≡ take 6 words → code ≡ code_of status
    → (needs_input given ≡ false → Unread (answer given []) sink taken status) → (needs_input given ≡ true → Outcome (answer given) source left sink taken status) → Ended words source left sink taken code
ended_as words given source left sink taken status code is code_is unread command =
    let needs : needs_input given ≡ needs_input words = ap needs_input is ∙ needs-take words in
    let same : answer given ≡ answer words = ap answer is ∙ answer-take words in
    record {
      status = status;
      code_is = code_is;
      unread = λ none. subst (λ (f : List ℕ → Answer). Unread (f []) sink taken status) same (unread (needs ∙ none));
      command = λ some. subst (λ (f : List ℕ → Answer). Outcome f source left sink taken status) same (command (needs ∙ some));
    }
