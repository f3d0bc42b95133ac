-- What a sink that keeps a text tells of a call says what the room then has.
use Rattle.std.proofs.Common.{◌≡◌, ℕ, ◌<◌, ◌≤◌, Bool, true, false, List, [], ◌++◌, length, take, drop, refl, ap, sym, ◌∙◌, subst, arith, inl, inr, length-append, length-take-le, append-nil}
use Rattle.std.specs.Prelude.{Option, Some, None, ◌⊎◌, if◌then◌else◌}
use Rattle.std.specs.Option.{option_map_or}
use Rattle.vp_io.specs.Causes.{Rose, last_count}
use Rattle.vp_io.specs.Streams.{Told}
use Rattle.vp_answer.specs.Answers.{Answer}
use Rattle.vp_answer.specs.Outcome.{Outcome, Unread, ReadWhole, Answered, CutOff, Silent}
use Rattle.vp_answer.specs.declared.status.Status.{Status}
use Rattle.vp_answer.specs.declared.status.Status.TheVariants.{Done, Finding, Usage, Refused, ReadFault, WriteFault, NoMemory, TooLong}
use Rattle.vp_text.specs.Lines.{Word}
use Rattle.vp_run.specs.Answer.{answer, answer_to, needs_input}
use Rattle.vp_run.specs.Arguments.{Ended}
use Rattle.vp_command.specs.Commands.{command_of, reads}
use Rattle.vp_command.specs.declared.command.Command.{Command}
use Rattle.vp_command.specs.declared.command.Command.TheVariants.{Over, Tables}
use Rattle.vpoker_c.specs.Ends.{Ends, Holds, IsAnswered, IsCut, IsUntouched, IsWhole}
use Rattle.vpoker_c.specs.Keeping.{Kept, told_by}

-- a source of these bytes
abbrev source_of : List ℕ → Told
source_of bytes = record { bytes = Some bytes; faults = 0 }

-- a sink with this limit that has taken nothing
abbrev begun : ℕ → Told
begun limit = told_by (record { limit = limit; text = []; is_cut = false })

-- what was kept of a text that is due, by the status
abbrev KeepsPart : Answer → Kept → Status → Type 0
KeepsPart due kept ReadFault = ⊥
KeepsPart due kept WriteFault = (kept.is_cut ≡ true) × ((n : ℕ) × (n < length due.text) × (kept.text ≡ take n due.text))
KeepsPart due kept NoMemory = kept.text ≡ []
KeepsPart due kept TooLong = kept.text ≡ []
KeepsPart due kept status = (status ≡ due.status) × (kept.text ≡ due.text)

-- the limit is as before, and so much of the text was kept
pub record KeepsText (due : Answer) (limit : ℕ) (kept : Kept) (status : Status) : Type 0 where
  pub limit_is : kept.limit ≡ limit
  pub part : KeepsPart due kept status

-- a write failed where a fault is counted
cut_when : (is_cut : Bool) → Rose 0 (if is_cut then last_count else 0) → is_cut ≡ true
cut_when true rose = refl
cut_when false rose = absurd (omega (arith, rose.0))

cut_text : (due : Answer) (limit : ℕ) (kept : Kept) → CutOff due (begun limit) (told_by kept) → KeepsText due limit kept WriteFault
cut_text due limit kept cut =
    let (n, less, appends) = cut.part in
    record { limit_is = cc appends; part = (cut_when kept.is_cut cut.rose, (n, less, cc appends)) }

silent_text : (due : Answer) (limit : ℕ) (kept : Kept) → Silent (begun limit) (told_by kept) → (kept.limit ≡ limit) × (kept.text ≡ [])
silent_text due limit kept silent = (cc silent.same, cc silent.same)

whole_text : (due : Answer) (limit : ℕ) (kept : Kept) (status : Status) → Answered due (begun limit) (told_by kept) status
    → (kept.limit ≡ limit) × ((status ≡ due.status) × (kept.text ≡ due.text))
whole_text due limit kept status answered = (cc answered.text, (answered.is, cc answered.text))

-- words that need no input
unread_text : (due : Answer) (limit : ℕ) (kept : Kept) (status : Status) → Unread due (begun limit) (told_by kept) status → KeepsText due limit kept status
unread_text due limit kept ReadFault ended = absurd ended
unread_text due limit kept TooLong ended = absurd ended
unread_text due limit kept NoMemory ended = absurd ended
unread_text due limit kept WriteFault cut = cut_text due limit kept cut
unread_text due limit kept Done answered = let is = whole_text due limit kept Done answered in record { limit_is = is.0; part = is.1 }
unread_text due limit kept Finding answered = let is = whole_text due limit kept Finding answered in record { limit_is = is.0; part = is.1 }
unread_text due limit kept Usage answered = let is = whole_text due limit kept Usage answered in record { limit_is = is.0; part = is.1 }
unread_text due limit kept Refused answered = let is = whole_text due limit kept Refused answered in record { limit_is = is.0; part = is.1 }

unread_short : (due : Answer) (before after : Told) (status : Status) → Unread due before after status → status ≡ TooLong → ⊥
unread_short due before after TooLong ended is = ended
unread_short due before after ReadFault ended is = absurd (cc)
unread_short due before after NoMemory ended is = absurd (cc)
unread_short due before after WriteFault ended is = absurd (cc)
unread_short due before after Done ended is = absurd (cc)
unread_short due before after Finding ended is = absurd (cc)
unread_short due before after Usage ended is = absurd (cc)
unread_short due before after Refused ended is = absurd (cc)

-- a source in memory that is read to its end gives its bytes
read_is : (input left given : List ℕ) → ReadWhole (source_of input) (source_of left) given → given ≡ input
read_is input left given read =
    sym (read.gave.0 ∙ ap (λ (more : List ℕ). given ++ more) read.gave.1 ∙ append-nil given)

-- a command that reads its input
outcome_whole : (due : List ℕ → Answer) (input left given : List ℕ) (limit : ℕ) (kept : Kept) (status : Status)
    → ReadWhole (source_of input) (source_of left) given → Answered (due given) (begun limit) (told_by kept) status
    → (kept.limit ≡ limit) × ((status ≡ (due input).status) × (kept.text ≡ (due input).text))
outcome_whole due input left given limit kept status read answered =
    whole_text (due input) limit kept status (subst (λ (bytes : List ℕ). Answered (due bytes) (begun limit) (told_by kept) status) (read_is input left given read) answered)

outcome_text : (due : List ℕ → Answer) (input left : List ℕ) (limit : ℕ) (kept : Kept) (status : Status)
    → Outcome due (source_of input) (source_of left) (begun limit) (told_by kept) status → KeepsText (due input) limit kept status
outcome_text due input left limit kept ReadFault (failed, silent) = absurd (omega (arith, failed.rose.0))
outcome_text due input left limit kept TooLong (much, silent) = let is = silent_text (due input) limit kept silent in record { limit_is = is.0; part = is.1 }
outcome_text due input left limit kept NoMemory (unanswered, silent) = let is = silent_text (due input) limit kept silent in record { limit_is = is.0; part = is.1 }
outcome_text due input left limit kept Usage ended = absurd ended
outcome_text due input left limit kept WriteFault (given, read, cut) =
    cut_text (due input) limit kept (subst (λ (bytes : List ℕ). CutOff (due bytes) (begun limit) (told_by kept)) (read_is input left given read) cut)
outcome_text due input left limit kept Done (given, read, answered) = let is = outcome_whole due input left given limit kept Done read answered in record { limit_is = is.0; part = is.1 }
outcome_text due input left limit kept Finding (given, read, answered) = let is = outcome_whole due input left given limit kept Finding read answered in record { limit_is = is.0; part = is.1 }
outcome_text due input left limit kept Refused (given, read, answered) = let is = outcome_whole due input left given limit kept Refused read answered in record { limit_is = is.0; part = is.1 }

-- an input that was read whole is not too long
read_fits : (input left given : List ℕ) → ReadWhole (source_of input) (source_of left) given → 67108864 < length input → ⊥
read_fits input left given read long = omega (arith, ap length (read_is input left given read), read.within)

outcome_long : (due : List ℕ → Answer) (input left : List ℕ) (before after : Told) (status : Status)
    → Outcome due (source_of input) (source_of left) before after status → status ≡ TooLong → 67108864 < length input
outcome_long due input left before after TooLong (much, silent) is =
    let (given, gave, count) = much.gave in
    omega (arith, ap length gave, length-append given left, count)
outcome_long due input left before after ReadFault ended is = absurd (cc)
outcome_long due input left before after NoMemory ended is = absurd (cc)
outcome_long due input left before after WriteFault ended is = absurd (cc)
outcome_long due input left before after Done ended is = absurd (cc)
outcome_long due input left before after Finding ended is = absurd (cc)
outcome_long due input left before after Usage ended is = absurd (cc)
outcome_long due input left before after Refused ended is = absurd (cc)

outcome_only : (due : List ℕ → Answer) (input left : List ℕ) (before after : Told) (status : Status)
    → Outcome due (source_of input) (source_of left) before after status → 67108864 < length input → (status ≡ TooLong) ⊎ (status ≡ NoMemory)
outcome_only due input left before after TooLong ended long = inl refl
outcome_only due input left before after NoMemory ended long = inr refl
outcome_only due input left before after ReadFault (failed, silent) long = absurd (omega (arith, failed.rose.0))
outcome_only due input left before after Usage ended long = absurd ended
outcome_only due input left before after WriteFault (given, read, cut) long = absurd (read_fits input left given read long)
outcome_only due input left before after Done (given, read, answered) long = absurd (read_fits input left given read long)
outcome_only due input left before after Finding (given, read, answered) long = absurd (read_fits input left given read long)
outcome_only due input left before after Refused (given, read, answered) long = absurd (read_fits input left given read long)

-- ---- the room

-- what was kept stands at the front of the room
pub record IsPlaced (before after : List ℕ) (kept : Kept) (taken : ℕ) : Type 0 where
  pub within : length kept.text ≤ kept.limit
  pub cut : kept.is_cut ≡ true → length kept.text ≡ kept.limit
  pub count : taken ≡ length kept.text
  pub bytes : after ≡ kept.text ++ drop (length kept.text) before

-- of which text it is the front
holds : (text before after : List ℕ) (kept : Kept) (taken : ℕ) → IsPlaced before after kept taken → kept.text ≡ text → Holds text before after taken
holds text before after kept taken placed is = record {
  count = placed.count ∙ ap length is;
  bytes = placed.bytes ∙ ap (λ (front : List ℕ). front ++ drop (length front) before) is;
}

untouched : (before after : List ℕ) (kept : Kept) (taken : ℕ) → IsPlaced before after kept taken → kept.text ≡ [] → IsUntouched before after taken
untouched before after kept taken placed none =
    let held = holds [] before after kept taken placed none in
    record { none = held.count; same = held.bytes }

whole_room : (due : Answer) (before after : List ℕ) (kept : Kept) (taken : ℕ) (status : Status) → IsPlaced before after kept taken → kept.limit ≡ length before
    → (status ≡ due.status) × (kept.text ≡ due.text) → IsWhole due before after taken status
whole_room due before after kept taken status placed limit_is (is, text_is) = record {
  is = is;
  fits = omega (arith, ap length text_is, placed.within);
  held = holds due.text before after kept taken placed text_is;
}

cut_room : (due : Answer) (before after : List ℕ) (kept : Kept) (taken : ℕ) → IsPlaced before after kept taken → kept.limit ≡ length before
    → KeepsPart due kept WriteFault → IsCut due before after taken
cut_room due before after kept taken placed limit_is (cut, (n, less, text_is)) =
    let count : length kept.text ≡ n = ap length text_is ∙ length-take-le n due.text (omega (arith, less)) in
    let full : n ≡ length before = sym count ∙ placed.cut cut ∙ limit_is in
    record {
      short = omega arith;
      held = holds (take (length before) due.text) before after kept taken placed (text_is ∙ ap (λ (m : ℕ). take m due.text) full);
    }

room_ends : (due : Answer) (before after : List ℕ) (kept : Kept) (taken : ℕ) (status : Status) → IsPlaced before after kept taken
    → KeepsText due (length before) kept status → Ends due before after taken status
room_ends due before after kept taken ReadFault placed keeps = keeps.part
room_ends due before after kept taken WriteFault placed keeps = cut_room due before after kept taken placed keeps.limit_is keeps.part
room_ends due before after kept taken NoMemory placed keeps = untouched before after kept taken placed keeps.part
room_ends due before after kept taken TooLong placed keeps = untouched before after kept taken placed keeps.part
room_ends due before after kept taken Done placed keeps = whole_room due before after kept taken Done placed keeps.limit_is keeps.part
room_ends due before after kept taken Finding placed keeps = whole_room due before after kept taken Finding placed keeps.limit_is keeps.part
room_ends due before after kept taken Usage placed keeps = whole_room due before after kept taken Usage placed keeps.limit_is keeps.part
room_ends due before after kept taken Refused placed keeps = whole_room due before after kept taken Refused placed keeps.limit_is keeps.part

-- ---- a call

-- words that need no input have one answer
unread_answer_to : (command : Option Command) (bytes : List ℕ) → option_map_or reads command false ≡ false → answer_to command [] ≡ answer_to command bytes
unread_answer_to None bytes none = refl
unread_answer_to (Some Tables) bytes none = refl
unread_answer_to (Some (Over task)) bytes none = absurd (cc)

unread_answer : (words : List Word) (bytes : List ℕ) → needs_input words ≡ false → answer words [] ≡ answer words bytes
unfolding answer needs_input
unread_answer words bytes none = unread_answer_to (command_of words) bytes none

-- where there is no memory nothing is written
pub unserved : (words : List Word) (input room : List ℕ) → IsAnswered words input room room 0 6
unserved words input room = record {
  status = NoMemory;
  code_is = refl;
  ends = record { none = refl; same = refl };
  long = λ is. absurd (cc);
  only = λ long. inr refl;
}

by_need : (needs : Bool) (words : List Word) (input left before after : List ℕ) (kept : Kept) (taken code : ℕ) → needs_input words ≡ needs
    → IsPlaced before after kept taken → Ended words (source_of input) (source_of left) (begun (length before)) (told_by kept) code
    → IsAnswered words input before after taken code
by_need false words input left before after kept taken code needs placed ended =
    let unread = ended.unread needs in
    let keeps = unread_text (answer words []) (length before) kept ended.status unread in
    record {
      status = ended.status;
      code_is = ended.code_is;
      ends = subst (λ (due : Answer). Ends due before after taken ended.status) (unread_answer words input needs)
          (room_ends (answer words []) before after kept taken ended.status placed keeps);
      long = λ is. absurd (unread_short (answer words []) (begun (length before)) (told_by kept) ended.status unread is);
      only = λ long. absurd (cc (needs, long.0));
    }
by_need true words input left before after kept taken code needs placed ended =
    let outcome = ended.command needs in
    let keeps = outcome_text (answer words) input left (length before) kept ended.status outcome in
    record {
      status = ended.status;
      code_is = ended.code_is;
      ends = room_ends (answer words input) before after kept taken ended.status placed keeps;
      long = λ is. (needs, outcome_long (answer words) input left (begun (length before)) (told_by kept) ended.status outcome is);
      only = λ long. outcome_only (answer words) input left (begun (length before)) (told_by kept) ended.status outcome long.1;
    }

-- what the program ends with, and what the room then has
pub answered : (words : List Word) (input left before after : List ℕ) (kept : Kept) (taken code : ℕ)
    → IsPlaced before after kept taken → Ended words (source_of input) (source_of left) (begun (length before)) (told_by kept) code
    → IsAnswered words input before after taken code
answered words input left before after kept taken code placed ended =
    by_need (needs_input words) words input left before after kept taken code refl placed ended
