-- How a command ends is read off its status.
use Rattle.std.proofs.Common.{◌≡◌, ℕ, ◌≤◌, List, [], length, refl, ap, ◌∙◌, subst, inl, inr, arith, length-append}
use Rattle.std.specs.Prelude.{Option, Some, None, IfSome}
use Rattle.std.proofs.KnownBytes.{Consumes-all}
use Rattle.vp_io.specs.Streams.{Gave, GaveAll, GaveUpTo}
use Rattle.vp_answer.specs.Answers.{Answer}
use Rattle.vp_answer.specs.Outcome.{Outcome, ReadWhole, Served, Answered, IsServed, EachInputIsServed, WordsAreServed}
use Rattle.vp_io.specs.Streams.{Told}
use Rattle.vp_answer.specs.declared.status.Status.{Status}
use Rattle.vp_answer.specs.declared.status.Status.TheVariants.{Done, Finding, Usage, Refused, ReadFault, WriteFault, NoMemory, TooLong}

-- a source that tells its bytes and is read to its end gives them all
gave_all : (before after : Option (List ℕ)) (bytes given : List ℕ) → before ≡ Some bytes → GaveAll before after given → given ≡ bytes
gave_all before after bytes given told (gave, end) =
    subst (λ (b : Option (List ℕ)). IfSome b (λ xs. given ≡ xs)) told (Consumes-all before after given [] given gave end refl)

-- a source gives no more than it has
no_more : (before after : Option (List ℕ)) (bytes : List ℕ) (n : ℕ) → before ≡ Some bytes → Gave before after n → n ≤ length bytes
no_more (Some xs) None bytes n told (given, gave, count) = absurd gave
no_more (Some xs) (Some ys) bytes n told (given, gave, count) =
    let whole : xs ≡ bytes = cc in
    omega (arith, ap length gave, length-append given ys, ap length whole, count)
no_more None after bytes n told gave = absurd (cc)

-- an input that was read whole gets the status of its answer
read_whole : (due : List ℕ → Answer) (bytes given : List ℕ) (source left sink taken : Told) (status : Status)
    → source.bytes ≡ Some bytes → ReadWhole source left given → Answered (due given) sink taken status → IsServed due bytes status
read_whole due bytes given source left sink taken status told read answered =
    let same = gave_all source.bytes left.bytes bytes given told read.gave in
    record {
      fits = λ _. inl (answered.is ∙ ap (λ (b : List ℕ). (due b).status) same);
      longer = λ long. absurd (omega (arith, ap length same, read.within));
    }

-- a source that gave at most so many bytes gave at most more
gave_fewer : (before after : Option (List ℕ)) (bytes : List ℕ) (n most : ℕ) → GaveAll before after bytes → length bytes ≤ n → n ≤ most → GaveUpTo before after most
gave_fewer before after bytes n most gave within more = (bytes, gave.0, omega (arith, within, more))

-- how an input ends that was read whole, and whose answer was served
outcome_read : (due : List ℕ → Answer) (bytes : List ℕ) (source left sink taken : Told) (status : Status)
    → ReadWhole source left bytes → Served (due bytes) sink taken status → Outcome due source left sink taken status
outcome_read due bytes source left sink taken NoMemory read silent =
    (record { gave = gave_fewer source.bytes left.bytes bytes 67108864 67108865 read.gave read.within (omega arith); no_fault = read.no_fault }, silent)
outcome_read due bytes source left sink taken ReadFault read ended = absurd ended
outcome_read due bytes source left sink taken TooLong read ended = absurd ended
outcome_read due bytes source left sink taken WriteFault read cut = (bytes, read, cut)
outcome_read due bytes source left sink taken Done read answered = (bytes, read, answered)
outcome_read due bytes source left sink taken Finding read answered = (bytes, read, answered)
outcome_read due bytes source left sink taken Usage read ended = absurd ended
outcome_read due bytes source left sink taken Refused read answered = (bytes, read, answered)

pub served_outcome : (due : List ℕ → Answer) (bytes : List ℕ) (source left sink taken : Told) (status : Status)
    → GaveAll source.bytes left.bytes bytes → length bytes ≤ 67108864 → left.faults ≡ source.faults → Served (due bytes) sink taken status
    → Outcome due source left sink taken status
served_outcome due bytes source left sink taken status gave within calm served =
    outcome_read due bytes source left sink taken status (record { gave = gave; within = within; no_fault = calm }) served

pub each_input : EachInputIsServed
each_input due bytes source left sink taken ReadFault (failed, silent) told calm quiet = absurd (calm failed.rose)
each_input due bytes source left sink taken TooLong (much, silent) told calm quiet =
    let long = no_more source.bytes left.bytes bytes 67108865 told much.gave in
    record { fits = λ short. absurd (omega arith); longer = λ _. inl refl }
each_input due bytes source left sink taken NoMemory outcome told calm quiet =
    record { fits = λ _. inr refl; longer = λ _. inr refl }
each_input due bytes source left sink taken WriteFault (given, read, cut) told calm quiet = absurd (quiet cut.rose)
each_input due bytes source left sink taken Done (given, read, answered) told calm quiet = read_whole due bytes given source left sink taken Done told read answered
each_input due bytes source left sink taken Finding (given, read, answered) told calm quiet = read_whole due bytes given source left sink taken Finding told read answered
each_input due bytes source left sink taken Usage ended told calm quiet = absurd ended
each_input due bytes source left sink taken Refused (given, read, answered) told calm quiet = read_whole due bytes given source left sink taken Refused told read answered

pub all_words : WordsAreServed
all_words due sink taken ReadFault ended quiet = absurd ended
all_words due sink taken TooLong ended quiet = absurd ended
all_words due sink taken NoMemory ended quiet = absurd ended
all_words due sink taken WriteFault cut quiet = absurd (quiet cut.rose)
all_words due sink taken Done answered quiet = answered.is
all_words due sink taken Finding answered quiet = answered.is
all_words due sink taken Usage answered quiet = answered.is
all_words due sink taken Refused answered quiet = answered.is
