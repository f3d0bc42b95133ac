-- How the program may end: what was read, what was written, and which faults came. The ways are this program's own (docs/FORMATS.md,
-- Refusals and the exit status).
use Rattle.std.specs.Prelude.{◌≡◌, ◌⊎◌, ◌<◌, ◌≤◌, ℕ, List, length, Some}
use Rattle.std.specs.Io.KnownBytes.{Appends, Keeps}
use Rattle.vp_io.specs.Causes.{Rose}
use Rattle.vp_io.specs.Streams.{Gave, GaveAll, GaveUpTo, Told, TookPart}
use Rattle.vp_answer.specs.Answers.{Answer}
use Rattle.vp_answer.specs.declared.status.Status.{Status}
use Rattle.vp_answer.specs.declared.status.Status.TheVariants.{Usage, ReadFault, WriteFault, NoMemory, TooLong}

-- the count of faults did not rise
abbrev pub NoFault : Told → Told → Type 0
NoFault before after = ¬ Rose before.faults after.faults

-- the source was read to its end without a fault, and gave these bytes, at most 67108864
pub record ReadWhole (before after : Told) (bytes : List ℕ) : Type 0 where
  pub gave : GaveAll before.bytes after.bytes bytes
  pub within : length bytes ≤ 67108864
  pub no_fault : after.faults ≡ before.faults

-- the sink took the whole text of the answer, and the status is the answer's
pub record Answered (due : Answer) (before after : Told) (status : Status) : Type 0 where
  pub is : status ≡ due.status
  pub text : Appends before.bytes after.bytes due.text
  pub no_fault : after.faults ≡ before.faults

-- a write failed, and the sink took a beginning of the text that is shorter than it
pub record CutOff (due : Answer) (before after : Told) : Type 0 where
  pub part : TookPart before.bytes after.bytes due.text
  pub rose : Rose before.faults after.faults
  pub later : before.faults ≤ after.faults

-- the sink took nothing
pub record Silent (before after : Told) : Type 0 where
  pub same : Keeps before.bytes after.bytes
  pub no_fault : after.faults ≡ before.faults

-- a read failed, and the source gave at most one byte more than an input may have
pub record ReadFailed (before after : Told) : Type 0 where
  pub gave : GaveUpTo before.bytes after.bytes 67108865
  pub rose : Rose before.faults after.faults
  pub later : before.faults ≤ after.faults

-- the source gave one byte more than an input may have, without a fault
pub record GaveTooMuch (before after : Told) : Type 0 where
  pub gave : Gave before.bytes after.bytes 67108865
  pub no_fault : after.faults ≡ before.faults

-- there was no memory for the input or its answer: no read failed, and the source gave at most one byte more than an input may have
pub record Unanswered (before after : Told) : Type 0 where
  pub gave : GaveUpTo before.bytes after.bytes 67108865
  pub no_fault : after.faults ≡ before.faults

-- how the answer to words that need no input ends
abbrev pub Unread : Answer → Told → Told → Status → Type 0
Unread due before after WriteFault = CutOff due before after
Unread due before after ReadFault = ⊥
Unread due before after TooLong = ⊥
Unread due before after NoMemory = ⊥
Unread due before after status = Answered due before after status

-- how the answer to an input that was read ends
abbrev pub Served : Answer → Told → Told → Status → Type 0
Served due before after WriteFault = CutOff due before after
Served due before after NoMemory = Silent before after
Served due before after ReadFault = ⊥
Served due before after TooLong = ⊥
Served due before after Usage = ⊥
Served due before after status = Answered due before after status

-- how a command ends, by its status: its answer to each input, the source before and after, then the sink before and after
abbrev pub Outcome : (List ℕ → Answer) → Told → Told → Told → Told → Status → Type 0
Outcome due source left sink taken ReadFault = ReadFailed source left × Silent sink taken
Outcome due source left sink taken TooLong = GaveTooMuch source left × Silent sink taken
Outcome due source left sink taken NoMemory = Unanswered source left × Silent sink taken
Outcome due source left sink taken Usage = ⊥
Outcome due source left sink taken WriteFault = (bytes : List ℕ) × ReadWhole source left bytes × CutOff (due bytes) sink taken
Outcome due source left sink taken status = (bytes : List ℕ) × ReadWhole source left bytes × Answered (due bytes) sink taken status

-- the status is the answer's, or `NoMemory`; for a longer input it is `TooLong` or `NoMemory`
pub record IsServed (due : List ℕ → Answer) (bytes : List ℕ) (status : Status) : Type 0 where
  pub fits : length bytes ≤ 67108864 → (status ≡ (due bytes).status) ⊎ (status ≡ NoMemory)
  pub longer : 67108864 < length bytes → (status ≡ TooLong) ⊎ (status ≡ NoMemory)

-- where no fault comes, each input of a command is served
abbrev pub EachInputIsServed : Type 0
EachInputIsServed = (due : List ℕ → Answer) (bytes : List ℕ) (source left sink taken : Told) (status : Status)
    → Outcome due source left sink taken status → source.bytes ≡ Some bytes → NoFault source left → NoFault sink taken
    → IsServed due bytes status

-- where no write fails, words that need no input get the status of their answer
abbrev pub WordsAreServed : Type 0
WordsAreServed = (due : Answer) (sink taken : Told) (status : Status) → Unread due sink taken status → NoFault sink taken → status ≡ due.status
