-- What becomes of an answer that was held back, when what is held back is put or lost.
use Rattle.std.specs.Prelude.{◌≡◌, ◌⊎◌, ◌≤◌, ℕ, List, [], Option, IfSome}
use Rattle.std.specs.Io.KnownBytes.{Appends}
use Rattle.vp_io.specs.Blocks.{HoldsBack}
use Rattle.vp_io.specs.Causes.{Rose}
use Rattle.vp_io.specs.Streams.{Told, TookPart}
use Rattle.vp_answer.specs.declared.status.Status.{Status}
use Rattle.vp_answer.specs.declared.status.Status.TheVariants.{ReadFault, WriteFault, NoMemory, TooLong}

-- a sink that tells what it took has taken nothing
abbrev pub TookNothing : Option (List ℕ) → Type 0
TookNothing known = IfSome known (λ taken. taken ≡ [])

-- all that was held back was put
pub record ClosedWell (status : Status) (held : HoldsBack) (after : Told) (ended : Status) : Type 0 where
  pub is : ended ≡ status
  pub put : Appends held.below.bytes after.bytes held.held.bytes
  pub no_fault : after.faults ≡ held.below.faults

-- a part of what was held back was put, and then a write failed
pub record ClosedShort (held : HoldsBack) (after : Told) (ended : Status) : Type 0 where
  pub is : ended ≡ WriteFault
  pub part : TookPart held.below.bytes after.bytes held.held.bytes
  pub rose : Rose held.below.faults after.faults
  pub later : held.below.faults ≤ after.faults

-- what was held back was not put
pub record ClosedOff (status : Status) (held : HoldsBack) (after : Told) (ended : Status) : Type 0 where
  pub is : ended ≡ status
  pub same : after ≡ held.below

-- where the answer is whole it is put, and else nothing more
abbrev pub Closed : Status → HoldsBack → Told → Status → Type 0
Closed ReadFault held after ended = ClosedOff ReadFault held after ended
Closed WriteFault held after ended = ClosedOff WriteFault held after ended
Closed NoMemory held after ended = ClosedOff NoMemory held after ended
Closed TooLong held after ended = ClosedOff TooLong held after ended
Closed status held after ended = ClosedWell status held after ended ⊎ ClosedShort held after ended
