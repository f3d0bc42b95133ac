-- What a call that puts a text to a sink promises.
use Rattle.std.specs.Prelude.{ℕ, List, Result, OnOk, OnErr}
use Rattle.std.specs.Io.KnownBytes.{Appends}
use Rattle.vp_io.specs.Causes.{HasCause}
use Rattle.vp_io.specs.Streams.{Told, TookPart}

-- where the call is Ok the sink took the text; else it took a proper beginning of it, and counted a fault
pub record Puts {T E : Type 0} (old new : Told) (result : Result T E) (text : List ℕ) : Type 0 where
  pub all : OnOk result (Appends old.bytes new.bytes text)
  pub part : OnErr result (TookPart old.bytes new.bytes text)
  pub cause : HasCause old.faults new.faults result
