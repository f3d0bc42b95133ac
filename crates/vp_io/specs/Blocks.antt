-- What a sink that puts block by block tells: what the sink below took, and then what is held back.
use Rattle.std.specs.Prelude.{ℕ, List, take, drop}
use Rattle.std.specs.Io.KnownBytes.{Keeps, append_known}
use Rattle.vp_io.specs.Streams.{Told}

-- a block that is filled from the front: the bytes that wait in it, and how many more it has room for
pub record Waiting : Type 0 where
  pub bytes : List ℕ
  pub room : ℕ

-- the bytes of a block from the first that was not put, to the last that was taken
unfoldable pub waiting_in : ℕ → ℕ → List ℕ → List ℕ
waiting_in first used block = drop first (take used block)

-- a sink that holds bytes back: what the sink below tells, and the block
pub record HoldsBack : Type 0 where
  pub below : Told
  pub held : Waiting

-- what was taken is what the sink below took, and then what is held back; the faults are those of the sink below
abbrev pub told_by : HoldsBack → Told
told_by blocks = record { bytes = append_known blocks.below.bytes blocks.held.bytes; faults = blocks.below.faults }

-- what was taken is as before
abbrev pub KeepsTaken : HoldsBack → HoldsBack → Type 0
KeepsTaken old new = Keeps (told_by old).bytes (told_by new).bytes
