-- The bytes that were taken so far are the front, and no write has failed.
use Rattle.std.proofs.Common.{◌≡◌, ◌-◌, ◌≤◌, length, take}
use Rattle.std.specs.Io.KnownBytes.{Appends}
use Rattle.vp_io.proofs.whole.put_front.Given as goal

abbrev pub invariant-loop-taken : goal.invariant-loop-taken
invariant-loop-taken g l = record {
  within : l.taken ≤ length l.bytes;
  took : Appends (g.K.Sink.told l.initial.sink).bytes (g.K.Sink.told l.sink).bytes (take l.taken l.bytes);
  calm : (g.K.Sink.told l.sink).faults ≡ (g.K.Sink.told l.initial.sink).faults;
}

abbrev pub decreases-loop-taken : goal.decreases-loop-taken
decreases-loop-taken g l = length l.bytes - l.taken
