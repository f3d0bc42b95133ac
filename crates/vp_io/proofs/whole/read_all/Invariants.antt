-- The bytes are all that the source gave so far, and no read has failed.
use Rattle.std.proofs.Common.{◌≡◌, ◌-◌, ◌≤◌, length}
use Rattle.std.specs.Io.KnownBytes.{Consumes}
use Rattle.vp_io.proofs.whole.read_all.Given as goal

abbrev pub invariant-loop-block : goal.invariant-loop-block
invariant-loop-block g l =
    Consumes (g.S.Source.told l.initial.source).bytes (g.S.Source.told l.source).bytes l.bytes.items
    × (length l.bytes.items ≤ 67108865)
    × ((g.S.Source.told l.source).faults ≡ (g.S.Source.told l.initial.source).faults)

abbrev pub decreases-loop-block : goal.decreases-loop-block
decreases-loop-block g l = 67108865 - length l.bytes.items
