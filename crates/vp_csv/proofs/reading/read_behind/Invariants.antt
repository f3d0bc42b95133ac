use Rattle.std.proofs.Common.{◌≤◌, length}
use Rattle.vp_csv.proofs.SoFar.{SoFar}
use Rattle.vp_csv.proofs.reading.read_behind.Given as goal

abbrev pub invariant-records : goal.invariant-records
invariant-records l = record {
  so_far : SoFar l.deck l.fn.records l.records l.sessions.items l.count;
  most : l.count ≤ 400000;
}

abbrev pub decreases-records : goal.decreases-records
decreases-records l = length l.records
