use Rattle.std.proofs.Common.{◌≡◌, ◌<◌, ◌≤◌, ◌^◌, length, drop}
use Rattle.vp_csv.specs.Kept.{mark_of}
use Rattle.vp_csv.proofs.kept.mark_of.Given as goal

abbrev pub invariant-bytes : goal.invariant-bytes
invariant-bytes l = record {
  inside : l.left ≤ length l.name;
  value : l.mark ≡ mark_of (drop l.left l.name);
  below : l.mark < 2 ^ 32;
}

abbrev pub decreases-bytes : goal.decreases-bytes
decreases-bytes l = l.left
