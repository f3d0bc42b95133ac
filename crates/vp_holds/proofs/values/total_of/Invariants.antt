use Rattle.std.proofs.Common.{◌≡◌, ◌*◌, slice_index, sum_by}
use Rattle.vp_sets.specs.Sets.{deck}
use Rattle.vp_holds.specs.Holds.{line_pays}
use Rattle.vp_holds.proofs.values.total_of.Given as goal

abbrev pub invariant-loop-place : goal.invariant-loop-place
invariant-loop-place l = l.total ≡ sum_by (λ place. slice_index (line_pays l.table l.coin) place * slice_index l.row place) (deck l.place)
