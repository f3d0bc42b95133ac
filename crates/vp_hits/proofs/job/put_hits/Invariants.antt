use Rattle.std.proofs.Common.{drop}
use Rattle.std.specs.Prelude.{slice_index}
use Rattle.vp_io.proofs.PutSoFar.{PutSoFar}
use Rattle.vp_text.specs.Written.{written}
use Rattle.vp_hits.specs.HitsJob.{hit_lines}
use Rattle.vp_hits.proofs.job.put_hits.Given as goal

abbrev pub invariant-loop-place : goal.invariant-loop-place
invariant-loop-place g l =
    PutSoFar (g.K.Sink.told l.fn.sink) (g.K.Sink.told l.sink) (written (hit_lines (slice_index l.many) l.coin l.all 0 l.lines)) (written (hit_lines (slice_index l.many) l.coin l.all l.place (drop l.place l.lines)))
