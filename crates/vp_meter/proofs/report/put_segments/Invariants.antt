use Rattle.std.proofs.Common.{map, drop}
use Rattle.vp_text.specs.Written.{written}
use Rattle.vp_io.proofs.PutSoFar.{PutSoFar}
use Rattle.vp_meter.specs.Spelling.{segment_words}
use Rattle.vp_meter.proofs.report.put_segments.Given as goal

abbrev pub invariant-loop-segment : goal.invariant-loop-segment
invariant-loop-segment g l = PutSoFar (g.K.Sink.told l.fn.sink) (g.K.Sink.told l.sink) (written (map segment_words l.segments)) (written (map segment_words (drop l.segment-index l.segments)))
