use Rattle.std.proofs.Common.{arith}
use Rattle.vp_io.proofs.PutSoFar.{put_all, put_halted, put_more, put_start}
use Rattle.vp_meter.proofs.MeterText.{segments_end, segments_next}
use Rattle.vp_meter.proofs.report.put_segments.Goals as goal

pub loop-segment-init : goal.loop-segment-init
loop-segment-init g c = put_start _ _

pub returns-in_err-put_segment : goal.returns-in_err-put_segment
returns-in_err-put_segment g c =
    put_halted _ (segments_next c.args.segments.now c.loop-segment.segment-index (omega arith)) c.in_err-put_segment.was c.from_residual.ensures.0 c.put_segment.ensures c.loop-segment.invariant

pub loop-segment-preserved : goal.loop-segment-preserved
loop-segment-preserved g c = put_more (segments_next c.args.segments.now c.loop-segment.segment-index (omega arith)) c.in_ok-put_segment.was c.put_segment.ensures c.loop-segment.invariant

pub returns : goal.returns
returns g c = put_all (segments_end c.args.segments.now c.loop-segment.segment-index (omega arith)) c.loop-segment.invariant
