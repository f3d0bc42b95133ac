use Rattle.vp_meter.proofs.SegmentLaws.{segments_climb, segments_best}
use Rattle.vp_meter.proofs.segment.segments.Goals as goal

pub returns-clause-segments : goal.returns-clause-segments
returns-clause-segments c = c.segments_of.ensures _ c.lines.ensures

pub returns-clause-climbing : goal.returns-clause-climbing
returns-clause-climbing c = segments_climb _ _ _ _ c.lines.ensures.straight (c.segments_of.ensures _ c.lines.ensures)

pub returns-clause-best : goal.returns-clause-best
returns-clause-best c = λ x from to. segments_best _ _ _ x _ (c.segments_of.ensures _ c.lines.ensures) from to
