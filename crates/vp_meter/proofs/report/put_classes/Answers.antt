use Rattle.std.proofs.Common.{◌<◌, length, ◌∙◌, ap, refl}
use Rattle.vp_pay.specs.declared.table.PayTable.{PayTable}
use Rattle.vp_suit.specs.Classes.{representatives}
use Rattle.vp_meter.proofs.MeterSoFar.{meter_start, meter_hand, meter_room, meter_some, meter_fits, meter_next, meter_halted, meter_end}
use Rattle.vp_meter.proofs.SegmentLaws.{segments_within}
use Rattle.vp_meter.proofs.report.put_classes.Goals as goal

pub loop-class-init : goal.loop-class-init
loop-class-init g c = record {
  so_far = meter_start _ _ _ _ _ _ (c.new-classes.ensures ∙ ap (λ (t : PayTable). representatives t.deck) c.table.ensures.table);
  long = refl;
}

pub segments-found-requires-clause-cards : goal.segments-found-requires-clause-cards
segments-found-requires-clause-cards g c = meter_hand _ _ _ c.in-Some.class.hand _ _ _ _ _ _ _ c.in-Some.ensures.given c.loop-class.invariant.so_far

pub returns-in_err-put_class-clause-puts : goal.returns-in_err-put_class-clause-puts
returns-in_err-put_class-clause-puts g c =
    meter_halted _ _ _ c.in-Some.class.weight c.in-Some.class.hand _ _ c.as_slice-segments.result.now _ _ _ _ _ _ c.in-Some.ensures.weight (c.as_slice-segments.ensures.value ∙ c.segments-found.ensures.segments) c.in-Some.ensures.given
    c.in_err-put_class.was c.from_residual.ensures.0 c.put_class.ensures c.loop-class.invariant.so_far

pub tally_class-requires-clause-inside : goal.tally_class-requires-clause-inside
tally_class-requires-clause-inside g c = segments_within _ _ _ _ _ c.requires.order (c.loop-class.invariant.long ∙ c.requires.long) (c.as_slice-segments.ensures.value ∙ c.segments-found.ensures.segments)

pub tally_class-requires-clause-room : goal.tally_class-requires-clause-room
tally_class-requires-clause-room g c =
    meter_room _ _ _ c.in-Some.class.weight c.in-Some.class.hand _ _ c.as_slice-segments.result.now _ _ _ _ _ c.table.ensures.metering c.requires.order c.requires.long c.requires.zeros c.in-Some.ensures.weight (c.as_slice-segments.ensures.value ∙ c.segments-found.ensures.segments)
    c.in-Some.ensures.given c.loop-class.invariant.so_far

pub bounds-segments-0 : goal.bounds-segments-0
bounds-segments-0 g c = let h : 0 < length c.as_slice-segments.result.now = meter_some _ _ _ c.in-Some.class.hand _ (c.as_slice-segments.ensures.value ∙ c.segments-found.ensures.segments) in h

pub added-first-requires-clause-base : goal.added-first-requires-clause-base
added-first-requires-clause-base g c =
    (meter_fits _ _ _ c.in-Some.class.weight c.in-Some.class.hand _ _ c.as_slice-segments.result.now _ _ _ _ _ c.table.ensures.metering c.requires.order c.in-Some.ensures.weight (c.as_slice-segments.ensures.value ∙ c.segments-found.ensures.segments) c.in-Some.ensures.given c.loop-class.invariant.so_far).base

pub added-first-requires-clause-slope : goal.added-first-requires-clause-slope
added-first-requires-clause-slope g c =
    (meter_fits _ _ _ c.in-Some.class.weight c.in-Some.class.hand _ _ c.as_slice-segments.result.now _ _ _ _ _ c.table.ensures.metering c.requires.order c.in-Some.ensures.weight (c.as_slice-segments.ensures.value ∙ c.segments-found.ensures.segments) c.in-Some.ensures.given c.loop-class.invariant.so_far).slope

pub loop-class-preserved : goal.loop-class-preserved
loop-class-preserved g c = record {
  so_far =
      meter_next _ _ _ c.in-Some.class.weight c.in-Some.class.hand _ _ c.as_slice-segments.result.now _ _ _ _ _ _ _ _ c.in-Some.ensures.weight (c.as_slice-segments.ensures.value ∙ c.segments-found.ensures.segments) c.in-Some.ensures.given
      c.in_ok-put_class.was c.put_class.ensures c.tally_class.ensures c.added-first.ensures c.loop-class.invariant.so_far;
  long = c.tally_class.ensures.long ∙ c.loop-class.invariant.long;
}

pub returns-clause-puts : goal.returns-clause-puts
returns-clause-puts g c = (meter_end _ _ _ _ _ _ _ _ _ c.requires.zeros c.in_default.ensures.end c.loop-class.invariant.so_far).put _

pub returns-clause-first : goal.returns-clause-first
returns-clause-first g c = (meter_end _ _ _ _ _ _ _ _ _ c.requires.zeros c.in_default.ensures.end c.loop-class.invariant.so_far).sums

pub returns-clause-tallied : goal.returns-clause-tallied
returns-clause-tallied g c = (meter_end _ _ _ _ _ _ _ _ _ c.requires.zeros c.in_default.ensures.end c.loop-class.invariant.so_far).tallied
