-- Each line is put behind those before it.
use Rattle.std.proofs.Common.{◌≡◌, ap, arith, get_or}
use Rattle.std.specs.Prelude.{slice_index}
use Rattle.vp_io.proofs.PutSoFar.{put_all, put_halted, put_more}
use Rattle.vp_io.proofs.Puts_laws.{Puts_as}
use Rattle.vp_pay.specs.declared.table.PayLine.{PayLine}
use Rattle.vp_text.specs.Written.{line_of}
use Rattle.vp_hits.specs.HitsJob.{hit_words}
use Rattle.vp_hits.proofs.HitLines.{hits_left, no_hits_left}
use Rattle.vp_hits.proofs.job.put_hits.Goals as goal

pub returns-in_err-put_hit : goal.returns-in_err-put_hit
returns-in_err-put_hit g c =
    let line = c.index-lines-place.result in
    let same : line ≡ get_or c.args.lines.now c.loop-place.place line = c.index-lines-place.is in
    let hit = Puts_as (ap (λ (l : PayLine). line_of (hit_words l c.args.coin (slice_index c.args.many.now c.loop-place.place) c.args.all)) same) c.put_hit.ensures in
    put_halted _ (hits_left (slice_index c.args.many.now) c.args.coin c.args.all c.args.lines.now c.loop-place.place line c.loop-place-test.true) c.in_err-put_hit.was c.from_residual.ensures.0 hit c.loop-place.invariant

pub loop-place-preserved : goal.loop-place-preserved
loop-place-preserved g c =
    let line = c.index-lines-place.result in
    let same : line ≡ get_or c.args.lines.now c.loop-place.place line = c.index-lines-place.is in
    let hit = Puts_as (ap (λ (l : PayLine). line_of (hit_words l c.args.coin (slice_index c.args.many.now c.loop-place.place) c.args.all)) same) c.put_hit.ensures in
    put_more (hits_left (slice_index c.args.many.now) c.args.coin c.args.all c.args.lines.now c.loop-place.place line c.loop-place-test.true) c.in_ok-put_hit.was hit c.loop-place.invariant

pub returns : goal.returns
returns g c = put_all (no_hits_left (slice_index c.args.many.now) c.args.coin c.args.all c.args.lines.now c.loop-place.place (omega arith)) c.loop-place.invariant
