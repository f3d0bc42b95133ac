-- Each rule is put behind those before it.
use Rattle.vp_io.proofs.PutSoFar.{put_halted, put_more}
use Rattle.vp_audit.proofs.ListLines.{rules_left}
use Rattle.vp_audit.proofs.writing.put_rules.Goals as goal

pub returns-in_err-write : goal.returns-in_err-write
returns-in_err-write g c =
    put_halted _ (rules_left c.args.table.now c.args.rules.now c.args.order.now c.loop-place.place-index c.index-rules-place.result c.loop-place-test.true c.requires.order c.index-rules-place.is)
    c.in_err-write.was c.from_residual.ensures.0 c.write.ensures c.loop-place.invariant

pub loop-place-preserved : goal.loop-place-preserved
loop-place-preserved g c =
    put_more (rules_left c.args.table.now c.args.rules.now c.args.order.now c.loop-place.place-index c.index-rules-place.result c.loop-place-test.true c.requires.order c.index-rules-place.is)
    c.in_ok-write.was c.write.ensures c.loop-place.invariant
