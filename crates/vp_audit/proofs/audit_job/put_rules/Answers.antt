-- Each line is put behind those before it.
use Rattle.std.proofs.Common.{arith}
use Rattle.vp_io.proofs.PutSoFar.{put_all, put_halted, put_more}
use Rattle.vp_audit.proofs.AuditLines.{no_rules_left, rules_left}
use Rattle.vp_audit.proofs.audit_job.put_rules.Goals as goal

pub returns-in_err-put_rule : goal.returns-in_err-put_rule
returns-in_err-put_rule g c =
    put_halted _ (rules_left c.args.tallies.now c.loop-place.place _ c.loop-place-test.true) c.in_err-put_rule.was c.from_residual.ensures.0 c.put_rule.ensures c.loop-place.invariant

pub loop-place-preserved : goal.loop-place-preserved
loop-place-preserved g c =
    put_more (rules_left c.args.tallies.now c.loop-place.place _ c.loop-place-test.true) c.in_ok-put_rule.was c.put_rule.ensures c.loop-place.invariant

pub returns : goal.returns
returns g c = put_all (no_rules_left c.args.tallies.now c.loop-place.place (omega arith)) c.loop-place.invariant
