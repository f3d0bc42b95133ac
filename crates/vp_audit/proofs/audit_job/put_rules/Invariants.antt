use Rattle.std.proofs.Common.{◌+◌, drop}
use Rattle.vp_io.proofs.PutSoFar.{PutSoFar}
use Rattle.vp_text.specs.Written.{written}
use Rattle.vp_audit.specs.Audit.{rule_lines}
use Rattle.vp_audit.proofs.audit_job.put_rules.Given as goal

abbrev pub invariant-loop-place : goal.invariant-loop-place
invariant-loop-place g l = PutSoFar (g.K.Sink.told l.fn.sink) (g.K.Sink.told l.sink) (written (rule_lines 1 l.tallies)) (written (rule_lines (l.place + 1) (drop l.place l.tallies)))
