-- The sums, the rules and the last line are put one after the other.
use Rattle.std.proofs.Common.{List, ap, sym}
use Rattle.vp_io.proofs.Puts_laws.{Puts_as, Puts_stopped, Puts_then}
use Rattle.vp_text.specs.Written.{written}
use Rattle.vp_audit.specs.declared.audited.Tally.{Tally}
use Rattle.vp_audit.specs.Audit.{rule_lines}
use Rattle.vp_audit.proofs.AuditLines.{audited_text}
use Rattle.vp_audit.proofs.audit_job.put_audited.Goals as goal

pub returns-in_err-put_sums : goal.returns-in_err-put_sums
returns-in_err-put_sums g c = Puts_as (sym (audited_text c.args.audited.now c.args.under)) (Puts_stopped _ c.in_err-put_sums.was c.from_residual.ensures.0 c.put_sums.ensures)

pub returns-in_err-put_rules : goal.returns-in_err-put_rules
returns-in_err-put_rules g c =
    let rules = Puts_as (ap (λ (ts : List Tally). written (rule_lines 1 ts)) c.as_slice.ensures.value) c.put_rules.ensures in
    Puts_as (sym (audited_text c.args.audited.now c.args.under)) (Puts_then _ c.in_ok-put_sums.was c.put_sums.ensures (Puts_stopped _ c.in_err-put_rules.was c.from_residual-in_err-put_rules.ensures.0 rules))

pub returns : goal.returns
returns g c =
    let rules = Puts_as (ap (λ (ts : List Tally). written (rule_lines 1 ts)) c.as_slice.ensures.value) c.put_rules.ensures in
    Puts_as (sym (audited_text c.args.audited.now c.args.under)) (Puts_then _ c.in_ok-put_sums.was c.put_sums.ensures (Puts_then _ c.in_ok-put_rules.was rules c.put_none.ensures))
