-- What stands behind the pay table is put behind it.
use Rattle.std.proofs.Common.{sym, ap}
use Rattle.vp_text.specs.Written.{written}
use Rattle.vp_pay.specs.Spelling.{table_text}
use Rattle.vp_pay.specs.declared.table.PayTable.{PayTable}
use Rattle.vp_io.proofs.Puts_laws.{Puts_as, Puts_then, Puts_stopped}
use Rattle.vp_cert.proofs.Parts.{whole_text}
use Rattle.vp_cert.proofs.certificate.certify.Goals as goal

pub returns-in_err-write-clause-puts : goal.returns-in_err-write-clause-puts
returns-in_err-write-clause-puts g c =
    let table = Puts_as (ap (λ (t : PayTable). written (table_text t)) c.table.ensures.table) c.write.ensures in
    Puts_as (sym (whole_text _ _)) (Puts_stopped _ c.in_err-write.was c.from_residual.ensures.0 table)

pub returns-clause-puts : goal.returns-clause-puts
returns-clause-puts g c =
    let table = Puts_as (ap (λ (t : PayTable). written (table_text t)) c.table.ensures.table) c.write.ensures in
    Puts_as (sym (whole_text _ _)) (Puts_then _ c.in_ok-write.was table c.put_behind_table.ensures.puts)
