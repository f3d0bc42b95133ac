-- The head, the pay lines and `end` are put one after the other.
use Rattle.std.proofs.Common.{refl}
use Rattle.vp_io.proofs.Puts_laws.{Puts_as, Puts_then, Puts_stopped}
use Rattle.vp_pay.proofs.LineWords.{table_bytes}
use Rattle.vp_pay.proofs.table.PayTable.write.Goals as goal

pub returns-in_err-put_head : goal.returns-in_err-put_head
returns-in_err-put_head g c = Puts_as (table_bytes _ _ refl) (Puts_stopped _ c.in_err-put_head.was c.from_residual.ensures.0 c.put_head.ensures)

pub returns-in_err-put_pay_lines : goal.returns-in_err-put_pay_lines
returns-in_err-put_pay_lines g c =
    let stopped = Puts_stopped _ c.in_err-put_pay_lines.was c.from_residual-in_err-put_pay_lines.ensures.0 c.put_pay_lines.ensures in
    Puts_as (table_bytes _ _ c.deref.ensures.0) (Puts_then _ c.in_ok-put_head.was c.put_head.ensures stopped)

pub returns : goal.returns
returns g c =
    let last = Puts_then _ c.in_ok-put_pay_lines.was c.put_pay_lines.ensures c.put_words.ensures in
    Puts_as (table_bytes _ _ c.deref.ensures.0) (Puts_then _ c.in_ok-put_head.was c.put_head.ensures last)
