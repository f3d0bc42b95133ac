-- Each table is put behind those before it.
use Rattle.vp_io.proofs.Puts_laws.{Puts_then, Puts_stopped}
use Rattle.vp_run.proofs.tables.put_tables.Goals as goal

pub returns-in_err-put_built_in-2 : goal.returns-in_err-put_built_in-2
returns-in_err-put_built_in-2 g c =
    Puts_then _ c.in_ok-put_built_in.was c.put_built_in.ensures
    (Puts_stopped _ c.in_err-put_built_in-2.was c.from_residual-in_err-put_built_in-2.ensures.0 c.put_built_in-2.ensures)

pub returns-in_err-put_built_in-3 : goal.returns-in_err-put_built_in-3
returns-in_err-put_built_in-3 g c =
    Puts_then _ c.in_ok-put_built_in.was c.put_built_in.ensures
    (Puts_then _ c.in_ok-put_built_in-2.was c.put_built_in-2.ensures
    (Puts_stopped _ c.in_err-put_built_in-3.was c.from_residual-in_err-put_built_in-3.ensures.0 c.put_built_in-3.ensures))

pub returns : goal.returns
returns g c =
    Puts_then _ c.in_ok-put_built_in.was c.put_built_in.ensures
    (Puts_then _ c.in_ok-put_built_in-2.was c.put_built_in-2.ensures
    (Puts_then _ c.in_ok-put_built_in-3.was c.put_built_in-3.ensures c.put_built_in-4.ensures))
