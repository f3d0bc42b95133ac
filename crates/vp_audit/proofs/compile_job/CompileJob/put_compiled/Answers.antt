-- The list is put behind the numbers that are said of it.
use Rattle.std.proofs.Common.{length, sym, ap, subst, ◌∙◌}
use Rattle.vp_io.proofs.Puts_laws.{Puts_as, Puts_stopped, Puts_then}
use Rattle.vp_pay.specs.declared.table.PayTable.{PayTable}
use Rattle.vp_suit.specs.Classes.{representatives}
use Rattle.vp_compile.specs.Excepted.{ArePlaces}
use Rattle.vp_compile.specs.Matrices.{IsOrder}
use Rattle.vp_audit.specs.Compile.{IsPooled, Pooled, excepted, last_places}
use Rattle.vp_audit.proofs.CompiledPools.{compile_text, last_whole, list_as, some_places}
use Rattle.vp_audit.proofs.compile_job.CompileJob.put_compiled.Goals as goal

pub returns-in_err-put_said : goal.returns-in_err-put_said
returns-in_err-put_said g c = Puts_as (sym (compile_text c.args.self.now)) (Puts_stopped _ c.in_err-put_said.was c.from_residual.ensures.0 c.put_said.ensures)

pub put_list-requires-clause-order : goal.put_list-requires-clause-order
put_list-requires-clause-order g c =
    let whole = (last_whole c.args.self.now (subst IsPooled c.self.view_is c.self.invariant.pooled)).0 in
    let number = ap (λ (p : Pooled). length p.pool.rules) (sym c.self.view_is) in
    subst (IsOrder _) (sym (c.deref.ensures.0 ∙ c.requires.compiled.order)) (subst (λ n. IsOrder n (last_places c.args.self.now)) number whole)

pub put_list-requires-clause-places : goal.put_list-requires-clause-places
put_list-requires-clause-places g c =
    let some = some_places c.args.self.now (subst IsPooled c.self.view_is c.self.invariant.pooled) in
    let number = ap (λ (t : PayTable). length (representatives t.deck)) (sym c.requires.table) in
    subst (ArePlaces _) (sym (c.deref-2.ensures.value ∙ c.requires.compiled.places)) (subst (λ n. ArePlaces n (excepted c.args.self.now)) number some)

pub returns : goal.returns
returns g c =
    let i = c.self.inside in
    let list = Puts_as
    (list_as c.args.self.now (record { table = i.table; coin = i.coin; millionths = i.millionths; pool = i.pool }) _ _ _ _ c.self.view_is c.requires.table c.requires.coin
    (c.deref.ensures.0 ∙ c.requires.compiled.order) (c.deref-2.ensures.value ∙ c.requires.compiled.places))
    c.put_list.ensures in
    Puts_as (sym (compile_text c.args.self.now)) (Puts_then _ c.in_ok-put_said.was c.put_said.ensures list)
