-- The matrix is the pool's, so what is made of it is what is printed.
use Rattle.std.proofs.Common.{ap, length, subst, sym, ◌∙◌}
use Rattle.vp_compile.specs.Matrices.{Grid}
use Rattle.vp_audit.specs.Compile.{IsPooled}
use Rattle.vp_audit.proofs.CompiledPools.{compiled_result, matrix_as, row_number}
use Rattle.vp_audit.proofs.compile_job.CompileJob.compiled.Goals as goal

pub compile-requires : goal.compile-requires
compile-requires g c =
    let i = c.self.inside in
    let same = matrix_as c.args.self.now (record { table = i.table; coin = i.coin; millionths = i.millionths; pool = i.pool }) c.fill_matrix-matrix.result _ _ c.self.view_is c.requires.table c.requires.coin c.fill_matrix-matrix.ensures.rules c.fill_matrix-matrix.ensures.rows in
    c.requires.owner ∙ sym (ap (λ (grid : Grid). length grid.rows) same ∙ row_number c.args.self.now (subst IsPooled c.self.view_is c.self.invariant.pooled))

pub returns : goal.returns
returns g c =
    let i = c.self.inside in
    let same = matrix_as c.args.self.now (record { table = i.table; coin = i.coin; millionths = i.millionths; pool = i.pool }) c.fill_matrix-matrix.result _ _ c.self.view_is c.requires.table c.requires.coin c.fill_matrix-matrix.ensures.rules c.fill_matrix-matrix.ensures.rows in
    compiled_result c.args.self.now (subst IsPooled c.self.view_is c.self.invariant.pooled) _ _ c.compile.result same c.limit.ensures c.compile.ensures.order c.compile.ensures.places
    c.compile.ensures.optimum c.compile.ensures.start c.compile.ensures.settled c.compile.ensures.loss
