-- The words are few enough to be counted.
use Rattle.std.proofs.Common.{arith, ap, length}
use Rattle.vp_audit.proofs.CompiledPools.{few_words}
use Rattle.vp_audit.proofs.compile_job.CompileJobHeapWork.words.Goals as goal

pub overflow_add-result : goal.overflow_add-result
overflow_add-result c = omega (arith, few_words _ _ _ 0 c.self.invariant.pooled.bet.rules.known_deck c.table_words.ensures c.self.invariant.number (omega arith))

pub overflow_add-result-2 : goal.overflow_add-result-2
overflow_add-result-2 c = omega (arith, few_words _ _ _ (length c.rules.result.now) c.self.invariant.pooled.bet.rules.known_deck c.table_words.ensures c.self.invariant.number (omega (arith, ap length c.rules.ensures, c.self.invariant.pooled.pool.most)))
