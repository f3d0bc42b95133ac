use Rattle.std.proofs.Common.{sym, arith}
use Rattle.vp_sets.proofs.Binomials.{choose_small}
use Rattle.vp_count.proofs.Words.{first_word-zero, first_word_next, first_word_small}
use Rattle.vp_count.proofs.table.first_word.Goals as goal

pub loop-size-init : goal.loop-size-init
loop-size-init c = sym (first_word-zero c.args.n)

pub overflow_add-words : goal.overflow_add-words
overflow_add-words c = omega (arith, c.loop-size.invariant, c.choose.ensures, first_word_small c.args.n c.loop-size.size c.requires.deck (omega arith), choose_small c.args.n c.loop-size.size c.requires.deck (omega arith))

pub loop-size-preserved : goal.loop-size-preserved
loop-size-preserved c = omega (arith, c.loop-size.invariant, c.choose.ensures, first_word_next c.args.n c.loop-size.size)
