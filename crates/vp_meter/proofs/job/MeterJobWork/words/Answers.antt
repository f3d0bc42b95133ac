-- A table of sums is small, and so are the words of the payments.
use Rattle.std.proofs.Common.{arith}
use Rattle.vp_count.proofs.Words.{first_word_small}
use Rattle.vp_meter.proofs.job.MeterJobWork.words.Goals as goal

pub overflow_mul-result : goal.overflow_mul-result
overflow_mul-result c = omega (arith, c.table_words.ensures, first_word_small c.self.inside.table.deck 6 c.self.invariant.metering.bet.rules.known_deck.1 (omega arith))

pub overflow_add-result-2 : goal.overflow_add-result-2
overflow_add-result-2 c = omega (arith, c.table_words.ensures, first_word_small c.self.inside.table.deck 6 c.self.invariant.metering.bet.rules.known_deck.1 (omega arith), c.self.invariant.most)
