use Rattle.std.proofs.Common.{arith}
use Rattle.vp_multi.proofs.several_hands.numerators.Goals as goal

pub overflow_mul-paid : goal.overflow_mul-paid
overflow_mul-paid c = omega (arith, c.requires.room.paid)

pub overflow_mul-result : goal.overflow_mul-result
overflow_mul-result c = omega (arith, c.requires.room.mean)

pub overflow_mul-result-2 : goal.overflow_mul-result-2
overflow_mul-result-2 c = omega (arith, c.requires.room.first)

pub overflow_mul-result-3 : goal.overflow_mul-result-3
overflow_mul-result-3 c = omega (arith, c.requires.room.orders)

pub overflow_mul-result-4 : goal.overflow_mul-result-4
overflow_mul-result-4 c = omega (arith, c.requires.room.pairs)

pub overflow_add-result : goal.overflow_add-result
overflow_add-result c = omega (arith, c.requires.room.first, c.requires.room.pairs)

pub overflow_sub-result-2 : goal.overflow_sub-result-2
overflow_sub-result-2 c = c.requires.room.within

pub overflow_mul-result-5 : goal.overflow_mul-result-5
overflow_mul-result-5 c = omega (arith, c.requires.room.products)

pub overflow_mul-result-6 : goal.overflow_mul-result-6
overflow_mul-result-6 c = omega (arith, c.requires.room.square)

pub overflow_sub-result-3 : goal.overflow_sub-result-3
overflow_sub-result-3 c = c.requires.room.between
