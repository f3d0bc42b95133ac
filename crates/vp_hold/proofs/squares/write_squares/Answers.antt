use Rattle.std.proofs.Common.{get_or, refl, arith}
use Rattle.vp_hold.proofs.SquaredPayments.{square_le, squared_more, squared_all}
use Rattle.vp_hold.proofs.squares.write_squares.Goals as goal

pub overflow_mul-squares : goal.overflow_mul-squares
overflow_mul-squares c = omega (arith, square_le (get_or c.args.payments.now c.loop-place.place 0) (c.requires.small c.loop-place.place 0 c.loop-place-test.true))

pub loop-place-preserved : goal.loop-place-preserved
loop-place-preserved c = squared_more c.args.payments.now c.loop-place.squares c.loop-place.place _ c.loop-place-test.true refl c.loop-place.invariant

pub returns : goal.returns
returns c = squared_all c.args.payments.now c.loop-place.squares c.loop-place.place (omega arith) c.loop-place.invariant
