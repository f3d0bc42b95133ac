use Rattle.vp_hold.proofs.SquaredPayments.{SquaredBelow}
use Rattle.vp_hold.proofs.squares.write_squares.Given as goal

abbrev pub invariant-loop-place : goal.invariant-loop-place
invariant-loop-place l = SquaredBelow l.payments l.squares l.place
