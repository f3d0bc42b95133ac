-- A read that ends the loop leaves what it gave, behind what was given before.
use Rattle.std.proofs.Common.{arith}
use Rattle.std.proofs.lemmas.Result.{err_from_is_err_and}
use Rattle.vp_io.proofs.Moved.{GaveUpTo-after}
use Rattle.vp_io.proofs.whole.read_all.Goals as goal

pub returns-in_err-read_more-clause-gone : goal.returns-in_err-read_more-clause-gone
returns-in_err-read_more-clause-gone g c =
    let (given, short, same) = c.loop-block.invariant in
    let p = err_from_is_err_and c.from_residual.result c.from_residual.ensures.1 in
    rw p.1 (GaveUpTo-after _ _ _ _ _ _ given c.in_err-read_more.ensures.gone (omega arith))
