use Rattle.std.proofs.Common.{drop, map}
use Rattle.vp_io.proofs.PutSoFar.{PutSoFar}
use Rattle.vp_text.specs.Written.{written}
use Rattle.vp_holds.specs.Holds.{hold_line}
use Rattle.vp_holds.proofs.job.put_rows.Given as goal

abbrev pub invariant-loop-place : goal.invariant-loop-place
invariant-loop-place g l =
    PutSoFar (g.K.Sink.told l.fn.sink) (g.K.Sink.told l.sink) (written (map (hold_line (record { table = l.table; coin = l.coin; hand = l.hand })) l.masks.items))
    (written (map (hold_line (record { table = l.table; coin = l.coin; hand = l.hand })) (drop l.place l.masks.items)))
