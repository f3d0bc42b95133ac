use Rattle.std.proofs.Common.{◌+◌, ◌-◌, ◌*◌, ◌≤◌, ◌^◌, map}
use Rattle.vp_text.specs.Written.{written}
use Rattle.vp_io.proofs.PutSoFar.{PutSoFar}
use Rattle.vp_meter.specs.Pieces.{piece_words}
use Rattle.vp_meter.specs.Tallies.{told}
use Rattle.vp_meter.proofs.pieces.put_later_pieces.Given as goal

abbrev pub invariant-loop-i : goal.invariant-loop-i
invariant-loop-i g l = record {
  text : PutSoFar (g.K.Sink.told l.fn.sink) (g.K.Sink.told l.sink)
      (written (map piece_words (told l.lo l.counts 0 l.first.base l.first.slope (l.hi - l.lo)))) (written (map piece_words (told l.lo l.counts l.i l.base l.slope (l.hi - l.lo - l.i))));
  small : l.slope ≤ (l.i + 1) * 2 ^ 64;
}
