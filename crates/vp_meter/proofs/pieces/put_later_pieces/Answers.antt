use Rattle.std.proofs.Common.{arith, ◌-◌, ◌+◌}
use Rattle.vp_io.proofs.PutSoFar.{put_more, put_same, put_halted, put_all}
use Rattle.vp_meter.proofs.Told.{text_put, text_skipped, text_end}
use Rattle.vp_meter.proofs.pieces.put_later_pieces.Goals as goal
use Rattle.vp_meter.proofs.pieces.put_later_pieces.Goals.{then-piece-gt0+in_ok-put_piece, else-piece-gt0}

pub returns-in_err-put_piece : goal.returns-in_err-put_piece
returns-in_err-put_piece g c =
    put_halted _ (text_put _ _ _ _ _ _ (c.args.hi - c.args.lo - (c.loop-i.i + 1)) _ c.next_piece-piece.ensures.piece c.if-piece-gt0.true (omega arith))
    c.in_err-put_piece.was c.from_residual.ensures.0 c.put_piece.ensures c.loop-i.invariant.text

pub loop-i-preserved : goal.loop-i-preserved
loop-i-preserved g c = elim c.if-piece-gt0.branch [
  | then-piece-gt0+in_ok-put_piece w ↦ record {
    text = rw (w.sink-is) (put_more (text_put _ _ _ _ _ _ (c.args.hi - c.args.lo - (c.loop-i.i + 1)) _ c.next_piece-piece.ensures.piece w.if-piece-gt0.true (omega arith))
        w.in_ok-put_piece.was w.put_piece.ensures c.loop-i.invariant.text);
    small = omega (arith, c.next_piece-piece.ensures.small);
  }
  | else-piece-gt0 w ↦ record {
    text = rw (w.sink-is) (put_same (text_skipped _ _ _ _ _ _ (c.args.hi - c.args.lo - (c.loop-i.i + 1)) _ c.next_piece-piece.ensures.piece (omega (arith, w.if-piece-gt0.false)) (omega arith)) c.loop-i.invariant.text);
    small = omega (arith, c.next_piece-piece.ensures.small);
  }
]

pub returns : goal.returns
returns g c = put_all (text_end _ _ _ _ _ _ (omega arith)) c.loop-i.invariant.text
