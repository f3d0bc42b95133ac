use Rattle.std.proofs.Common.{map, drop}
use Rattle.vp_io.proofs.PutSoFar.{PutSoFar}
use Rattle.vp_text.specs.Written.{written}
use Rattle.vp_pay.specs.Spelling.{pay_line_words}
use Rattle.vp_pay.proofs.writing.put_pay_lines.Given as goal

abbrev pub invariant-loop-line : goal.invariant-loop-line
invariant-loop-line g l =
    PutSoFar (g.K.Sink.told l.fn.sink) (g.K.Sink.told l.sink) (written (map (pay_line_words l.coins) l.lines)) (written (map (pay_line_words l.coins) (drop l.line-index l.lines)))
