use Rattle.std.proofs.Common.{drop}
use Rattle.vp_io.proofs.PutSoFar.{PutSoFar}
use Rattle.vp_text.specs.Written.{written}
use Rattle.vp_lines.specs.Words.{lines_words}
use Rattle.vp_lines.proofs.lines.put_lines.Given as goal

abbrev pub invariant-loop-line : goal.invariant-loop-line
invariant-loop-line g l =
    PutSoFar (g.K.Sink.told l.fn.sink) (g.K.Sink.told l.sink) (written (lines_words l.lines)) (written (lines_words (drop l.line-index l.lines)))
