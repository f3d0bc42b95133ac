-- Each pay line is put behind those before it.
use Rattle.vp_io.proofs.PutSoFar.{put_halted, put_more}
use Rattle.vp_text.proofs.WithWords.{lines_left}
use Rattle.vp_pay.specs.Spelling.{pay_line_words}
use Rattle.vp_pay.proofs.writing.put_pay_lines.Goals as goal

pub returns-in_err-put_pay_line : goal.returns-in_err-put_pay_line
returns-in_err-put_pay_line g c =
    put_halted _ (lines_left (pay_line_words c.args.coins) c.args.lines.now c.loop-line.line-index c.line-item.result c.loop-line-test.true c.line-item.is)
    c.in_err-put_pay_line.was c.from_residual.ensures.0 c.put_pay_line.ensures c.loop-line.invariant

pub loop-line-preserved : goal.loop-line-preserved
loop-line-preserved g c =
    put_more (lines_left (pay_line_words c.args.coins) c.args.lines.now c.loop-line.line-index c.line-item.result c.loop-line-test.true c.line-item.is)
    c.in_ok-put_pay_line.was c.put_pay_line.ensures c.loop-line.invariant
