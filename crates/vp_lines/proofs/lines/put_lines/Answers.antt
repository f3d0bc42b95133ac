-- Each line is put behind those before it.
use Rattle.std.proofs.lemmas.List.Elements.{All-from_recursion, All-get_or}
use Rattle.std.proofs.Common.{sym, subst}
use Rattle.vp_io.proofs.PutSoFar.{put_halted, put_more}
use Rattle.vp_text.proofs.WithWords.{lines_left}
use Rattle.vp_lines.specs.Words.{IsLine, line_words}
use Rattle.vp_lines.proofs.lines.put_lines.Goals as goal

pub put_words-requires : goal.put_words-requires
put_words-requires g c =
    subst (λ line. IsLine line.now) (sym c.line-item.is)
    (All-get_or (λ line. IsLine line.now) c.args.lines.now c.loop-line.line-index c.line-item.result c.loop-line-test.true (All-from_recursion (λ line. IsLine line.now) c.args.lines.now c.requires))

pub returns-in_err-put_words : goal.returns-in_err-put_words
returns-in_err-put_words g c =
    put_halted _ (lines_left (λ line. line_words line.now) c.args.lines.now c.loop-line.line-index c.line-item.result c.loop-line-test.true c.line-item.is)
    c.in_err-put_words.was c.from_residual.ensures.0 c.put_words.ensures c.loop-line.invariant

pub loop-line-preserved : goal.loop-line-preserved
loop-line-preserved g c =
    put_more (lines_left (λ line. line_words line.now) c.args.lines.now c.loop-line.line-index c.line-item.result c.loop-line-test.true c.line-item.is)
    c.in_ok-put_words.was c.put_words.ensures c.loop-line.invariant
