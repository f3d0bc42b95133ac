use Rattle.std.proofs.Common.{[], ap, ◌∙◌, arith}
use Rattle.vp_text.specs.Written.{with_words}
use Rattle.vp_lines.specs.Words.{words_of}
use Rattle.vp_lines.proofs.PutWords.{room_next, words_more}
use Rattle.vp_lines.proofs.lines.add_words.Goals as goal

pub loop-word-preserved : goal.loop-word-preserved
loop-word-preserved c =
    let i = c.loop-word.word-index in
    let next = room_next c.args.words.now i c.word-item.result c.loop-word-test.true c.word-item.is in
    record {
      so_far = c.add_word.ensures.word ∙ (ap (λ out. with_words out (words_of c.word-item.result)) c.loop-word.invariant.so_far ∙ words_more [] c.args.words.now i c.word-item.result c.loop-word-test.true c.word-item.is);
      room = omega arith;
    }
