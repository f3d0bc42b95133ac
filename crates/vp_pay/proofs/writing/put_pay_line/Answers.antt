use Rattle.std.proofs.Common.{ap}
use Rattle.vp_io.proofs.Puts_laws.{Puts_as}
use Rattle.vp_text.specs.Written.{line_of}
use Rattle.vp_pay.proofs.LineWords.{line_words_are}
use Rattle.vp_pay.proofs.writing.put_pay_line.Goals as goal

pub returns : goal.returns
returns g c = Puts_as (ap line_of (line_words_are _ _ _ c.pattern_words-pattern.result _ c.text.ensures.value c.pattern_words-pattern.ensures.words c.qualifier_text.ensures.word)) c.put_words.ensures
