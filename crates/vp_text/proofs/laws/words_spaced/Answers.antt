use Rattle.vp_text.proofs.Writing.{with_word_spaced}
use Rattle.vp_text.proofs.laws.words_spaced.Goals as goal

pub returns : goal.returns
returns c = λ words word some. with_word_spaced words word some
