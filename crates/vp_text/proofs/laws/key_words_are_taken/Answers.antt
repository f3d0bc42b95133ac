use Rattle.vp_text.proofs.Pieces.{key_word_taken}
use Rattle.vp_text.proofs.laws.key_words_are_taken.Goals as goal

pub returns : goal.returns
returns c = λ key words left. key_word_taken key words left
