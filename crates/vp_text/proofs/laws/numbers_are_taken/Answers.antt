use Rattle.vp_text.proofs.Numbers.{number_exact, number_within_exact}
use Rattle.vp_text.proofs.Pieces.{one_word_taken}
use Rattle.vp_text.proofs.laws.numbers_are_taken.Goals as goal

pub returns-clause-any : goal.returns-clause-any
returns-clause-any c = λ n words left. one_word_taken number_exact n words left

pub returns-clause-within : goal.returns-clause-within
returns-clause-within c = λ least most n words left below. one_word_taken (number_within_exact least most below) n words left
