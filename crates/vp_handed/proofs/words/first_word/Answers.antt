-- What stands before the first zero byte is the only word that can stand there.
use Rattle.std.proofs.Common.{ℕ, List, subst, sym, ◌∙◌}
use Rattle.std.specs.Str.{IsUtf8}
use Rattle.vp_handed.proofs.Splits.{cut_once, zero_stands}
use Rattle.vp_handed.proofs.words.first_word.Goals as goal

pub returns-in_err-word-clause-none : goal.returns-in_err-word-clause-none
returns-in_err-word-clause-none c =
    rw c.from_residual.ensures (λ word rest begins. c.in_err-word.ensures.none (zero_stands c.args.bytes.now word rest begins.bytes_are))

pub returns-in-Err-clause-none : goal.returns-in-Err-clause-none
returns-in-Err-clause-none c word rest begins =
    let both = cut_once word c.in_ok-word.word.now rest c.in_ok-word.rest.now begins.word_is.whole c.in_ok-word.ensures.whole (sym begins.bytes_are ∙ c.in_ok-word.ensures.cut) in
    c.in-Err.ensures.cases.0 (subst (λ (w : List ℕ). IsUtf8 w) both.0 begins.word_is.valid)
