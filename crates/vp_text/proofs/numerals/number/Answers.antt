use Rattle.std.proofs.Common.{sym, inl, inr, arith}
use Rattle.std.proofs.lemmas.Bool.Decides.{nat_tests}
use Rattle.vp_text.proofs.Digits.{number_read, number_unread}
use Rattle.vp_text.proofs.Numbers.{number_found, number_missing}
use Rattle.vp_text.proofs.numerals.number.Goals.{then-is_empty-via-then-is_empty, then-is_empty-via-else-is_empty+then-has_leading_zero}
use Rattle.vp_text.proofs.numerals.number.Goals as goal

pub returns-then-is_empty-clause-value : goal.returns-then-is_empty-clause-value
returns-then-is_empty-clause-value c =
    elim c.then-is_empty.branch [
      | then-is_empty-via-then-is_empty w ↦ sym (number_unread c.args.text.now (inl (grind (arith, nat_tests, w.if-is_empty.ensures))))
      | then-is_empty-via-else-is_empty+then-has_leading_zero w ↦ sym (number_unread c.args.text.now (inr (w.has_leading_zero.ensures.0 w.if-has_leading_zero.true)))
    ]

pub returns-then-is_empty-clause-none : goal.returns-then-is_empty-clause-none
returns-then-is_empty-clause-none c = number_missing _ _ (returns-then-is_empty-clause-value c)

pub returns-clause-value : goal.returns-clause-value
returns-clause-value c = number_read c.args.text.now _ (grind (arith, nat_tests, c.if-is_empty.ensures)) (λ padded. let clash = c.has_leading_zero.ensures.1 padded in absurd cc) c.value_of.ensures.some c.value_of.ensures.none

pub returns-clause-found : goal.returns-clause-found
returns-clause-found c = number_found _ _ (returns-clause-value c)

pub returns-clause-none : goal.returns-clause-none
returns-clause-none c = number_missing _ _ (returns-clause-value c)
