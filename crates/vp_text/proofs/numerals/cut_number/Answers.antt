use Rattle.std.proofs.Common.{◌≡◌, ◌<◌, length, get_or, drop, true, ap, sym, ◌∙◌, arith}
use Rattle.std.proofs.lemmas.Bool.Decides.{nat_tests}
use Rattle.vp_text.specs.Lines.{Word, is_blank}
use Rattle.vp_text.proofs.Digits.{number_in_front}
use Rattle.vp_text.proofs.numerals.cut_number.Goals.{then-is_empty, else-is_empty}
use Rattle.vp_text.proofs.numerals.cut_number.Goals as goal

pub returns-then-blank : goal.returns-then-blank
returns-then-blank c =
    let text = c.behind_space-text.result.now in
    let value = c.front_digits-value.result.0 in
    let place = c.front_digits-value.result.1 in
    let read = c.front_digits-value.ensures in
    let ends : 0 < length (drop place text) → is_blank (get_or (drop place text) 0 0) ≡ true =
    λ some. elim c.if-is_empty.branch [
      | then-is_empty w ↦ absurd (grind (arith, nat_tests, w, some, c.split_at.ensures.back))
      | else-is_empty w ↦ ap (λ (rest : Word). is_blank (get_or rest 0 0)) (sym c.split_at.ensures.back) ∙ (sym w.blank.ensures ∙ (sym w.value-is ∙ c.if-blank.true))
    ] in
    let front = number_in_front text place value (grind (arith, nat_tests, c.if-place-eq0.false)) read.inside c.if-text-eq48.false read.below read.digits read.value ends in
    rw (c.split_at.ensures.back, ← c.behind_space-text.ensures) front
