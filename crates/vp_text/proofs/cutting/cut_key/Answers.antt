use Rattle.std.proofs.Common.{◌≡◌, ℕ, ◌<◌, List, ◌++◌, length, get_or, take, drop, true, ap, sym, ◌∙◌, arith}
use Rattle.std.proofs.lemmas.Bool.Decides.{nat_tests}
use Rattle.std.proofs.lemmas.List.{take-append-drop}
use Rattle.std.proofs.lemmas.Slice.Eq.{bytes_eq-Decides}
use Rattle.vp_text.specs.Lines.{is_blank, words_in}
use Rattle.vp_text.proofs.Cuts.{key_found}
use Rattle.vp_text.proofs.Writing.{no_blanks}
use Rattle.vp_text.proofs.cutting.cut_key.Goals.{then-is_empty, else-is_empty}
use Rattle.vp_text.proofs.cutting.cut_key.Goals as goal

pub returns-then-blank : goal.returns-then-blank
returns-then-blank c =
    let key = c.args.key.now in
    let rest = c.in_ok-rest.rest.now in
    let text = c.behind_space.result.now in
    let cut = c.in_ok-rest.ensures.cases in
    let front : take (length key) text ≡ key = (bytes_eq-Decides _ _).0 cut.0 in
    let whole : text ≡ key ++ rest = sym (take-append-drop (length key) text) ∙ (ap (λ (f : List ℕ). f ++ drop (length key) text) front ∙ ap (λ (r : List ℕ). key ++ r) (sym cut.1)) in
    let ends : 0 < length rest → is_blank (get_or rest 0 0) ≡ true =
    λ some. elim c.if-is_empty.branch [
      | then-is_empty w ↦ absurd (grind (arith, nat_tests, w, some))
      | else-is_empty w ↦ sym w.blank.ensures ∙ (sym w.value-is ∙ c.if-blank.true)
    ] in
    sym c.behind_space.ensures ∙ (ap words_in whole ∙ key_found key rest c.requires.0 (no_blanks key c.requires.1) ends)
