use Rattle.std.proofs.Common.{arith, sym, ◌∙◌}
use Rattle.std.proofs.lemmas.Bool.Decides.{nat_tests}
use Rattle.vp_text.proofs.Cuts.{two_found}
use Rattle.vp_text.proofs.cutting.cut_two.Goals as goal

pub returns : goal.returns
returns c =
    let cut = two_found c.args.text.now
    (grind (arith, nat_tests, c.if-text-lt4.false)) (grind (arith, nat_tests, c.if-text-ne32.false)) (sym c.blank.ensures ∙ c.if-blank.false) (sym c.blank-else-blank.ensures ∙ c.if-blank-2.false) (grind (arith, nat_tests, c.if-text-ne32-2.false)) in
    rw (c.split_at-2.ensures.front, c.split_at-2.ensures.back, c.split_at.ensures.back) cut
