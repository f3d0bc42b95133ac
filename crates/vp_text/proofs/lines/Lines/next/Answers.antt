use Rattle.std.proofs.Common.{◌≡◌, length, arith}
use Rattle.std.proofs.lemmas.Grind.{common_steps}
use Rattle.std.proofs.lemmas.Bool.Decides.{nat_tests}
use Rattle.vp_text.proofs.Rests.{behind_next, no_line_left}
use Rattle.vp_text.proofs.lines.Lines.next.Goals as goal

pub lines-preserved : goal.lines-preserved
lines-preserved c = record {
  bound = omega (arith, c.lines.invariant.bound, c.cut_line.ensures.shorter);
  lines = grind (arith, common_steps);
  past = grind (arith, common_steps);
  text = c.lines.invariant.text;
  rest = behind_next _ _ _ _ c.lines.invariant.rest c.cut_line.ensures.behind;
  last = c.lines.invariant.last;
}

pub invariant_of-self-2 : goal.invariant_of-self-2
invariant_of-self-2 c =
    let none : length c.lines.self-inside.rest.now ≡ 0 = grind (arith, nat_tests, c.lines-test.ensures) in
    no_line_left _ _ _ c.lines.invariant.bound none
