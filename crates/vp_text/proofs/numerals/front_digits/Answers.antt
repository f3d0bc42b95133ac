use Rattle.std.proofs.Common.{arith}
use Rattle.std.proofs.lemmas.Int.Digits.{digits_more, digits_value_more}
use Rattle.vp_text.proofs.numerals.front_digits.Goals as goal

pub digits-preserved : goal.digits-preserved
digits-preserved c =
    let more = digits_value_more 10 c.args.text.now c.digits.place c.digits-test.true in
    record {
      below = c.in-Some.ensures.below;
      inside = omega (arith, c.digits-test.true);
      all = digits_more 10 _ _ c.digits-test.true c.digits.invariant.all c.in-Some.ensures.some.0;
      value = omega (arith, c.in-Some.ensures.some.1, c.digits.invariant.value);
    }
