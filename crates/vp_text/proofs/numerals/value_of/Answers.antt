use Rattle.std.proofs.Common.{arith}
use Rattle.std.proofs.lemmas.Int.Digits.{digits_more, digits_value_more}
use Rattle.vp_text.proofs.Digits.{too_large}
use Rattle.vp_text.proofs.numerals.value_of.Goals as goal

pub returns-in_default-clause-none : goal.returns-in_default-clause-none
returns-in_default-clause-none c = too_large _ _ _ c.loop-byte-test.true c.loop-byte.invariant.value c.in_default.ensures.none

pub loop-byte-preserved : goal.loop-byte-preserved
loop-byte-preserved c =
    let more = digits_value_more 10 c.args.digits.now c.loop-byte.byte-index c.loop-byte-test.true in
    record {
      below = c.in-Some.ensures.below;
      all = digits_more 10 _ _ c.loop-byte-test.true c.loop-byte.invariant.all c.in-Some.ensures.some.0;
      value = omega (arith, c.in-Some.ensures.some.1);
    }
