use Rattle.std.proofs.Common.{◌*◌, ◌<◌, ◌≤◌, ◌∙◌, ap, arith, length}
use Rattle.std.specs.Bool.{then_some}
use Rattle.vp_card.proofs.RankSets.{bit_fits, bits_of-end, letters_are}
use Rattle.vp_card.proofs.rank_set.bits_of.Goals as goal

pub overflow_mul-bit : goal.overflow_mul-bit
overflow_mul-bit c =
    let inside : c.loop-letter.letter-index < 13 = omega (arith, letters_are, ap length c.rank_letters-letter-items.ensures)
    in let most : c.loop-letter.bit * 2 ≤ 8192 = bit_fits _ _ c.loop-letter.invariant.bit inside
    in omega arith

pub returns-clause-value : goal.returns-clause-value
returns-clause-value c =
    let past : length c.rank_letters-letter-items.result.now ≤ c.loop-letter.letter-index =
    omega (arith, letters_are, ap length c.rank_letters-letter-items.ensures)
    in c.then_some.ensures ∙ ap (λ test. then_some test c.loop-letter.bits) c.is_empty.ensures
    ∙ bits_of-end _ _ _ _ _ _ past c.loop-letter.invariant.so_far
