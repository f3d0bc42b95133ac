use Rattle.std.proofs.Common.{◌≡◌, Bool, true, false, cond, ap, sym, ◌∙◌, arith, length, get_or, refl}
use Rattle.vp_sets.proofs.FiveCards.{five_in_row}
use Rattle.vp_draws.proofs.LineDraws.{mask_by_bits}
use Rattle.vp_draws.proofs.by_line.mask_of.Goals as goal

bit : (b : Bool) → mir.Val.bool_byte b ≡ cond b 1 0
bit true = refl
bit false = refl

pub returns-clause-mask : goal.returns-clause-mask
returns-clause-mask c =
    let s = c.numbers.result in
    let five : length s ≡ 5 = ap length c.numbers.ensures.value ∙ c.numbers.ensures.hand.five in
    let bits = mask_by_bits c.args.card (get_or s 0 0) (get_or s 1 0) (get_or s 2 0) (get_or s 3 0) (get_or s 4 0) c.args.hand.now (sym c.numbers.ensures.value ∙ five_in_row s five) in
    omega (arith, bits, c.from.ensures ∙ bit _, c.from-2.ensures ∙ bit _, c.from-3.ensures ∙ bit _, c.from-4.ensures ∙ bit _, c.from-5.ensures ∙ bit _)
