use Rattle.std.proofs.Common.{ap, sym, ◌∙◌, map, List, ℕ, arith}
use Rattle.vp_sets.specs.Draws.{mask_of}
use Rattle.vp_suit.specs.Turns.{turned}
use Rattle.vp_suit.proofs.Masks.{mask_five}
use Rattle.vp_sets.proofs.FiveCards.{five_in_row}
use Rattle.vp_suit.proofs.turned.mask_of.Goals as goal

pub returns-clause-value : goal.returns-clause-value
returns-clause-value c =
    let kept : List ℕ = map (λ card. turned c.args.t card) c.args.cards.now in
    rw (c.bit.ensures.value, c.bit-2.ensures.value, c.bit-3.ensures.value, c.bit-4.ensures.value, c.bit-5.ensures.value)
    (sym (ap (λ (row : List ℕ). mask_of kept row) (five_in_row c.args.numbers.now (omega arith)) ∙ mask_five kept _ _ _ _ _))
