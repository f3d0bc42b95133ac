-- A suit's bit is added to the mask.
use Rattle.std.proofs.Common.{◌≡◌, ◌*◌, ◌^◌, ◌%◌, ℕ, arith, bit_or, cond, eqb, subst}
use Rattle.std.specs.Int.{bit_at}
use Rattle.vp_rank.proofs.Masks.{suit_below, suit_added}
use Rattle.vp_rank.proofs.shape.Shape.add_natural.Goals as goal

pub returns-clause-below : goal.returns-clause-below
returns-clause-below c = λ small. suit_below c.args.self.now.suits (c.number-number.result % 4) (omega arith) small

pub returns-clause-suits : goal.returns-clause-suits
returns-clause-suits c = λ s low.
    subst (λ (x : ℕ). bit_at (bit_or c.args.self.now.suits (1 * 2 ^ (c.number-number.result % 4) % 256)) s ≡ cond (eqb s (x % 4)) 1 (bit_at c.args.self.now.suits s))
    c.number-number.ensures.value
    (suit_added c.args.self.now.suits (c.number-number.result % 4) s (omega arith))
