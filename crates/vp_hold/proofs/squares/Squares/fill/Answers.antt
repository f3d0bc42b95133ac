use Rattle.std.proofs.Common.{◌∙◌}
use Rattle.vp_wild.specs.Payment.{pay}
use Rattle.vp_hold.proofs.SquaredPayments.{payments_small, squares_of_hands}
use Rattle.vp_hold.proofs.squares.Squares.fill.Goals as goal

pub square_means-requires-clause-small : goal.square_means-requires-clause-small
square_means-requires-clause-small c =
    payments_small c.game.inside.table.now c.game.inside.coin c.numbers-payments.result.now c.game.invariant.bet.rules (c.numbers-payments.ensures.numbers ∙ c.game.invariant.paid.numbers)

pub invariant_of-result : goal.invariant_of-result
invariant_of-result c = record {
  bet = c.game.invariant.bet;
  squared = record {
    size = c.square_means.ensures.size;
    numbers =
        c.square_means.ensures.numbers
        ∙ squares_of_hands c.game.inside.table.now.deck (pay c.game.inside.table.now c.game.inside.coin) c.numbers-payments.result.now (c.numbers-payments.ensures.numbers ∙ c.game.invariant.paid.numbers);
  };
}
