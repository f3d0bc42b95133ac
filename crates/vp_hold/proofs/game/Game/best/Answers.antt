use Rattle.std.proofs.Common.{◌∙◌, arith}
use Rattle.vp_draws.specs.Draws.{value}
use Rattle.vp_hold.proofs.Values.{value_at}
use Rattle.vp_hold.proofs.game.Game.best.Goals as goal

pub returns-clause-value : goal.returns-clause-value
returns-clause-value c = c.best_of_values.ensures.value ∙ value_at (value c.args.self.now.table c.args.self.now.coin c.args.hand.now) c.best_of_values.result.mask c.values.result c.best_of_values.ensures.hold c.values.ensures

pub returns-clause-greatest : goal.returns-clause-greatest
returns-clause-greatest c = λ mask l. omega (arith, c.best_of_values.ensures.greatest mask l, value_at (value c.args.self.now.table c.args.self.now.coin c.args.hand.now) mask c.values.result l c.values.ensures)

pub returns-clause-least : goal.returns-clause-least
returns-clause-least c = λ mask l. omega (arith, c.best_of_values.ensures.least mask l, value_at (value c.args.self.now.table c.args.self.now.coin c.args.hand.now) mask c.values.result (omega (arith, c.best_of_values.ensures.hold)) c.values.ensures)

pub returns-clause-ties : goal.returns-clause-ties
returns-clause-ties c = c.best_of_values.ensures.ties c.args.self.now.table c.args.self.now.coin c.args.hand.now (λ mask l. value_at (value c.args.self.now.table c.args.self.now.coin c.args.hand.now) mask c.values.result l c.values.ensures)

pub returns-clause-best : goal.returns-clause-best
returns-clause-best c = c.best_of_values.ensures.best c.args.self.now.table c.args.self.now.coin c.args.hand.now (λ mask l. value_at (value c.args.self.now.table c.args.self.now.coin c.args.hand.now) mask c.values.result l c.values.ensures)

pub returns-clause-least_best : goal.returns-clause-least_best
returns-clause-least_best c = c.best_of_values.ensures.least_best c.args.self.now.table c.args.self.now.coin c.args.hand.now (λ mask l. value_at (value c.args.self.now.table c.args.self.now.coin c.args.hand.now) mask c.values.result l c.values.ensures)
