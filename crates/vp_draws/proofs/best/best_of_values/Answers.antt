use Rattle.std.proofs.Common.{◌≡◌, get_or, refl, subst, arith}
use Rattle.vp_draws.specs.Draws.{value}
use Rattle.vp_draws.proofs.Choice.{IsBestBelow, best_first, best_more, best_agree, is_best, is_least_best, has_ties}
use Rattle.vp_draws.proofs.best.best_of_values.Goals as goal

pub loop-mask-init : goal.loop-mask-init
loop-mask-init c = best_first (λ mask. get_or c.args.values.now mask 0) _ refl

pub loop-mask-preserved : goal.loop-mask-preserved
loop-mask-preserved c = best_more (λ mask. get_or c.args.values.now mask 0) _ _ _ _ c.loop-mask.invariant refl c.better-best.ensures.greater c.better-best.ensures.equal c.better-best.ensures.less

pub returns-clause-best : goal.returns-clause-best
returns-clause-best c = λ table coin hand h. is_best table coin hand 32 _ refl (best_agree (λ mask. get_or c.args.values.now mask 0) (value table coin hand) 32 _ h (subst (λ n. IsBestBelow (λ mask. get_or c.args.values.now mask 0) n c.loop-mask.best) (omega arith) c.loop-mask.invariant))

pub returns-clause-least_best : goal.returns-clause-least_best
returns-clause-least_best c = λ table coin hand h. is_least_best table coin hand 32 _ refl (best_agree (λ mask. get_or c.args.values.now mask 0) (value table coin hand) 32 _ h (subst (λ n. IsBestBelow (λ mask. get_or c.args.values.now mask 0) n c.loop-mask.best) (omega arith) c.loop-mask.invariant))

pub returns-clause-ties : goal.returns-clause-ties
returns-clause-ties c = λ table coin hand h. has_ties table coin hand 32 _ refl (best_agree (λ mask. get_or c.args.values.now mask 0) (value table coin hand) 32 _ h (subst (λ n. IsBestBelow (λ mask. get_or c.args.values.now mask 0) n c.loop-mask.best) (omega arith) c.loop-mask.invariant))
