use Rattle.std.proofs.Common.{arith, sym, ◌∙◌}
use Rattle.vp_draws.specs.Draws.{value}
use Rattle.vp_audit.proofs.Extremes.{best_all, greatest_none, greatest_more}
use Rattle.vp_audit.proofs.choices.Choices.best.Goals as goal

pub loop-mask-init : goal.loop-mask-init
loop-mask-init c = sym (greatest_none (value c.args.self.now.table c.args.self.now.coin c.args.self.now.hand))

pub loop-mask-preserved : goal.loop-mask-preserved
loop-mask-preserved c = c.larger-best.ensures ∙ greatest_more _ c.loop-mask.mask _ _ c.loop-mask.invariant c.value.ensures

pub returns : goal.returns
returns c = best_all _ _ _ c.loop-mask.mask c.loop-mask.best (omega arith) c.loop-mask.invariant
