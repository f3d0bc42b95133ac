use Rattle.std.proofs.Common.{ap, ◌∙◌}
use Rattle.vp_draws.specs.Draws.{value}
use Rattle.vp_audit.specs.Choices.{BetHand}
use Rattle.vp_audit.proofs.Extremes.{value_at}
use Rattle.vp_audit.proofs.choices.Choices.value.Goals as goal

pub returns : goal.returns
returns c =
    let i = c.self.inside in
    value_at (value i.holds.table i.coin i.holds.hand) i.values c.args.mask c.self.invariant.valued c.requires
    ∙ ap (λ (x : BetHand). value x.table x.coin x.hand c.args.mask) c.self.view_is
