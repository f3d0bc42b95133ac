use Rattle.std.proofs.Common.{ap, ◌∙◌}
use Rattle.vp_audit.specs.Choices.{BetHand}
use Rattle.vp_audit.specs.Values.{deciding}
use Rattle.vp_audit.proofs.Decisions.{deciding_is}
use Rattle.vp_audit.proofs.choices.Choices.deciding.Goals as goal

pub returns-clause-place : goal.returns-clause-place
returns-clause-place c =
    let i = c.self.inside in
    c.first_matching.ensures.place
    ∙ deciding_is i.holds.table c.args.rules.now i.holds.hand
    ∙ ap (λ (x : BetHand). deciding x.table c.args.rules.now x.hand) c.self.view_is
