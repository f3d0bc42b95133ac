use Rattle.std.proofs.Common.{ap, ◌∙◌}
use Rattle.vp_rule.specs.Holds.{matches}
use Rattle.vp_rule.specs.Matching.{HandAtTable}
use Rattle.vp_rule.proofs.HeldRight.{matches_at}
use Rattle.vp_rule.proofs.matching.Holds.is_matched.Goals as goal

pub returns : goal.returns
returns c =
    let h = c.self.inside in
    c.all_hold.ensures
    ∙ matches_at h.table.now c.args.rule.now h.dealt.hand c.args.mask h.dealt h.held _ c.requires c.self.invariant
    ∙ ap (λ (x : HandAtTable). matches x.table c.args.rule.now x.hand c.args.mask) c.self.view_is
