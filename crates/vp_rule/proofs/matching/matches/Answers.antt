use Rattle.std.proofs.Common.{◌∙◌}
use Rattle.vp_rule.proofs.HeldRight.{matches_told}
use Rattle.vp_rule.proofs.matching.matches.Goals as goal

pub returns-clause-matches : goal.returns-clause-matches
returns-clause-matches g c = c.all_hold.ensures ∙ matches_told c.args.table.now c.args.rule.now c.args.hand.now c.args.mask c.dealt-dealt.result c.of-held.result c.dealt-dealt.ensures.dealt c.of-held.ensures.held
