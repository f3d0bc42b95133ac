use Rattle.std.proofs.Common.{◌≡◌, ◌∙◌, sym, ap, get_or}
use Rattle.std.proofs.lemmas.List.{get_or_default}
use Rattle.vp_rule.specs.declared.rule.Rule.{Rule}
use Rattle.vp_draws.specs.Draws.{greatest, value}
use Rattle.vp_audit.specs.Choices.{least_or_empty}
use Rattle.vp_audit.specs.Values.{matched, no_rule}
use Rattle.vp_audit.proofs.Decisions.{by_rule, by_none}
use Rattle.vp_audit.proofs.choices.Choices.by_rules.Goals as goal

pub returns-in-Some : goal.returns-in-Some
returns-in-Some c =
    let s = c.args.self.now in
    let rule = c.index-rules-place.result in
    let same : rule ≡ get_or c.args.rules.now c.in-Some.place rule = c.index-rules-place.is in
    let at : rule ≡ get_or c.args.rules.now c.in-Some.place no_rule = same ∙ get_or_default c.args.rules.now c.in-Some.place rule no_rule c.in-Some.ensures.inside in
    by_rule s.table s.coin s.hand c.args.rules.now c.in-Some.place c.best.result _ _ (sym c.in-Some.ensures.place) c.best.ensures
    (c.extremes-least.ensures.least ∙ ap (λ (r : Rule). least_or_empty (value s.table s.coin s.hand) (matched s.table r s.hand)) at)
    (c.extremes-least.ensures.greatest ∙ ap (λ (r : Rule). greatest (value s.table s.coin s.hand) (matched s.table r s.hand)) at)

pub returns-in-None : goal.returns-in-None
returns-in-None c =
    let s = c.args.self.now in
    by_none s.table s.coin s.hand c.args.rules.now _ (sym c.in-None.ensures.place) c.all_of.ensures.by c.all_of.ensures.best c.all_of.ensures.least c.all_of.ensures.greatest
