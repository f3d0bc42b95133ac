use Rattle.std.proofs.Common.{◌≡◌, ℕ, true, get_or, nat_lt, ap, ◌∙◌, arith}
use Rattle.vp_check.specs.Rules.{broken_if}
use Rattle.vp_check.specs.declared.finding.CertRule.TheVariants.{Mask, Value}
use Rattle.vp_check.proofs.Asked.{mask_breaks, value_breaks}
use Rattle.vp_check.proofs.rules.walked_breach.Goals as goal

pub returns-then-line-best : goal.returns-then-line-best
returns-then-line-best c = λ table coin h.
    c.broken_if.ensures ∙ ap (λ (n : ℕ). broken_if true Value n c.from-due.result) c.from.ensures ∙ ap (λ (n : ℕ). broken_if true Value c.args.line.now.value n) c.from-due.ensures
    ∙ value_breaks table coin c.args.line.now c.best_of_values-best.result.value (c.best_of_values-best.ensures.best table coin c.args.line.now.hand h) c.if-line-best.true

pub returns : goal.returns
returns c = λ table coin h.
    let worth : ℕ = get_or c.args.values.now c.args.line.now.mask 0 in
    let due : ℕ = c.best_of_values-best.result.value in
    c.broken_if-2.ensures ∙ ap (λ (n : ℕ). broken_if (nat_lt worth due) Mask n c.from-due.result) c.from-2.ensures ∙ ap (λ (n : ℕ). broken_if (nat_lt worth due) Mask worth n) c.from-due.ensures
    ∙ mask_breaks table coin c.args.line.now due worth (c.best_of_values-best.ensures.best table coin c.args.line.now.hand h) c.if-line-best.false (h c.args.line.now.mask c.requires)
