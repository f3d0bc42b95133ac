use Rattle.std.proofs.Common.{◌≡◌, ◌+◌, ◌∷◌, [], ◌++◌, length, ap, sym, ◌∙◌}
use Rattle.std.proofs.lemmas.List.FromFn.{length-range_with_len}
use Rattle.std.specs.List.{range_with_len}
use Rattle.vp_compile.proofs.Ranking.{range_more}
use Rattle.vp_compile.proofs.matrix.Matrix.own_order.Goals as goal

pub loop-rule-preserved : goal.loop-rule-preserved
loop-rule-preserved c =
    let is : c.push.new.self.items ≡ range_with_len 0 (c.loop-rule.rule + 1) = c.push.ensures.items ∙ ap (λ r. r ++ c.loop-rule.rule ∷ []) c.loop-rule.invariant.rules ∙ sym (range_more c.loop-rule.rule) in
    record { rules = is; many = ap length is ∙ length-range_with_len 0 (c.loop-rule.rule + 1) }
