use Rattle.std.proofs.Common.{◌≡◌, ◌+◌, ℕ, List, [], ◌∷◌, ◌++◌, take, get_or, sym, subst, arith, rules}
use Rattle.std.proofs.lemmas.List.{take_more}
use Rattle.vp_draws.specs.Draws.{value}
use Rattle.vp_audit.specs.Choices.{widened}
use Rattle.vp_audit.proofs.Extremes.{ExtremesOf, extremes_all, extremes_more, no_extremes}
use Rattle.vp_audit.proofs.choices.Choices.extremes.Goals as goal

pub loop-mask-init : goal.loop-mask-init
loop-mask-init c = no_extremes _ _ _ _

pub loop-mask-preserved : goal.loop-mask-preserved
loop-mask-preserved c =
    let s = c.args.self.now in
    let masks = c.asked-mask-items.result.now in
    let i = c.loop-mask.mask-index in
    let more = extremes_more s.table c.args.rule.now s.hand (value s.table s.coin s.hand) (take i masks) (get_or masks i 0) c.loop-mask.extremes _ _ c.is_matched-counts.ensures c.value.ensures (search rules) c.loop-mask.invariant in
    let step : take (i + 1) masks ≡ take i masks ++ get_or masks i 0 ∷ [] = take_more masks i 0 (omega arith) in
    subst (λ (e : ℕ × ℕ). ExtremesOf s.table c.args.rule.now s.hand (value s.table s.coin s.hand) (take (i + 1) masks) e) (sym c.widened-extremes.ensures)
    (subst (λ (xs : List ℕ). ExtremesOf s.table c.args.rule.now s.hand (value s.table s.coin s.hand) xs (widened c.loop-mask.extremes c.is_matched-counts.result c.value.result)) (sym step) more)

pub returns-clause-least : goal.returns-clause-least
returns-clause-least c = (extremes_all _ _ _ c.asked-mask-items.result.now c.loop-mask.mask-index c.loop-mask.extremes c.self.view_is c.asked-mask-items.ensures.matched (omega arith) c.loop-mask.invariant).0

pub returns-clause-greatest : goal.returns-clause-greatest
returns-clause-greatest c = (extremes_all _ _ _ c.asked-mask-items.result.now c.loop-mask.mask-index c.loop-mask.extremes c.self.view_is c.asked-mask-items.ensures.matched (omega arith) c.loop-mask.invariant).1
