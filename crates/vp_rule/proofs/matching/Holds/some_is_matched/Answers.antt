use Rattle.std.proofs.Common.{◌≡◌, false, true, ap, sym, take, ◌∙◌, arith}
use Rattle.std.specs.List.{list_any, range_with_len}
use Rattle.std.proofs.lemmas.List.{take_all}
use Rattle.std.proofs.lemmas.List.Folds.{list_any_at}
use Rattle.vp_rank.specs.Bounded.{some_below}
use Rattle.vp_rule.specs.Holds.{matches}
use Rattle.vp_rule.proofs.AskedMasks.{any_alike}
use Rattle.vp_rule.proofs.matching.Holds.some_is_matched.Goals as goal

pub returns-then-is_matched : goal.returns-then-is_matched
unfolding some_below
returns-then-is_matched c =
    let h = c.args.self.now in
    let masks = c.asked-mask-items.result.now in
    let found : list_any (λ mask. matches h.table c.args.rule.now h.hand mask) masks ≡ true =
    list_any_at _ masks c.loop-mask.mask-index 0 (omega arith) (sym c.is_matched.ensures ∙ c.if-is_matched.true) in
    sym found ∙ any_alike h c.args.rule.now masks (range_with_len 0 32) c.asked-mask-items.ensures.matched

pub returns : goal.returns
unfolding some_below
returns c =
    let h = c.args.self.now in
    let masks = c.asked-mask-items.result.now in
    let whole : take c.loop-mask.mask-index masks ≡ masks = take_all c.loop-mask.mask-index masks (omega arith) in
    let none : list_any (λ mask. matches h.table c.args.rule.now h.hand mask) masks ≡ false =
    ap (list_any (λ mask. matches h.table c.args.rule.now h.hand mask)) (sym whole) ∙ c.loop-mask.invariant in
    sym none ∙ any_alike h c.args.rule.now masks (range_with_len 0 32) c.asked-mask-items.ensures.matched
