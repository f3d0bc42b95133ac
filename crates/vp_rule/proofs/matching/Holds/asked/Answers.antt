use Rattle.std.proofs.Common.{◌≡◌, refl, sym, ap, ◌∙◌, List, ℕ, length}
use Rattle.vp_rule.specs.Matching.{HandAtTable, masks_matched}
use Rattle.vp_rule.proofs.AskedMasks.{asked_are_matched}
use Rattle.vp_rule.proofs.matching.Holds.asked.Goals as goal

pub returns-clause-matched : goal.returns-clause-matched
returns-clause-matched c =
    let h = c.args.self.now in
    let five : length h.hand ≡ 5 = ap (λ (x : HandAtTable). length x.hand) (sym c.self.view_is) ∙ c.self.invariant.cards.five in
    ap (λ (masks : List ℕ). masks_matched h c.args.rule.now masks) (c.asked_masks.ensures.masks h.hand five)
    ∙ asked_are_matched h c.args.rule.now _ refl
