use Rattle.std.proofs.Common.{◌≡◌, ℕ, [], ◌∷◌, ◌++◌, List, slice_index_or, subst, ap, ◌∙◌, arith}
use Rattle.vp_sets.specs.Draws.{mask_of}
use Rattle.vp_draws.proofs.LineDraws.{mask_grows, mask_lt}
use Rattle.vp_draws.proofs.by_line.CardMasks.with_card.Goals as goal
use Rattle.vp_card.specs.Cards.{IsHand}

pub returns-clause-mask : goal.returns-clause-mask
returns-clause-mask c =
    let own : slice_index_or c.self.inside.masks c.args.card 0 ≡ mask_of (c.args.card ∷ []) c.args.self.now = c.self.invariant.masks c.args.card c.requires.card ∙ ap (λ (d : List ℕ). mask_of (c.args.card ∷ []) d) c.self.view_is in
    omega (arith, own, c.requires.mask, mask_grows c.args.chosen.now c.args.card c.args.self.now c.requires.set)

pub returns-clause-small : goal.returns-clause-small
returns-clause-small c =
    let own : slice_index_or c.self.inside.masks c.args.card 0 ≡ mask_of (c.args.card ∷ []) c.args.self.now = c.self.invariant.masks c.args.card c.requires.card ∙ ap (λ (d : List ℕ). mask_of (c.args.card ∷ []) d) c.self.view_is in
    let hand : IsHand c.args.self.now = subst (λ (d : List ℕ). IsHand d) c.self.view_is c.self.invariant.hand in
    omega (arith, own, c.requires.mask, mask_grows c.args.chosen.now c.args.card c.args.self.now c.requires.set, mask_lt (c.args.chosen.now ++ c.args.card ∷ []) c.args.self.now hand.five)

pub overflow_add-result : goal.overflow_add-result
overflow_add-result c = omega (arith, returns-clause-small c)
