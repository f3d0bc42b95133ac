use Rattle.std.proofs.Common.{◌≡◌, ℕ, ◌<◌, ◌≤◌, ◌+◌, ◌^◌, [], ◌∷◌, ◌++◌, List, length, get_or, subst, ap, sym, ◌∙◌, arith, cond, eqb}
use Rattle.vp_sets.specs.Draws.{mask_of}
use Rattle.vp_draws.specs.Many.{AreMasks, cell, deal_at}
use Rattle.vp_draws.proofs.Masks.{masks_grow, mask_lt, few_cards}
use Rattle.vp_draws.proofs.many.Deals.add.Goals as goal

pub add-requires-clause-small : goal.add-requires-clause-small
add-requires-clause-small c =
    let more : AreMasks c.args.self.now (c.args.card ∷ []) (get_or c.self.inside.masks c.args.card []) = subst (λ (d : List (List ℕ)). AreMasks d (c.args.card ∷ []) (get_or c.self.inside.masks c.args.card [])) c.self.view_is (c.self.invariant.masks c.args.card c.requires.card) in
    let few = subst (λ (d : List (List ℕ)). (k : ℕ) → length (deal_at d k) ≤ 5) c.self.view_is (few_cards c.self.inside.hands.now c.self.invariant.hands) in
    λ k l. omega (arith, masks_grow c.args.self.now c.args.chosen.now c.args.card c.args.masks.now (get_or c.self.inside.masks c.args.card []) c.requires.set c.requires.masks more k (omega (arith, l, c.requires.rows)), mask_lt (c.args.chosen.now ++ c.args.card ∷ []) (deal_at c.args.self.now k) (few k))

pub add-requires-clause-room : goal.add-requires-clause-room
add-requires-clause-room c =
    let more : AreMasks c.args.self.now (c.args.card ∷ []) (get_or c.self.inside.masks c.args.card []) = subst (λ (d : List (List ℕ)). AreMasks d (c.args.card ∷ []) (get_or c.self.inside.masks c.args.card [])) c.self.view_is (c.self.invariant.masks c.args.card c.requires.card) in
    let few : length c.args.self.now ≤ 256 = subst (λ (d : List (List ℕ)). length d ≤ 256) c.self.view_is c.self.invariant.few in
    λ k l. subst (λ (mask : ℕ). cell c.args.totals.now k mask + c.args.payment < 2 ^ 64) (sym (masks_grow c.args.self.now c.args.chosen.now c.args.card c.args.masks.now (get_or c.self.inside.masks c.args.card []) c.requires.set c.requires.masks more k (omega (arith, c.requires.rows)))) (c.requires.room k (omega (arith, c.requires.rows)))

pub returns : goal.returns
returns c =
    let more : AreMasks c.args.self.now (c.args.card ∷ []) (get_or c.self.inside.masks c.args.card []) = subst (λ (d : List (List ℕ)). AreMasks d (c.args.card ∷ []) (get_or c.self.inside.masks c.args.card [])) c.self.view_is (c.self.invariant.masks c.args.card c.requires.card) in
    let few : length c.args.self.now ≤ 256 = subst (λ (d : List (List ℕ)). length d ≤ 256) c.self.view_is c.self.invariant.few in
    λ k m l. c.add.ensures k m (omega (arith, c.requires.rows)) ∙ ap (λ (mask : ℕ). cell c.args.totals.now k m + cond (eqb mask m) c.args.payment 0) (masks_grow c.args.self.now c.args.chosen.now c.args.card c.args.masks.now (get_or c.self.inside.masks c.args.card []) c.requires.set c.requires.masks more k (omega arith))
