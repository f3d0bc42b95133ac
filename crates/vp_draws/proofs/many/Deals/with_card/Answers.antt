use Rattle.std.proofs.Common.{◌≡◌, ℕ, [], ◌∷◌, ◌++◌, List, get_or, subst, ap, ◌∙◌, arith, length, ◌≤◌}
use Rattle.vp_sets.specs.Draws.{mask_of}
use Rattle.vp_draws.specs.Many.{AreMasks, deal_at}
use Rattle.vp_draws.proofs.Masks.{masks_grow, mask_lt, few_cards}
use Rattle.vp_draws.proofs.many.Deals.with_card.Goals as goal

pub with_card-requires : goal.with_card-requires
with_card-requires c =
    let more : AreMasks c.args.self.now (c.args.card ∷ []) (get_or c.self.inside.masks c.args.card []) = subst (λ (d : List (List ℕ)). AreMasks d (c.args.card ∷ []) (get_or c.self.inside.masks c.args.card [])) c.self.view_is (c.self.invariant.masks c.args.card c.requires.card) in
    let few = subst (λ (d : List (List ℕ)). (k : ℕ) → length (deal_at d k) ≤ 5) c.self.view_is (few_cards c.self.inside.hands.now c.self.invariant.hands) in
    let size : length c.self.inside.hands.now ≡ length c.args.self.now = ap (λ (d : List (List ℕ)). length d) c.self.view_is in
    record { few = c.self.invariant.few; small = λ k l. omega (arith, masks_grow c.args.self.now c.args.chosen.now c.args.card c.args.masks.now (get_or c.self.inside.masks c.args.card []) c.requires.set c.requires.masks more k (omega (arith, l, size)), mask_lt (c.args.chosen.now ++ c.args.card ∷ []) (deal_at c.args.self.now k) (few k)) }

pub returns : goal.returns
returns c =
    let more : AreMasks c.args.self.now (c.args.card ∷ []) (get_or c.self.inside.masks c.args.card []) = subst (λ (d : List (List ℕ)). AreMasks d (c.args.card ∷ []) (get_or c.self.inside.masks c.args.card [])) c.self.view_is (c.self.invariant.masks c.args.card c.requires.card) in
    let size : length c.self.inside.hands.now ≡ length c.args.self.now = ap (λ (d : List (List ℕ)). length d) c.self.view_is in
    λ k l. c.with_card.ensures k (omega (arith, l, size)) ∙ masks_grow c.args.self.now c.args.chosen.now c.args.card c.args.masks.now (get_or c.self.inside.masks c.args.card []) c.requires.set c.requires.masks more k l
