use Rattle.std.proofs.Common.{◌≡◌, ◌<◌, ◌≤◌, ◌+◌, ◌-◌, ◌^◌, ◌∷◌, ◌++◌, [], ℕ, List, length, rules, arith, sym, ap, subst, ◌∙◌}
use Rattle.std.proofs.lemmas.List.{length-append}
use Rattle.vp_pay.specs.Table.{IsTable}
use Rattle.vp_wild.specs.Kept.{Bet}
use Rattle.vp_sets.specs.Index.{IsSet}
use Rattle.vp_wild.specs.Payment.{pay}
use Rattle.vp_draws.specs.ByLine.{summed}
use Rattle.vp_draws.specs.Many.{AreMasks, cell, deal_at}
use Rattle.vp_draws.proofs.Summed.{summed_more, summed-none, set_wider, set_grows, hands_more, hands-none, hands-four}
use Rattle.vp_draws.proofs.many.+walk.Goals as goal

pub walk-requires : goal.walk-requires
walk-requires g t c κs within =
    let more : c.as_slice.result.now ≡ c.args.chosen.now ++ c.args.low ∷ [] = c.as_slice.ensures.value ∙ c.followed-more.ensures in
    let few : length c.as_slice.result.now ≤ 4 = omega (arith, ap length more, length-append c.args.chosen.now (c.args.low ∷ [])) in
    let set : IsSet (c.args.low + 1) c.as_slice.result.now = set_grows c.args.low c.args.chosen.now c.as_slice.result.now c.requires.set more in
    let masks : AreMasks c.args.deals.now c.as_slice.result.now c.with_card-masks_of_more.result = subst (λ (s : List ℕ). AreMasks c.args.deals.now s c.with_card-masks_of_more.result) (sym more) c.with_card-masks_of_more.ensures in
    let room : (k mask : ℕ) → k < length c.args.deals.now → mask < 32 → cell c.args.totals.now k mask + summed (pay c.args.payments.now.table c.args.payments.now.coin) c.args.n c.as_slice.result.now (c.args.low + 1) (deal_at c.args.deals.now k) mask < 2 ^ 64 =
    λ k mask l s. omega (arith, c.requires.room k mask l s, summed_more (pay c.args.payments.now.table c.args.payments.now.coin) c.args.n c.args.chosen.now c.as_slice.result.now c.args.low (deal_at c.args.deals.now k) mask (omega (arith, c.requires.few)) c.if-low-n.true more) in
    search rules

pub walk-requires-then-low-n : goal.walk-requires-then-low-n
walk-requires-then-low-n g t c κs within =
    let more : c.as_slice.result.now ≡ c.args.chosen.now ++ c.args.low ∷ [] = c.as_slice.ensures.value ∙ c.followed-more.ensures in
    let table : IsTable c.walk.new.payments.table = subst (λ (b : Bet). IsTable b.table) (sym c.walk.ensures.same) c.requires.table in
    let deck : c.args.n ≡ c.walk.new.payments.table.deck = c.requires.deck ∙ ap (λ (b : Bet). b.table.deck) (sym c.walk.ensures.same) in
    let set : IsSet (c.args.low + 1) c.args.chosen.now = set_wider c.args.low c.args.chosen.now c.requires.set in
    let room : (k mask : ℕ) → k < length c.args.deals.now → mask < 32 → cell c.walk.new.totals k mask + summed (pay c.walk.new.payments.table c.walk.new.payments.coin) c.args.n c.args.chosen.now (c.args.low + 1) (deal_at c.args.deals.now k) mask < 2 ^ 64 =
    λ k mask l s. subst (λ (b : Bet). cell c.walk.new.totals k mask + summed (pay b.table b.coin) c.args.n c.args.chosen.now (c.args.low + 1) (deal_at c.args.deals.now k) mask < 2 ^ 64) (sym c.walk.ensures.same)
    (omega (arith, c.requires.room k mask l s, c.walk.ensures.totals k mask l s, summed_more (pay c.args.payments.now.table c.args.payments.now.coin) c.args.n c.args.chosen.now c.as_slice.result.now c.args.low (deal_at c.args.deals.now k) mask (omega (arith, c.requires.few)) c.if-low-n.true more)) in
    search rules

pub returns-then-low-n-clause-totals : goal.returns-then-low-n-clause-totals
returns-then-low-n-clause-totals g t c = λ k mask l s.
    let more : c.as_slice.result.now ≡ c.args.chosen.now ++ c.args.low ∷ [] = c.as_slice.ensures.value ∙ c.followed-more.ensures in
    let later : cell c.walk-then-low-n.new.totals k mask ≡ cell c.walk.new.totals k mask + summed (pay c.args.payments.now.table c.args.payments.now.coin) c.args.n c.args.chosen.now (c.args.low + 1) (deal_at c.args.deals.now k) mask =
    c.walk-then-low-n.ensures.totals k mask l s ∙ ap (λ (b : Bet). cell c.walk.new.totals k mask + summed (pay b.table b.coin) c.args.n c.args.chosen.now (c.args.low + 1) (deal_at c.args.deals.now k) mask) c.walk.ensures.same in
    omega (arith, later, c.walk.ensures.totals k mask l s, summed_more (pay c.args.payments.now.table c.args.payments.now.coin) c.args.n c.args.chosen.now c.as_slice.result.now c.args.low (deal_at c.args.deals.now k) mask (omega (arith, c.requires.few)) c.if-low-n.true more)

pub returns-then-low-n-clause-steps : goal.returns-then-low-n-clause-steps
returns-then-low-n-clause-steps g t c =
    let more : c.as_slice.result.now ≡ c.args.chosen.now ++ c.args.low ∷ [] = c.as_slice.ensures.value ∙ c.followed-more.ensures in
    let many : length c.as_slice.result.now ≡ length c.args.chosen.now + 1 = ap length more ∙ length-append c.args.chosen.now (c.args.low ∷ []) in
    let first : c.walk.new.steps ≡ c.args.steps.now + Rattle.vp_sets.specs.Sets.choose (c.args.n - (c.args.low + 1)) (5 - (length c.args.chosen.now + 1)) = c.walk.ensures.steps ∙ ap (λ (m : ℕ). c.args.steps.now + Rattle.vp_sets.specs.Sets.choose (c.args.n - (c.args.low + 1)) (5 - m)) many in
    omega (arith, first, c.walk-then-low-n.ensures.steps, hands_more c.args.n c.args.low (length c.args.chosen.now) (omega (arith, c.requires.few, c.if-chosen-eq4.false)) c.if-low-n.true)

pub returns-then-chosen-eq4-clause-steps : goal.returns-then-chosen-eq4-clause-steps
returns-then-chosen-eq4-clause-steps g t c = c.last_card.ensures.steps ∙ ap (λ (m : ℕ). c.args.steps.now + m) (sym (hands-four c.args.n c.args.low (length c.args.chosen.now) c.if-chosen-eq4.true))

pub returns-else-low-n-clause-totals : goal.returns-else-low-n-clause-totals
returns-else-low-n-clause-totals g t c = λ k mask l s.
    omega (arith, summed-none (pay c.args.payments.now.table c.args.payments.now.coin) c.args.n c.args.chosen.now c.args.low (deal_at c.args.deals.now k) mask (omega (arith, c.requires.few)) c.if-low-n.false)

pub returns-else-low-n-clause-steps : goal.returns-else-low-n-clause-steps
returns-else-low-n-clause-steps g t c = omega (arith, hands-none c.args.n c.args.low (length c.args.chosen.now) (omega (arith, c.requires.few)) c.if-low-n.false)
