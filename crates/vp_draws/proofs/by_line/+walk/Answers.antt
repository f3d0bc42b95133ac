use Rattle.std.proofs.Common.{◌≡◌, ◌<◌, ◌≤◌, ◌+◌, ◌-◌, ◌^◌, ◌∷◌, ◌++◌, [], ℕ, List, length, rules, arith, sym, ap, subst, ◌∙◌}
use Rattle.std.proofs.lemmas.List.{length-append}
use Rattle.vp_pay.specs.declared.table.PayTable.{PayTable}
use Rattle.vp_sets.specs.Draws.{mask_of}
use Rattle.vp_sets.specs.Index.{IsSet}
use Rattle.vp_sets.specs.Sets.{choose}
use Rattle.vp_draws.specs.ByLine.{count_at, ends_at, summed}
use Rattle.vp_draws.proofs.Summed.{summed_more, summed-none, set_wider, set_grows, hands_more, hands-none, hands-four}
use Rattle.vp_draws.proofs.by_line.+walk.Goals as goal

pub walk-requires : goal.walk-requires
walk-requires g t c κs within =
    let more : c.as_slice.result.now ≡ c.args.chosen.now ++ c.args.low ∷ [] = c.as_slice.ensures.value ∙ c.followed-more.ensures in
    let few : length c.as_slice.result.now ≤ 4 = omega (arith, ap length more, length-append c.args.chosen.now (c.args.low ∷ [])) in
    let set : IsSet (c.args.low + 1) c.as_slice.result.now = set_grows c.args.low c.args.chosen.now c.as_slice.result.now c.requires.set more in
    let mask : c.with_card-mask_of_more.result ≡ mask_of c.as_slice.result.now c.args.deal.now = c.with_card-mask_of_more.ensures.mask ∙ ap (λ (s : List ℕ). mask_of s c.args.deal.now) (sym more) in
    let room : (m place : ℕ) → m < 32 → place < 33 → count_at c.args.counts.now m place + summed (ends_at c.args.lines.now place) c.args.n c.as_slice.result.now (c.args.low + 1) c.args.deal.now m < 2 ^ 32 =
    λ m place l s. omega (arith, c.requires.room m place l s, summed_more (ends_at c.args.lines.now place) c.args.n c.args.chosen.now c.as_slice.result.now c.args.low c.args.deal.now m (omega (arith, c.requires.few)) c.if-low-n.true more) in
    search rules

pub walk-requires-then-low-n : goal.walk-requires-then-low-n
walk-requires-then-low-n g t c κs within =
    let more : c.as_slice.result.now ≡ c.args.chosen.now ++ c.args.low ∷ [] = c.as_slice.ensures.value ∙ c.followed-more.ensures in
    let lines : length c.walk.new.lines.lines.items ≤ 32 = subst (λ (b : PayTable). length b.lines.items ≤ 32) (sym c.walk.ensures.same) c.requires.lines in
    let set : IsSet (c.args.low + 1) c.args.chosen.now = set_wider c.args.low c.args.chosen.now c.requires.set in
    let room : (m place : ℕ) → m < 32 → place < 33 → count_at c.walk.new.counts m place + summed (ends_at c.walk.new.lines place) c.args.n c.args.chosen.now (c.args.low + 1) c.args.deal.now m < 2 ^ 32 =
    λ m place l s. subst (λ (b : PayTable). count_at c.walk.new.counts m place + summed (ends_at b place) c.args.n c.args.chosen.now (c.args.low + 1) c.args.deal.now m < 2 ^ 32) (sym c.walk.ensures.same)
    (omega (arith, c.requires.room m place l s, c.walk.ensures.counts m place l s, summed_more (ends_at c.args.lines.now place) c.args.n c.args.chosen.now c.as_slice.result.now c.args.low c.args.deal.now m (omega (arith, c.requires.few)) c.if-low-n.true more)) in
    search rules

pub returns-then-low-n-clause-counts : goal.returns-then-low-n-clause-counts
returns-then-low-n-clause-counts g t c = λ m place l s.
    let more : c.as_slice.result.now ≡ c.args.chosen.now ++ c.args.low ∷ [] = c.as_slice.ensures.value ∙ c.followed-more.ensures in
    let later : count_at c.walk-then-low-n.new.counts m place ≡ count_at c.walk.new.counts m place + summed (ends_at c.args.lines.now place) c.args.n c.args.chosen.now (c.args.low + 1) c.args.deal.now m =
    c.walk-then-low-n.ensures.counts m place l s ∙ ap (λ (b : PayTable). count_at c.walk.new.counts m place + summed (ends_at b place) c.args.n c.args.chosen.now (c.args.low + 1) c.args.deal.now m) c.walk.ensures.same in
    omega (arith, later, c.walk.ensures.counts m place l s, summed_more (ends_at c.args.lines.now place) c.args.n c.args.chosen.now c.as_slice.result.now c.args.low c.args.deal.now m (omega (arith, c.requires.few)) c.if-low-n.true more)

pub returns-then-low-n-clause-steps : goal.returns-then-low-n-clause-steps
returns-then-low-n-clause-steps g t c =
    let more : c.as_slice.result.now ≡ c.args.chosen.now ++ c.args.low ∷ [] = c.as_slice.ensures.value ∙ c.followed-more.ensures in
    let many : length c.as_slice.result.now ≡ length c.args.chosen.now + 1 = ap length more ∙ length-append c.args.chosen.now (c.args.low ∷ []) in
    let first : c.walk.new.steps ≡ c.args.steps.now + choose (c.args.n - (c.args.low + 1)) (5 - (length c.args.chosen.now + 1)) = c.walk.ensures.steps ∙ ap (λ (m : ℕ). c.args.steps.now + choose (c.args.n - (c.args.low + 1)) (5 - m)) many in
    omega (arith, first, c.walk-then-low-n.ensures.steps, hands_more c.args.n c.args.low (length c.args.chosen.now) (omega (arith, c.requires.few, c.if-chosen-eq4.false)) c.if-low-n.true)

pub returns-then-chosen-eq4-clause-steps : goal.returns-then-chosen-eq4-clause-steps
returns-then-chosen-eq4-clause-steps g t c = c.last_card.ensures.steps ∙ ap (λ (m : ℕ). c.args.steps.now + m) (sym (hands-four c.args.n c.args.low (length c.args.chosen.now) c.if-chosen-eq4.true))

pub returns-else-low-n-clause-counts : goal.returns-else-low-n-clause-counts
returns-else-low-n-clause-counts g t c = λ m place l s.
    omega (arith, summed-none (ends_at c.args.lines.now place) c.args.n c.args.chosen.now c.args.low c.args.deal.now m (omega (arith, c.requires.few)) c.if-low-n.false)

pub returns-else-low-n-clause-steps : goal.returns-else-low-n-clause-steps
returns-else-low-n-clause-steps g t c = omega (arith, hands-none c.args.n c.args.low (length c.args.chosen.now) (omega (arith, c.requires.few)) c.if-low-n.false)
