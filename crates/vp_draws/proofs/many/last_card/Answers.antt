use Rattle.std.proofs.Common.{◌≡◌, ◌+◌, ◌<◌, ◌≤◌, ap, refl, sym, ◌∙◌, arith, List, [], ◌∷◌, ◌++◌, ◌==◌, cond, ℕ}
use Rattle.vp_sets.specs.Draws.{mask_of}
use Rattle.vp_wild.specs.Kept.{Bet}
use Rattle.vp_wild.specs.Payment.{pay}
use Rattle.vp_draws.specs.ByLine.{summed}
use Rattle.vp_draws.specs.Many.{cell, deal_at}
use Rattle.vp_draws.proofs.Summed.{summed-none, fifth_fits, fifth_summed}
use Rattle.vp_draws.proofs.Masks.{mask_lt, unpaid}
use Rattle.vp_draws.proofs.many.last_card.Goals as goal
use Rattle.vp_draws.proofs.many.last_card.Goals.{then-payment-gt0, else-payment-gt0}

pub add-requires-clause-room : goal.add-requires-clause-room
add-requires-clause-room g c =
    let paid : c.from.result ≡ pay c.args.payments.now.table c.args.payments.now.coin c.with_last.result = c.from.ensures ∙ c.pay-payment.ensures.payment ∙ ap (λ (b : Bet). pay b.table b.coin c.with_last.result) c.loop-card.invariant.same in
    λ k l.
    let h : mask_of (c.args.chosen.now ++ c.loop-card.card ∷ []) (deal_at c.args.deals.now k) < 32 = mask_lt (c.args.chosen.now ++ c.loop-card.card ∷ []) (deal_at c.args.deals.now k) (c.requires.hands k) in
    omega (arith, paid, fifth_fits (pay c.args.payments.now.table c.args.payments.now.coin) c.args.n c.args.chosen.now c.with_last.result c.loop-card.card (deal_at c.args.deals.now k) (cell c.loop-card.totals k (mask_of (c.args.chosen.now ++ c.loop-card.card ∷ []) (deal_at c.args.deals.now k))) _ c.requires.four c.loop-card-test.true c.with_last.ensures (c.loop-card.invariant.so_far k _ l h), c.requires.room k _ l h)

pub loop-card-preserved : goal.loop-card-preserved
loop-card-preserved g c =
    let paid : c.pay-payment.result ≡ pay c.args.payments.now.table c.args.payments.now.coin c.with_last.result = c.pay-payment.ensures.payment ∙ ap (λ (b : Bet). pay b.table b.coin c.with_last.result) c.loop-card.invariant.same in
    record {
      so_far = elim c.if-payment-gt0.branch [
        | then-payment-gt0 w ↦ λ k mask l s.
            let one : c.if-payment-gt0.totals ≡ w.add.new.totals = w.totals-is in
            let sum : cell c.if-payment-gt0.totals k mask ≡ cell c.loop-card.totals k mask + cond (mask_of (c.args.chosen.now ++ c.loop-card.card ∷ []) (deal_at c.args.deals.now k) == mask) (pay c.args.payments.now.table c.args.payments.now.coin c.with_last.result) 0 =
            ap (λ (t : List (List ℕ)). cell t k mask) w.totals-is ∙ w.add.ensures k mask l ∙ ap (λ (p : ℕ). cell c.loop-card.totals k mask + cond (mask_of (c.args.chosen.now ++ c.loop-card.card ∷ []) (deal_at c.args.deals.now k) == mask) p 0) (w.from.ensures ∙ paid) in
            fifth_summed (pay c.args.payments.now.table c.args.payments.now.coin) c.args.n c.args.chosen.now c.with_last.result c.loop-card.card (deal_at c.args.deals.now k) mask (cell c.loop-card.totals k mask) (cell c.if-payment-gt0.totals k mask) _ c.requires.four c.loop-card-test.true c.with_last.ensures (c.loop-card.invariant.so_far k mask l s) sum
        | else-payment-gt0 w ↦ λ k mask l s.
            let zero : pay c.args.payments.now.table c.args.payments.now.coin c.with_last.result ≡ 0 = omega (arith, paid, w.if-payment-gt0.false) in
            let sum : cell c.if-payment-gt0.totals k mask ≡ cell c.loop-card.totals k mask + cond (mask_of (c.args.chosen.now ++ c.loop-card.card ∷ []) (deal_at c.args.deals.now k) == mask) (pay c.args.payments.now.table c.args.payments.now.coin c.with_last.result) 0 =
            ap (λ (t : List (List ℕ)). cell t k mask) w.totals-is ∙ unpaid (mask_of (c.args.chosen.now ++ c.loop-card.card ∷ []) (deal_at c.args.deals.now k) == mask) (cell c.loop-card.totals k mask) _ zero in
            fifth_summed (pay c.args.payments.now.table c.args.payments.now.coin) c.args.n c.args.chosen.now c.with_last.result c.loop-card.card (deal_at c.args.deals.now k) mask (cell c.loop-card.totals k mask) (cell c.if-payment-gt0.totals k mask) _ c.requires.four c.loop-card-test.true c.with_last.ensures (c.loop-card.invariant.so_far k mask l s) sum
      ];
      same = c.pay-payment.ensures.same ∙ c.loop-card.invariant.same;
      steps = omega (arith, c.pay-payment.ensures.step, c.loop-card.invariant.steps);
    }

pub returns-clause-totals : goal.returns-clause-totals
returns-clause-totals g c = λ k mask l s.
    omega (arith, c.loop-card.invariant.so_far k mask l s, summed-none (pay c.args.payments.now.table c.args.payments.now.coin) c.args.n c.args.chosen.now c.loop-card.card (deal_at c.args.deals.now k) mask (omega (arith, c.requires.four)) c.loop-card-test.false)
