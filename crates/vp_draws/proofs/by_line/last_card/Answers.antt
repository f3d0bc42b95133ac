use Rattle.std.proofs.Common.{◌≡◌, ◌+◌, ◌<◌, ◌≤◌, ap, sym, subst, ◌∙◌, arith, [], ◌∷◌, ◌++◌, ◌==◌, cond, ℕ, length}
use Rattle.vp_pay.specs.declared.table.PayTable.{PayTable}
use Rattle.vp_sets.specs.Draws.{mask_of}
use Rattle.vp_wild.specs.Payment.{line}
use Rattle.vp_draws.specs.ByLine.{count_at, ends_at, summed}
use Rattle.vp_draws.proofs.Summed.{summed-none, fifth_fits, fifth_summed}
use Rattle.vp_draws.proofs.LineDraws.{counted_at, own_line, place_lt}
use Rattle.vp_draws.proofs.by_line.last_card.Goals as goal

pub count-requires-clause-room : goal.count-requires-clause-room
count-requires-clause-room g c =
    let place = c.unwrap_or.result in
    let mask = c.with_card-mask_of_hand.result in
    let found : c.line-line.result ≡ line c.args.lines.now c.with_last.result = c.line-line.ensures.line ∙ ap (λ (t : PayTable). line t c.with_last.result) c.loop-card.invariant.same in
    let few : length c.loop-card.lines.lines.items ≤ 32 = subst (λ (t : PayTable). length t.lines.items ≤ 32) (sym c.loop-card.invariant.same) c.requires.lines in
    let small : place < 33 = subst (λ (n : ℕ). n < 33) (sym c.unwrap_or.ensures) (place_lt c.loop-card.lines c.with_last.result c.line-line.result c.line-line.ensures.inside few) in
    let own : mask ≡ mask_of (c.args.chosen.now ++ c.loop-card.card ∷ []) c.args.deal.now = c.with_card-mask_of_hand.ensures.mask in
    let fits : count_at c.loop-card.counts mask place + ends_at c.args.lines.now place c.with_last.result ≤ count_at c.args.counts.now mask place + summed (ends_at c.args.lines.now place) c.args.n c.args.chosen.now c.args.low c.args.deal.now mask =
    fifth_fits (ends_at c.args.lines.now place) c.args.n c.args.chosen.now c.with_last.result c.loop-card.card c.args.deal.now (count_at c.loop-card.counts mask place) _ c.requires.four c.loop-card-test.true c.with_last.ensures
    (ap (λ (m : ℕ). count_at c.loop-card.counts mask place + summed (ends_at c.args.lines.now place) c.args.n c.args.chosen.now c.loop-card.card c.args.deal.now m) (sym own) ∙ c.loop-card.invariant.so_far mask place c.with_card-mask_of_hand.ensures.small small) in
    omega (arith, fits, own_line c.args.lines.now c.with_last.result c.line-line.result place found c.unwrap_or.ensures, c.requires.room mask place c.with_card-mask_of_hand.ensures.small small)

pub loop-card-preserved : goal.loop-card-preserved
loop-card-preserved g c =
    let found : c.line-line.result ≡ line c.args.lines.now c.with_last.result = c.line-line.ensures.line ∙ ap (λ (t : PayTable). line t c.with_last.result) c.loop-card.invariant.same in
    record {
      so_far = λ m place l s.
          let step : count_at c.count.new.counts m place ≡ count_at c.loop-card.counts m place + cond (mask_of (c.args.chosen.now ++ c.loop-card.card ∷ []) c.args.deal.now == m) (ends_at c.args.lines.now place c.with_last.result) 0 =
          c.count.ensures m place l s
          ∙ ap (λ (n : ℕ). count_at c.loop-card.counts m place + n) (counted_at c.args.lines.now c.with_last.result c.line-line.result c.unwrap_or.result c.with_card-mask_of_hand.result m place found c.unwrap_or.ensures)
          ∙ ap (λ (n : ℕ). count_at c.loop-card.counts m place + cond (n == m) (ends_at c.args.lines.now place c.with_last.result) 0) c.with_card-mask_of_hand.ensures.mask in
          fifth_summed (ends_at c.args.lines.now place) c.args.n c.args.chosen.now c.with_last.result c.loop-card.card c.args.deal.now m (count_at c.loop-card.counts m place) (count_at c.count.new.counts m place) _ c.requires.four c.loop-card-test.true c.with_last.ensures (c.loop-card.invariant.so_far m place l s) step;
      same = c.line-line.ensures.same ∙ c.loop-card.invariant.same;
      steps = omega (arith, c.line-line.ensures.step, c.loop-card.invariant.steps);
    }

pub returns-clause-counts : goal.returns-clause-counts
returns-clause-counts g c = λ m place l s.
    omega (arith, c.loop-card.invariant.so_far m place l s, summed-none (ends_at c.args.lines.now place) c.args.n c.args.chosen.now c.loop-card.card c.args.deal.now m (omega (arith, c.requires.four)) c.loop-card-test.false)
