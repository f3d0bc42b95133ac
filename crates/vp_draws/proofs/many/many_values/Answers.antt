use Rattle.std.proofs.Common.{◌≡◌, ◌<◌, ◌≤◌, ◌+◌, ◌*◌, ◌^◌, [], ℕ, List, length, get_or, set, inl, inr, arith, sym, ap, subst, ◌∙◌}
use Rattle.std.proofs.lemmas.Bool.{cases_lt}
use Rattle.std.proofs.lemmas.List.{get_or-set_other}
use Rattle.std.proofs.lemmas.Grind.{get_or-set_at}
use Rattle.vp_sets.specs.Draws.{discarded, scale}
use Rattle.vp_sets.proofs.Holds.{Dealt, dealt_from}
use Rattle.vp_draws.specs.Draws.{total, value}
use Rattle.vp_draws.specs.Many.{cell, deal_at}
use Rattle.vp_draws.proofs.Masks.{deal_is}
use Rattle.vp_draws.proofs.Values.{value_fits, value_is}
use Rattle.vp_draws.proofs.many.many_values.Goals as goal

pub scale_all-requires-clause-room : goal.scale_all-requires-clause-room
scale_all-requires-clause-room g c = λ mask s.
    let k = c.loop-k.k in
    let deal : c.index-deals-k.result ≡ deal_at c.args.deals.now k = deal_is c.args.deals.now k c.index-deals-k.result (omega arith) c.index-deals-k.is in
    let d : Dealt c.args.table.now.deck (deal_at c.args.deals.now k) = dealt_from _ _ (c.many_totals.ensures.hands k (omega arith)) (c.requires.cards k (omega arith)) in
    let sum : cell c.loop-k.values k mask ≡ total c.args.table.now c.args.coin (deal_at c.args.deals.now k) mask = c.loop-k.invariant.left k mask (omega arith) (omega arith) s in
    let fits : total c.args.table.now c.args.coin (deal_at c.args.deals.now k) mask * scale c.args.table.now.deck (length (discarded mask (deal_at c.args.deals.now k))) < 2 ^ 64 = value_fits c.args.table.now c.args.coin (deal_at c.args.deals.now k) mask c.requires.table d in
    subst (λ (n : ℕ). n * scale c.args.table.now.deck (length (discarded mask c.index-deals-k.result)) < 2 ^ 64) (sym sum)
    (subst (λ (h : List ℕ). total c.args.table.now c.args.coin (deal_at c.args.deals.now k) mask * scale c.args.table.now.deck (length (discarded mask h)) < 2 ^ 64) (sym deal) fits)

pub loop-k-preserved : goal.loop-k-preserved
loop-k-preserved g c =
    let i = c.loop-k.k in
    let deal : c.index-deals-k.result ≡ deal_at c.args.deals.now i = deal_is c.args.deals.now i c.index-deals-k.result (omega arith) c.index-deals-k.is in
    let long : i < length c.loop-k.values = omega (arith, c.loop-k.auto.values, c.requires.rows) in
    record {
      done = λ k l mask s. elim (cases_lt k i) [
        | inl p ↦ ap (λ (r : List ℕ). get_or r mask 0) (get_or-set_other c.loop-k.values i k c.scale_all.new.row [] (λ e. omega arith)) ∙ c.loop-k.invariant.done k p mask s
        | inr p ↦
            let q : k ≡ i = omega arith in
            let sum : cell c.loop-k.values i mask ≡ total c.args.table.now c.args.coin (deal_at c.args.deals.now i) mask = c.loop-k.invariant.left i mask (omega arith) (omega arith) s in
            ap (λ (r : List ℕ). get_or r mask 0) (get_or-set_at c.loop-k.values i k c.scale_all.new.row [] q long)
            ∙ c.scale_all.ensures mask s
            ∙ ap (λ (n : ℕ). n * scale c.args.table.now.deck (length (discarded mask c.index-deals-k.result))) sum
            ∙ ap (λ (h : List ℕ). total c.args.table.now c.args.coin (deal_at c.args.deals.now i) mask * scale c.args.table.now.deck (length (discarded mask h))) deal
            ∙ value_is c.args.table.now c.args.coin (deal_at c.args.deals.now i) mask
            ∙ ap (λ (j : ℕ). value c.args.table.now c.args.coin (deal_at c.args.deals.now j) mask) (sym q)
      ];
      left = λ k mask l m s. ap (λ (r : List ℕ). get_or r mask 0) (get_or-set_other c.loop-k.values i k c.scale_all.new.row [] (λ e. omega arith)) ∙ c.loop-k.invariant.left k mask (omega arith) m s;
    }
