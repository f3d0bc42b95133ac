-- Sums over all deals of crossed values and of costs.
use Rattle.std.proofs.Common.{◌≡◌, ℕ, ◌+◌, ◌^◌, ◌<◌, ◌≤◌, sym, ◌∙◌, arith}
use Rattle.std.specs.Prelude.{sum_by}
use Rattle.vp_pay.specs.declared.table.PayTable.{PayTable}
use Rattle.vp_pay.specs.Table.{IsTable}
use Rattle.vp_sets.proofs.Sublists.{sum_by-plus}
use Rattle.vp_suit.specs.Laws.{deals}
use Rattle.vp_suit.proofs.Weighed.{deals_agree}
use Rattle.vp_draws.specs.Draws.{best, sum_of_best}
use Rattle.vp_draws.proofs.Bounds.{sum_of_best_fits}
use Rattle.vp_cross.specs.Crossings.{crossed_value, cost, sum_of_crossed}
use Rattle.vp_cross.proofs.Costs.{make_up}

pub costs_add_up : (played priced : PayTable) (coin : ℕ) → IsTable priced → sum_of_crossed played priced coin + sum_by (cost played priced coin) (deals priced.deck) ≡ sum_of_best priced coin
unfolding sum_of_crossed sum_of_best
costs_add_up played priced coin t =
    sym (sum_by-plus (crossed_value played priced coin) (cost played priced coin) (deals priced.deck))
    ∙ deals_agree priced.deck (λ cards. crossed_value played priced coin cards + cost played priced coin cards) (best priced coin) (λ cards d. make_up played priced coin cards t.known_deck.0 d)

pub never_exceeds : (played priced : PayTable) (coin : ℕ) → IsTable priced → sum_of_crossed played priced coin ≤ sum_of_best priced coin
never_exceeds played priced coin t = omega (arith, costs_add_up played priced coin t)

sum_of_crossed_fits : (played priced : PayTable) (coin : ℕ) → IsTable priced → sum_of_crossed played priced coin < 2 ^ 64
sum_of_crossed_fits played priced coin t = omega (arith, never_exceeds played priced coin t, sum_of_best_fits priced coin t)

-- as the sum that it is
pub crossed_sum_fits : (played priced : PayTable) (coin : ℕ) → IsTable priced → sum_by (crossed_value played priced coin) (deals priced.deck) < 2 ^ 64
unfolding sum_of_crossed
crossed_sum_fits played priced coin t = sum_of_crossed_fits played priced coin t
