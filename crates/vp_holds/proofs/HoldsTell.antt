-- The text of `holds` tells all holds of a deal.
use Rattle.std.proofs.Common.{◌≡◌, ℕ, ◌+◌, ◌*◌, ◌<◌, inl, inr, List, get_or, length, refl, ap, ◌∙◌, arith}
use Rattle.std.specs.Prelude.{slice_index}
use Rattle.std.proofs.lemmas.Bool.{cases_lt}
use Rattle.vp_pay.specs.Inputs.{has_bet}
use Rattle.vp_pay.proofs.Inputs.{hands_read}
use Rattle.vp_pay.specs.Table.{IsTable}
use Rattle.vp_pay.specs.declared.table.PayTable.{PayTable}
use Rattle.vp_draws.specs.Draws.{IsPrinted, least_best, value}
use Rattle.vp_draws.specs.ByLine.{line_draws}
use Rattle.vp_draws.proofs.Chosen.{least_best_small, least_best_value, value_le_best, below_least_best}
use Rattle.vp_deal.specs.Deal.{Dealt, best_of}
use Rattle.vp_deal.proofs.DealTells.{deals_print}
use Rattle.vp_holds.specs.Holds.{line_counts, line_pays}
use Rattle.vp_holds.specs.HoldsTell.{HoldsTellEveryHold, TellsHold}
use Rattle.vp_holds.specs.Ranking.{ranked}
use Rattle.vp_holds.proofs.Ranked.{IsFirst, ranked_first, ranked_length, ranked_once, ranked_order}
use Rattle.vp_holds.proofs.LineShares.{counted_line, counted_none, lines_pay, lines_share, sum_agree}
use Rattle.vp_holds.proofs.HoldLines.{counts_at, counts_length}

-- the first hold is the least best one
first_is_least_best : (table : PayTable) (coin : ℕ) (hand : List ℕ) → get_or (ranked (value table coin hand) 32) 0 0 ≡ least_best table coin hand
first_is_least_best table coin hand =
    let f : IsFirst (value table coin hand) 32 (get_or (ranked (value table coin hand) 32) 0 0) = ranked_first (value table coin hand) 32 (omega arith) in
    let first : ℕ = get_or (ranked (value table coin hand) 32) 0 0 in
    let worth = least_best_value table coin hand in
    elim (cases_lt first (least_best table coin hand)) [
      | inl l ↦ absurd (omega (arith, below_least_best table coin hand first l, f.most (least_best table coin hand) (least_best_small table coin hand)))
      | inr l ↦ elim (cases_lt (least_best table coin hand) first) [
        | inl m ↦ absurd (omega (arith, f.least (least_best table coin hand) m, value_le_best table coin hand first f.small))
        | inr m ↦ omega arith
      ]
    ]

tells_hold : (d : Dealt) (mask : ℕ) → IsTable d.table → IsPrinted d.table d.coin d.hand (best_of d).mask (best_of d).value → mask < 32 → TellsHold d mask
tells_hold d mask t p l = record {
  mean = p.mean mask l;
  many = counts_length d mask;
  lines = λ place k. counts_at d mask place k ∙ counted_line d.table place d.hand mask (omega (arith, t.most_lines));
  none = counted_none d.table d.hand mask t;
  all = ap (λ n. n + line_draws d.table 32 d.hand mask) (sum_agree (slice_index (line_counts d mask)) (λ place. line_draws d.table place d.hand mask) (length d.table.lines.items) (counts_at d mask)) ∙ lines_share d.table d.hand mask t;
  pays = sum_agree (λ place. slice_index (line_pays d.table d.coin) place * slice_index (line_counts d mask) place) (λ place. slice_index (line_pays d.table d.coin) place * line_draws d.table place d.hand mask) (length d.table.lines.items)
      (λ i k. ap (λ n. slice_index (line_pays d.table d.coin) i * n) (counts_at d mask i k))
      ∙ lines_pay d.table d.coin d.hand mask t;
}

pub holds_tell : HoldsTellEveryHold
holds_tell coin bytes table hand says =
    let d : Dealt = record { table = table; coin = coin; hand = hand } in
    let deal = deals_print coin bytes table hand says in
    let found = ((hands_read (has_bet coin)).spelled bytes (table, hand)).0 says in
    let t : IsTable table = found.1.0.0 in
    record {
      status = refl;
      text = refl;
      first = first_is_least_best table coin hand;
      best = deal.printed;
      many = ranked_length (value table coin hand) 32;
      once = ranked_once (value table coin hand) 32;
      order = ranked_order (value table coin hand) 32;
      holds = λ mask l. tells_hold d mask t deal.printed l;
    }
