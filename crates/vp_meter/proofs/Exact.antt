-- Meters are exact at each whole payment.
use Rattle.std.proofs.Common.{◌≡◌, ℕ, ◌+◌, ◌*◌, ◌<◌, ◌≤◌, List, [], ◌∷◌, ap, refl, subst, sym, ◌∙◌}
use Rattle.std.specs.List.{All}
use Rattle.std.proofs.lemmas.List.Elements.{All-nil, All-cons}
use Rattle.vp_draws.specs.Draws.{IsMean, best, total, value, sum_of_best}
use Rattle.vp_draws.proofs.Chosen.{value_le_best}
use Rattle.vp_draws.proofs.TurnedValues.{best_by_representative, carried_from}
use Rattle.vp_draws.proofs.Values.{scaled_mean}
use Rattle.vp_suit.specs.Classes.{IsDeal, least_turn, representative, representatives}
use Rattle.vp_suit.specs.Turns.{carried}
use Rattle.vp_suit.proofs.Deals.{deal_rises}
use Rattle.vp_suit.proofs.Representatives.{represented}
use Rattle.vp_suit.proofs.TurnedDraws.{dealt_is}
use Rattle.vp_meter.specs.declared.piece.Piece.{Piece}
use Rattle.vp_meter.specs.Metered.{IsMetering, Metering, at_payment, with_payment}
use Rattle.vp_meter.specs.Laws.{IsBestAt, IsPlayed, MetersTellEveryDeal, PlayedHold, mask_in_force}
use Rattle.vp_meter.specs.Pieces.{in_force, piece_in_force, pieces}
use Rattle.vp_meter.specs.Segments.{worth}
use Rattle.vp_meter.specs.Spelling.{graph_of, graphs_of}
use Rattle.vp_meter.proofs.MeterGraphs.{are_graphs, in_force_at, straight, weight_is}
use Rattle.vp_meter.proofs.WholeSums.{IsOptimal, piece_is_exact}

pub optimal : (m : Metering) (lo hi x : ℕ) (cards : List ℕ) → lo ≤ x → x ≤ hi
    → value (with_payment m.table m.coin m.place x) m.coin cards (in_force x (graph_of m lo hi cards).first (graph_of m lo hi cards).later).mask ≡ best (with_payment m.table m.coin m.place x) m.coin cards
unfolding worth best
optimal m lo hi x cards from to = (in_force_at m lo hi x cards from to).best

worth_is : (m : Metering) (x mask : ℕ) (cards : List ℕ) → worth m cards x mask ≡ value (with_payment m.table m.coin m.place x) m.coin cards mask
unfolding worth
worth_is m x mask cards = refl

line_optimal : (m : Metering) (lo hi x : ℕ) (cards : List ℕ) → IsMetering m → lo ≤ x → x ≤ hi → IsOptimal (best (with_payment m.table m.coin m.place x) m.coin) x (graph_of m lo hi) cards
line_optimal m lo hi x cards bet from to =
    let s = in_force x (graph_of m lo hi cards).first (graph_of m lo hi cards).later in
    let h = in_force_at m lo hi x cards from to in
    let line : s.base + x * s.slope ≡ worth m cards x s.mask = rw (h.base, h.slope) (sym (straight m cards bet x s.mask)) in
    line ∙ (worth_is m x s.mask cards ∙ optimal m lo hi x cards from to)

every : (P : List ℕ → Type 0) (xs : List (List ℕ)) → ((x : List ℕ) → P x) → All P xs
every P [] h = All-nil P
every P (x ∷ xs) h = All-cons P x xs (h x) (every P xs h)

pub exact : (m : Metering) (lo hi x : ℕ) (first : Piece) (later : List Piece) → IsMetering m → lo ≤ x → x ≤ hi → pieces lo hi (graphs_of m lo hi) ≡ first ∷ later
    → (piece_in_force x first later).base + x * (piece_in_force x first later).slope ≡ sum_of_best (with_payment m.table m.coin m.place x) m.coin
exact m lo hi x first later bet from to is =
    piece_is_exact m.table m.coin m.place lo hi x (graph_of m lo hi) first later bet.bet.rules.known_deck.0 from to (λ cards. weight_is m lo hi cards) (are_graphs m lo hi bet).climbing
    (every (IsOptimal (best (with_payment m.table m.coin m.place x) m.coin) x (graph_of m lo hi)) (representatives m.table.deck) (λ cards. line_optimal m lo hi x cards bet from to)) is

-- ---- every deal

small_mask : (m : Metering) (lo hi x : ℕ) (cards : List ℕ) → lo ≤ x → x ≤ hi → mask_in_force m lo hi x cards < 32
small_mask m lo hi x cards from to = (in_force_at m lo hi x cards from to).hold

-- each deal has a hold that the turn to its representative carries to the mask in force
pub played : (m : Metering) (lo hi x : ℕ) (cards : List ℕ) → IsMetering m → lo ≤ x → x ≤ hi → IsDeal m.table.deck cards → PlayedHold m lo hi x cards
unfolding representative
played m lo hi x cards bet from to deal =
    let turns = (represented cards (deal_rises m.table.deck cards deal)).inside in
    let before = carried_from m.table.deck (least_turn cards) (mask_in_force m lo hi x (representative cards)) cards turns deal (small_mask m lo hi x (representative cards) from to) in
    record { mask = before.0; within = before.1; played = record { turning = least_turn cards; within = turns; deal = refl; hold = before.2 } }

-- the value of each hold is its mean payment, however much the line pays
mean_at : (m : Metering) (x mask : ℕ) (cards : List ℕ) → IsMetering m → IsDeal m.table.deck cards → IsMean m.table.deck cards mask (total (at_payment m x) m.coin cards mask) (value (at_payment m x) m.coin cards mask)
unfolding value with_payment
mean_at m x mask cards bet deal = scaled_mean m.table.deck cards mask (total (at_payment m x) m.coin cards mask) bet.bet.rules.known_deck (dealt_is m.table.deck cards deal)

-- and it is best
pub played_best : (m : Metering) (lo hi x mask : ℕ) (cards : List ℕ) → IsMetering m → lo ≤ x → x ≤ hi → IsDeal m.table.deck cards → IsPlayed m lo hi x cards mask → IsBestAt m x cards mask
unfolding with_payment
played_best m lo hi x mask cards bet from to deal is =
    let t = at_payment m x in
    let there : value t m.coin (representative cards) (carried is.turning cards mask) ≡ best t m.coin (representative cards) =
    ap (value t m.coin (representative cards)) is.hold ∙ optimal m lo hi x (representative cards) from to in
    let here : value t m.coin cards mask ≡ best t m.coin cards = best_by_representative is.turning mask m.coin t cards bet.bet.rules.known_deck.0 is.within deal is.deal there in
    record {
      best = here;
      greatest = λ other small. subst (λ v. value t m.coin cards other ≤ v) (sym here) (value_le_best t m.coin cards other small);
      mean = λ other small. mean_at m x other cards bet deal;
    }

-- a meter tells every deal
pub meter_tells : MetersTellEveryDeal
meter_tells m lo hi bet = record {
  every = λ x cards from to deal. played m lo hi x cards bet from to deal;
  holds = λ x mask cards from to deal is. played_best m lo hi x mask cards bet from to deal is;
  sums = λ x first later from to is. exact m lo hi x first later bet from to is;
}
