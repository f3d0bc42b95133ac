-- The sums over the classes are sums over all deals.
use Rattle.std.proofs.Common.{◌≡◌, ℕ, ◌*◌, List, ap, sym, ◌∙◌}
use Rattle.std.specs.List.{sum_by}
use Rattle.vp_sets.proofs.Sublists.{sum_by-map}
use Rattle.vp_suit.specs.Classes.{IsKept, representatives, weight}
use Rattle.vp_suit.specs.Laws.{deals}
use Rattle.vp_suit.proofs.ClassLaws.{representative_kept, representative_own}
use Rattle.vp_suit.proofs.Weighed.{IsClass, by_classes}
use Rattle.vp_meter.specs.declared.segment.Segment.{Segment}
use Rattle.vp_meter.specs.Laws.{PiecesSumAllDeals, segment_in_force}
use Rattle.vp_meter.specs.Metered.{IsMetering, Metering}
use Rattle.vp_meter.specs.Pieces.{Graph, in_force}
use Rattle.vp_meter.specs.Spelling.{graph_of, graphs_of}

module _ (m : Metering) (lo hi x : ℕ) (part : Segment → ℕ) (bet : IsMetering m) where
  in_all : List ℕ → ℕ
  in_all cards = part (segment_in_force m lo hi x cards)

  in_all_kept : IsKept m.table.deck in_all
  unfolding in_all
  in_all_kept t cards l d = ap (λ (r : List ℕ). part (in_force x (graph_of m lo hi r).first (graph_of m lo hi r).later)) (representative_kept m.table.deck cards t bet.bet.rules.known_deck.0 d l)

  weighed : Graph → ℕ
  weighed g = g.weight * part (in_force x g.first g.later)

  own : (cards : List ℕ) → IsClass m.table.deck cards → weighed (graph_of m lo hi cards) ≡ weight cards * in_all cards
  unfolding in_all weighed graph_of
  own cards c = ap (λ (r : List ℕ). weight cards * part (in_force x (graph_of m lo hi r).first (graph_of m lo hi r).later)) (sym (representative_own m.table.deck cards bet.bet.rules.known_deck.0 c.0 c.1))

  over_deals : sum_by weighed (graphs_of m lo hi) ≡ sum_by in_all (deals m.table.deck)
  over_deals =
      sum_by-map weighed (graph_of m lo hi) (representatives m.table.deck)
      ∙ by_classes m.table.deck in_all (λ cards. weighed (graph_of m lo hi cards)) bet.bet.rules.known_deck.0 in_all_kept own

pub pieces_sum : PiecesSumAllDeals
unfolding weighed in_all
pieces_sum m lo hi x bet = record {
  base = over_deals m lo hi x (λ s. s.base) bet;
  slope = over_deals m lo hi x (λ s. s.slope) bet;
}
