-- The numbers of a piece are counts of classes and of deals, and sums over all deals.
use Rattle.std.proofs.Common.{◌≡◌, ℕ, ◌+◌, ◌-◌, ◌*◌, ◌≤◌, Bool, true, false, List, [], ◌∷◌, refl, sym, ap, ◌∙◌, arith}
use Rattle.std.specs.Prelude.{count_by, if◌then◌else◌, ◌==◌}
use Rattle.std.specs.List.{All, list_any}
use Rattle.std.proofs.lemmas.Bool.Decides.{nat_tests}
use Rattle.std.proofs.lemmas.List.Elements.{All-cons, All-map}
use Rattle.std.proofs.lemmas.List.Sums.{sum_by-cons}
use Rattle.vp_sets.proofs.Sublists.{sum_by-map}
use Rattle.vp_suit.specs.Classes.{IsKept, representative, representatives, weight}
use Rattle.vp_suit.specs.Laws.{deals}
use Rattle.vp_suit.proofs.ClassLaws.{representative_kept, representative_own}
use Rattle.vp_suit.proofs.Weighed.{IsClass, by_classes}
use Rattle.vp_meter.specs.declared.segment.Segment.{Segment}
use Rattle.vp_meter.specs.MeterTells.{TellsPiece, turns_at}
use Rattle.vp_meter.specs.Metered.{IsMetering, Metering}
use Rattle.vp_meter.specs.Pieces.{begins_at, breaks, classes_at, climbs, deals_at, first_piece, piece_at, pieces}
use Rattle.vp_meter.specs.Spelling.{graph_of, graphs_of}
use Rattle.vp_meter.proofs.DealSums.{pieces_sum}
use Rattle.vp_meter.proofs.Graphs.{climb}
use Rattle.vp_meter.proofs.MeterGraphs.{first_from, graph_climbs}

-- ---- how many classes and deals turn to another hold at x

classes_turn : (m : Metering) (lo hi x : ℕ) → classes_at x (graphs_of m lo hi) ≡ count_by (turns_at m lo hi x) (representatives m.table.deck)
classes_turn m lo hi x = sum_by-map _ (graph_of m lo hi) (representatives m.table.deck)

module _ (m : Metering) (lo hi x : ℕ) (bet : IsMetering m) where
  in_deal : List ℕ → ℕ
  in_deal cards = if turns_at m lo hi x (representative cards) then 1 else 0

  in_deal_kept : IsKept m.table.deck in_deal
  unfolding in_deal
  in_deal_kept t cards l d = ap (λ (r : List ℕ). if turns_at m lo hi x r then 1 else 0) (representative_kept m.table.deck cards t bet.bet.rules.known_deck.0 d l)

  in_class : List ℕ → ℕ
  in_class cards = if turns_at m lo hi x cards then weight cards else 0

  own : (cards : List ℕ) → IsClass m.table.deck cards → in_class cards ≡ weight cards * in_deal cards
  unfolding in_deal in_class
  own cards c =
      by_test (turns_at m lo hi x cards) (weight cards)
      ∙ ap (λ (r : List ℕ). weight cards * (if turns_at m lo hi x r then 1 else 0)) (sym (representative_own m.table.deck cards bet.bet.rules.known_deck.0 c.0 c.1))
    where
      by_test : (b : Bool) (w : ℕ) → (if b then w else 0) ≡ w * (if b then 1 else 0)
      by_test true w = omega arith
      by_test false w = omega arith

  deals_turn : deals_at x (graphs_of m lo hi) ≡ count_by (λ cards. turns_at m lo hi x (representative cards)) (deals m.table.deck)
  unfolding in_deal in_class graph_of
  deals_turn = sum_by-map _ (graph_of m lo hi) (representatives m.table.deck) ∙ by_classes m.table.deck in_deal in_class bet.bet.rules.known_deck.0 in_deal_kept own

-- ---- none turns where the range begins

none_begins : (x : ℕ) (s : Segment) (later : List Segment) → climbs s later ≡ true → x ≤ s.from → list_any (λ (t : Segment). t.from == x) later ≡ false
none_begins x s [] climbing from = refl
none_begins x s (t ∷ later) climbing from =
    let next = climb s t later climbing in
    let here : (t.from == x) ≡ false = grind (arith, nat_tests, next.later, from) in
    let rest = none_begins x t later next.rest (omega (arith, next.later)) in
    rw (here, rest) refl

none_turns : (m : Metering) (lo hi : ℕ) (cards : List ℕ) → IsMetering m → turns_at m lo hi lo cards ≡ false
unfolding begins_at
none_turns m lo hi cards bet = none_begins lo (graph_of m lo hi cards).first (graph_of m lo hi cards).later (graph_climbs m lo hi cards bet) (first_from m lo hi cards)

count_none : (test : List ℕ → Bool) (some : List (List ℕ)) → ((cards : List ℕ) → test cards ≡ false) → 0 ≡ count_by test some
count_none test [] none = refl
count_none test (cards ∷ more) none =
    let rest = count_none test more none in
    let here : ◌≡◌ {A = ℕ} (if test cards then 1 else 0) 0 = ap (λ (b : Bool). if b then 1 else 0) (none cards) in
    let split : count_by test (cards ∷ more) ≡ (if test cards then 1 else 0) + count_by test more = sum_by-cons (λ (c : List ℕ). if test c then 1 else 0) cards more in
    omega (arith, rest, here, split)

-- ---- all pieces

first_tells : (m : Metering) (lo hi : ℕ) → IsMetering m → TellsPiece m lo hi (first_piece lo (graphs_of m lo hi))
first_tells m lo hi bet =
    let sums = pieces_sum m lo hi lo bet in
    record {
      classes = count_none (turns_at m lo hi lo) (representatives m.table.deck) (λ cards. none_turns m lo hi cards bet);
      deals = count_none (λ cards. turns_at m lo hi lo (representative cards)) (deals m.table.deck) (λ cards. none_turns m lo hi (representative cards) bet);
      base = sums.base;
      slope = sums.slope;
    }

later_tells : (m : Metering) (lo hi x : ℕ) → IsMetering m → TellsPiece m lo hi (piece_at (graphs_of m lo hi) x)
later_tells m lo hi x bet =
    let sums = pieces_sum m lo hi x bet in
    record { classes = classes_turn m lo hi x; deals = deals_turn m lo hi x bet; base = sums.base; slope = sums.slope }

pub pieces_tell : (m : Metering) (lo hi : ℕ) → IsMetering m → All (TellsPiece m lo hi) (pieces lo hi (graphs_of m lo hi))
unfolding pieces
pieces_tell m lo hi bet =
    let graphs = graphs_of m lo hi in
    let later = breaks graphs lo (hi - lo) in
    All-cons (TellsPiece m lo hi) (first_piece lo graphs) _ (first_tells m lo hi bet)
    (All-map (TellsPiece m lo hi) (piece_at graphs) later (λ i d l. later_tells m lo hi _ bet))
