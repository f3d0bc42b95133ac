-- The graphs of all classes of a meter: they climb, and their sums fit.
use Rattle.std.proofs.Common.{◌≡◌, ℕ, ◌*◌, ◌-◌, ◌^◌, ◌<◌, ◌≤◌, Bool, true, false, List, [], ◌∷◌, length, map, refl, arith, mul-le-mul_left}
use Rattle.std.specs.Prelude.{sum_by, if◌then◌else◌}
use Rattle.std.specs.List.{All}
use Rattle.std.proofs.lemmas.List.Sums.{sum_by-cons}
use Rattle.std.proofs.lemmas.List.Elements.{All-nil, All-cons}
use Rattle.vp_sets.specs.Sets.{has, deck}
use Rattle.vp_suit.specs.Images.{different}
use Rattle.vp_suit.specs.Classes.{representatives, weight, image_indexes}
use Rattle.vp_draws.specs.Draws.{best, sum_of_best, value}
use Rattle.vp_draws.proofs.Chosen.{value_le_best}
use Rattle.vp_draws.proofs.Bounds.{sum_of_best_fits}
use Rattle.vp_draws.proofs.TurnedValues.{best_by_classes}
use Rattle.vp_meter.specs.Metered.{IsMetering, Metering, with_payment}
use Rattle.vp_meter.specs.Pieces.{Graph, base_in, slope_in, climbs, in_force}
use Rattle.vp_meter.specs.Segments.{IsInForceAt, IsStraight, rise, segment_at, worth}
use Rattle.vp_meter.specs.Spelling.{graph_of, graphs_of}
use Rattle.vp_meter.proofs.Straight.{line_of_values, table_changed}
use Rattle.vp_meter.proofs.SegmentLaws.{begins, in_force_best, later_climbs}
use Rattle.vp_meter.proofs.Room.{AreGraphs}

pub straight : (m : Metering) (cards : List ℕ) → IsMetering m → IsStraight (worth m cards)
unfolding worth rise
straight m cards bet = λ x mask. line_of_values m.coin m.place x mask m.table cards bet.bet bet.inside

pub graph_climbs : (m : Metering) (lo hi : ℕ) (cards : List ℕ) → IsMetering m → climbs (graph_of m lo hi cards).first (graph_of m lo hi cards).later ≡ true
unfolding graph_of
graph_climbs m lo hi cards bet = later_climbs (worth m cards) (hi - lo) lo (segment_at (worth m cards) lo) (straight m cards bet) (omega arith) (begins (worth m cards) lo)

pub in_force_at : (m : Metering) (lo hi x : ℕ) (cards : List ℕ) → lo ≤ x → x ≤ hi → IsInForceAt (worth m cards) x (in_force x (graph_of m lo hi cards).first (graph_of m lo hi cards).later)
unfolding graph_of
in_force_at m lo hi x cards from to = in_force_best (worth m cards) (hi - lo) lo x (segment_at (worth m cards) lo) (begins (worth m cards) lo) from (omega arith)

base_le : (m : Metering) (lo hi x : ℕ) (cards : List ℕ) → lo ≤ x → x ≤ hi → (in_force x (graph_of m lo hi cards).first (graph_of m lo hi cards).later).base ≤ best (with_payment m.table m.coin m.place 0) m.coin cards
unfolding worth
base_le m lo hi x cards from to =
    let s = in_force x (graph_of m lo hi cards).first (graph_of m lo hi cards).later in
    let h = in_force_at m lo hi x cards from to in
    let most = value_le_best (with_payment m.table m.coin m.place 0) m.coin cards s.mask h.hold in
    rw h.base most

slope_le : (m : Metering) (lo hi x : ℕ) (cards : List ℕ) → lo ≤ x → x ≤ hi → (in_force x (graph_of m lo hi cards).first (graph_of m lo hi cards).later).slope ≤ best (with_payment m.table m.coin m.place 1) m.coin cards
unfolding worth rise
slope_le m lo hi x cards from to =
    let s = in_force x (graph_of m lo hi cards).first (graph_of m lo hi cards).later in
    let h = in_force_at m lo hi x cards from to in
    let most = value_le_best (with_payment m.table m.coin m.place 1) m.coin cards s.mask h.hold in
    rw h.slope (less (value (with_payment m.table m.coin m.place 1) m.coin cards s.mask) (value (with_payment m.table m.coin m.place 0) m.coin cards s.mask) _ most)
  where
    less : (a b c : ℕ) → a ≤ c → a - b ≤ c
    less a b c l = omega arith

sums_le : (graph : List ℕ → Graph) (of : Graph → ℕ) (f : List ℕ → ℕ) (cs : List (List ℕ)) → ((c : List ℕ) → of (graph c) ≤ f c) → sum_by of (map graph cs) ≤ sum_by f cs
sums_le graph of f [] h = omega arith
sums_le graph of f (c ∷ cs) h = let ih = sums_le graph of f cs h in let one = h c in omega (arith, sum_by-cons of (graph c) (map graph cs), sum_by-cons f c cs)

pub weight_is : (m : Metering) (lo hi : ℕ) (cards : List ℕ) → (graph_of m lo hi cards).weight ≡ weight cards
unfolding graph_of
weight_is m lo hi cards = refl

fits : (m : Metering) (y lo hi : ℕ) (of : Graph → ℕ) → IsMetering m → y ≤ 1 → ((c : List ℕ) → of (graph_of m lo hi c) ≤ weight c * best (with_payment m.table m.coin m.place y) m.coin c) → sum_by of (graphs_of m lo hi) < 2 ^ 64
unfolding with_payment
fits m y lo hi of bet small h =
    let t = with_payment m.table m.coin m.place y in
    let less = sums_le (graph_of m lo hi) of (λ c. weight c * best t m.coin c) (representatives m.table.deck) h in
    let all : sum_by (λ c. weight c * best t m.coin c) (representatives m.table.deck) ≡ sum_of_best t m.coin = best_by_classes m.coin t bet.bet.rules.known_deck.0 in
    let last = sum_of_best_fits t m.coin (table_changed m.coin m.place y m.table bet.bet (omega arith)) in
    omega arith

-- ---- weights

some_different : (xs : List ℕ) → 0 < length xs → 1 ≤ length (different xs)
unfolding different has
some_different [] some = absurd (omega arith)
some_different (x ∷ []) some = omega arith
some_different (x ∷ y ∷ ys) some = by_test (has (y ∷ ys) x) (some_different (y ∷ ys) (omega arith))
  where
    by_test : (b : Bool) → 1 ≤ length (different (y ∷ ys)) → 1 ≤ length (if b then different (y ∷ ys) else x ∷ different (y ∷ ys))
    by_test true h = h
    by_test false h = omega arith

weighs : (cards : List ℕ) → 1 ≤ weight cards
unfolding weight image_indexes deck
weighs cards = some_different (image_indexes cards) (omega arith)

every : {A : Type 0} (P : Graph → Type 0) (graph : A → Graph) (xs : List A) → ((a : A) → P (graph a)) → All P (map graph xs)
every P graph [] h = All-nil P
every P graph (x ∷ xs) h = All-cons P (graph x) (map graph xs) (h x) (every P graph xs h)

pub first_from : (m : Metering) (lo hi : ℕ) (cards : List ℕ) → lo ≤ (graph_of m lo hi cards).first.from
unfolding graph_of
first_from m lo hi cards = omega arith

pub are_graphs : (m : Metering) (lo hi : ℕ) → IsMetering m → AreGraphs lo hi (graphs_of m lo hi)
are_graphs m lo hi bet = record {
  climbing = every (λ (g : Graph). climbs g.first g.later ≡ true) (graph_of m lo hi) (representatives m.table.deck) (λ c. graph_climbs m lo hi c bet);
  from = every (λ (g : Graph). lo ≤ g.first.from) (graph_of m lo hi) (representatives m.table.deck) (λ c. first_from m lo hi c);
  weights = every (λ (g : Graph). 1 ≤ g.weight) (graph_of m lo hi) (representatives m.table.deck) (λ c. rw (weight_is m lo hi c) (weighs c));
  bases = λ x from to. fits m 0 lo hi (base_in x) bet (omega arith) (λ c. rw (weight_is m lo hi c) (mul-le-mul_left (weight c) (base_le m lo hi x c from to)));
  slopes = λ x from to. fits m 1 lo hi (slope_in x) bet (omega arith) (λ c. rw (weight_is m lo hi c) (mul-le-mul_left (weight c) (slope_le m lo hi x c from to)));
}
