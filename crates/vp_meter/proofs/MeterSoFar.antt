-- The classes so far: what was put, what was added up and what was tallied.
use Rattle.std.proofs.Common.{◌≡◌, ℕ, true, ◌+◌, ◌*◌, ◌-◌, ◌^◌, ◌<◌, ◌≤◌, List, [], ◌∷◌, ◌++◌, length, map, get_or, refl, ap, sym, subst, ◌∙◌, arith, append_assoc, append-nil}
use Rattle.std.specs.Prelude.{Result, Ok, Err, IsErr, flat_map, sum_by}
use Rattle.std.specs.List.{All}
use Rattle.std.proofs.lemmas.List.{map-append}
use Rattle.std.proofs.lemmas.List.Sums.{sum_by-append, sum_by-cons, sum_by_push}
use Rattle.std.proofs.lemmas.List.Elements.{All-head, All-tail}
use Rattle.std.proofs.lemmas.Grind.{flat_map-append}
use Rattle.vp_card.specs.Cards.{in_deck}
use Rattle.vp_io.specs.declared.fault.WriteFault.{WriteFault}
use Rattle.vp_io.specs.Puts.{Puts}
use Rattle.vp_io.specs.Streams.{Told}
use Rattle.vp_text.specs.Written.{line_of, written}
use Rattle.vp_suit.specs.Classes.{IsDeal, is_representative, representatives, weight}
use Rattle.vp_suit.proofs.ClassLaws.{representatives_only}
use Rattle.vp_suit.proofs.TurnedDraws.{dealt_is}
use Rattle.vp_meter.specs.declared.piece.Piece.{Piece}
use Rattle.vp_meter.specs.declared.segment.Segment.{Segment}
use Rattle.vp_meter.specs.declared.tallies.Turn.{Turn}
use Rattle.vp_meter.specs.Metered.{IsMetering, Metering}
use Rattle.vp_meter.specs.Pieces.{first_piece, Graph, base_in, slope_in, in_force}
use Rattle.vp_meter.specs.Tallies.{Added, AreTallied, at_turn, HasRoom, turns_in, turns_of}
use Rattle.vp_meter.specs.Segments.{choice, segment_at, segments, worth}
use Rattle.vp_meter.specs.Spelling.{class_text, class_words, graph_of, graphs_of, segment_words}
use Rattle.vp_io.proofs.PutSoFar.{PutSoFar, put_start, put_more, put_halted, put_all}
use Rattle.vp_meter.proofs.Room.{room_for, all_tallied, AreGraphs}
use Rattle.vp_meter.proofs.MeterGraphs.{are_graphs}
use Rattle.vp_meter.proofs.SegmentLaws.{none_yet}
use Rattle.vp_meter.proofs.Words.{added_then, nowhere}

abbrev pub class_lines : Metering → ℕ → ℕ → List (List ℕ) → List ℕ
class_lines m lo hi classes = written (flat_map (class_text m lo hi) classes)

pub record MeterSoFar (m : Metering) (lo hi : ℕ) (left : List (List ℕ)) (first : Piece) (old_counts counts : List ℕ) (old new : Told) : Type 0 where
  pub seen : List (List ℕ)
  pub all : representatives m.table.deck ≡ seen ++ left
  pub sums : first ≡ first_piece lo (map (graph_of m lo hi) seen)
  pub added : Added lo (flat_map turns_of (map (graph_of m lo hi) seen)) old_counts counts
  pub put : PutSoFar old new (class_lines m lo hi (representatives m.table.deck)) (class_lines m lo hi left)

nothing_added : (lo : ℕ) (counts : List ℕ) → Added lo [] counts counts
unfolding at_turn
nothing_added lo counts = record { long = refl; classes = λ i l. omega arith; deals = λ i l. omega arith; lost = λ i l. omega arith; gained = λ i l. omega arith }

pub meter_start : (m : Metering) (lo hi : ℕ) (left : List (List ℕ)) (counts : List ℕ) (old : Told) → left ≡ representatives m.table.deck
    → MeterSoFar m lo hi left (record { from = lo; classes = 0; deals = 0; base = 0; slope = 0 }) counts counts old old
meter_start m lo hi left counts old is = record {
  seen = [];
  all = sym is;
  sums = refl;
  added = nothing_added lo counts;
  put = rw is (put_start old (class_lines m lo hi (representatives m.table.deck)));
}

member_behind : (P : List ℕ → Type 0) (front : List (List ℕ)) (x : List ℕ) (back : List (List ℕ)) → All P (front ++ x ∷ back) → P x
member_behind P [] x back all = All-head P x back all
member_behind P (y ∷ front) x back all = member_behind P front x back (All-tail P y (front ++ x ∷ back) all)

-- the next class is one of a hand of the table's deck
pub meter_hand : (m : Metering) (lo hi : ℕ) (cards : List ℕ) (left rest : List (List ℕ)) (first : Piece) (old_counts counts : List ℕ) (old new : Told)
    → left ≡ cards ∷ rest → MeterSoFar m lo hi left first old_counts counts old new → in_deck m.table.deck cards ≡ true
meter_hand m lo hi cards left rest first old_counts counts old new is so =
    let IsClass = λ (x : List ℕ). IsDeal m.table.deck x × (is_representative x ≡ true) in
    let behind : All IsClass (so.seen ++ cards ∷ rest) = subst (λ (all : List (List ℕ)). All IsClass all) (so.all ∙ ap (λ (l : List (List ℕ)). so.seen ++ l) is) (representatives_only m.table.deck) in
    (dealt_is m.table.deck cards (member_behind IsClass so.seen cards rest behind).0).of_deck

-- what the segments of a class are
turns_are : (m : Metering) (lo hi : ℕ) (cards : List ℕ) → turns_in (weight cards) (segments (worth m cards) lo hi) ≡ turns_of (graph_of m lo hi cards)
unfolding turns_in segments graph_of
turns_are m lo hi cards = refl

graphs_split : (m : Metering) (lo hi : ℕ) (seen : List (List ℕ)) (cards : List ℕ) (rest : List (List ℕ)) → map (graph_of m lo hi) (seen ++ cards ∷ rest) ≡ map (graph_of m lo hi) seen ++ graph_of m lo hi cards ∷ map (graph_of m lo hi) rest
graphs_split m lo hi seen cards rest = map-append (graph_of m lo hi) seen (cards ∷ rest)

-- the graphs of all classes, where this one is the next
graphs_here : (m : Metering) (lo hi : ℕ) (cards : List ℕ) (left rest : List (List ℕ)) (first : Piece) (old_counts counts : List ℕ) (old new : Told)
    → IsMetering m → left ≡ cards ∷ rest → (so : MeterSoFar m lo hi left first old_counts counts old new)
    → AreGraphs lo hi (map (graph_of m lo hi) so.seen ++ graph_of m lo hi cards ∷ map (graph_of m lo hi) rest)
graphs_here m lo hi cards left rest first old_counts counts old new bet is so =
    subst (λ (gs : List Graph). AreGraphs lo hi gs) (ap (map (graph_of m lo hi)) (so.all ∙ ap (λ (l : List (List ℕ)). so.seen ++ l) is) ∙ graphs_split m lo hi so.seen cards rest) (are_graphs m lo hi bet)

pub meter_room : (m : Metering) (lo hi w : ℕ) (cards : List ℕ) (left rest : List (List ℕ)) (found : List Segment) (first : Piece) (old_counts counts : List ℕ) (old new : Told)
    → IsMetering m → lo ≤ hi → length old_counts ≡ 4 * (hi - lo + 1) → ((i : ℕ) → get_or old_counts i 0 ≡ 0) → w ≡ weight cards → found ≡ segments (worth m cards) lo hi
    → left ≡ cards ∷ rest → MeterSoFar m lo hi left first old_counts counts old new → HasRoom lo (turns_in w found) counts
meter_room m lo hi w cards left rest found first old_counts counts old new bet order long none is_w is_found is so =
    let room = room_for lo hi (map (graph_of m lo hi) so.seen) (graph_of m lo hi cards) (map (graph_of m lo hi) rest) old_counts counts order long none (graphs_here m lo hi cards left rest first old_counts counts old new bet is so) so.added in
    rw (is_w, is_found, turns_are m lo hi cards) room

-- the first segment is in force at lo
first_base : (m : Metering) (lo hi : ℕ) (cards : List ℕ) (found : List Segment) → found ≡ segments (worth m cards) lo hi → in_force lo (graph_of m lo hi cards).first (graph_of m lo hi cards).later ≡ get_or found 0 nowhere
unfolding graph_of segments
first_base m lo hi cards found is = none_yet (worth m cards) (hi - lo) lo lo (choice (worth m cards) lo) (segment_at (worth m cards) lo) (omega arith) ∙ sym (ap (λ (ss : List Segment). get_or ss 0 nowhere) is)

pub meter_some : (m : Metering) (lo hi : ℕ) (cards : List ℕ) (found : List Segment) → found ≡ segments (worth m cards) lo hi → 0 < length found
unfolding segments
meter_some m lo hi cards found is = rw is (omega arith)

part_fits : (of : Graph → ℕ) (seen : List Graph) (g : Graph) (rest : List Graph) → sum_by of (seen ++ g ∷ rest) < 2 ^ 64 → sum_by of seen + of g < 2 ^ 64
part_fits of seen g rest whole = omega (arith, sum_by-append of seen (g ∷ rest), sum_by-cons of g rest)

weight_of : (m : Metering) (lo hi : ℕ) (cards : List ℕ) → (graph_of m lo hi cards).weight ≡ weight cards
unfolding graph_of
weight_of m lo hi cards = refl

base_is : (m : Metering) (lo hi w : ℕ) (cards : List ℕ) (found : List Segment) → w ≡ weight cards → found ≡ segments (worth m cards) lo hi → base_in lo (graph_of m lo hi cards) ≡ w * (get_or found 0 nowhere).base
base_is m lo hi w cards found is_w is = rw (weight_of m lo hi cards, is_w, first_base m lo hi cards found is) refl

slope_is : (m : Metering) (lo hi w : ℕ) (cards : List ℕ) (found : List Segment) → w ≡ weight cards → found ≡ segments (worth m cards) lo hi → slope_in lo (graph_of m lo hi cards) ≡ w * (get_or found 0 nowhere).slope
slope_is m lo hi w cards found is_w is = rw (weight_of m lo hi cards, is_w, first_base m lo hi cards found is) refl

pub record Fits (first : Piece) (w : ℕ) (s : Segment) : Type 0 where
  pub base : first.base + w * s.base < 2 ^ 64
  pub slope : first.slope + w * s.slope < 2 ^ 64

pub meter_fits : (m : Metering) (lo hi w : ℕ) (cards : List ℕ) (left rest : List (List ℕ)) (found : List Segment) (first : Piece) (old_counts counts : List ℕ) (old new : Told)
    → IsMetering m → lo ≤ hi → w ≡ weight cards → found ≡ segments (worth m cards) lo hi
    → left ≡ cards ∷ rest → MeterSoFar m lo hi left first old_counts counts old new → Fits first w (get_or found 0 nowhere)
meter_fits m lo hi w cards left rest found first old_counts counts old new bet order is_w is_found is so =
    let are = graphs_here m lo hi cards left rest first old_counts counts old new bet is so in
    let bases = part_fits (base_in lo) (map (graph_of m lo hi) so.seen) (graph_of m lo hi cards) (map (graph_of m lo hi) rest) (are.bases lo (omega arith) order) in
    let slopes = part_fits (slope_in lo) (map (graph_of m lo hi) so.seen) (graph_of m lo hi cards) (map (graph_of m lo hi) rest) (are.slopes lo (omega arith) order) in
    let base : first.base ≡ sum_by (base_in lo) (map (graph_of m lo hi) so.seen) = ap (λ (p : Piece). p.base) so.sums in
    let slope : first.slope ≡ sum_by (slope_in lo) (map (graph_of m lo hi) so.seen) = ap (λ (p : Piece). p.slope) so.sums in
    record {
      base = rw (base, ← base_is m lo hi w cards found is_w is_found) bases;
      slope = rw (slope, ← slope_is m lo hi w cards found is_w is_found) slopes;
    }

-- the text of a class and of those behind it
next_text : (m : Metering) (lo hi w : ℕ) (cards : List ℕ) (left rest : List (List ℕ)) (found : List Segment) → w ≡ weight cards → found ≡ segments (worth m cards) lo hi → left ≡ cards ∷ rest
    → class_lines m lo hi left ≡ (line_of (class_words cards w) ++ written (map segment_words found)) ++ class_lines m lo hi rest
unfolding class_text
next_text m lo hi w cards left rest found is_w is_found is =
    ap (class_lines m lo hi) is ∙ (flat_map-append line_of (class_text m lo hi cards) (flat_map (class_text m lo hi) rest) ∙ ap (λ (t : List ℕ). t ++ class_lines m lo hi rest) (rw (is_w, is_found) refl))

pub meter_next : {one : Result (Unit {0}) WriteFault} {done : Unit {0}} (m : Metering) (lo hi w : ℕ) (cards : List ℕ) (left rest : List (List ℕ)) (found : List Segment) (first next : Piece) (old_counts counts new_counts : List ℕ) (old mid new : Told)
    → w ≡ weight cards → found ≡ segments (worth m cards) lo hi → left ≡ cards ∷ rest
    → one ≡ Ok done → Puts mid new one (line_of (class_words cards w) ++ written (map segment_words found))
    → Added lo (turns_in w found) counts new_counts
    → next ≡ record first { base = first.base + w * (get_or found 0 nowhere).base; slope = first.slope + w * (get_or found 0 nowhere).slope }
    → MeterSoFar m lo hi left first old_counts counts old mid → MeterSoFar m lo hi rest next old_counts new_counts old new
meter_next m lo hi w cards left rest found first next old_counts counts new_counts old mid new is_w is_found is ok put more sum so =
    let gs = map (graph_of m lo hi) so.seen in
    let g = graph_of m lo hi cards in
    let graphs : map (graph_of m lo hi) (so.seen ++ cards ∷ []) ≡ gs ++ g ∷ [] = map-append (graph_of m lo hi) so.seen (cards ∷ []) in
    let turns : turns_in w found ≡ turns_of g = rw (is_w, is_found) (turns_are m lo hi cards) in
    let all_turns : flat_map turns_of (gs ++ g ∷ []) ≡ flat_map turns_of gs ++ turns_in w found = flat_map-append turns_of gs (g ∷ []) ∙ ap (λ (ts : List Turn). flat_map turns_of gs ++ ts) (append-nil (turns_of g) ∙ sym turns) in
    record {
      seen = so.seen ++ cards ∷ [];
      all = so.all ∙ (ap (λ (l : List (List ℕ)). so.seen ++ l) is ∙ sym (append_assoc so.seen (cards ∷ []) rest));
      sums = sum ∙ (summed first w (get_or found 0 nowhere) gs g so.sums (base_is m lo hi w cards found is_w is_found) (slope_is m lo hi w cards found is_w is_found) ∙ ap (λ (all : List Graph). first_piece lo all) (sym graphs));
      added = subst (λ (all : List Graph). Added lo (flat_map turns_of all) old_counts new_counts) (sym graphs)
          (subst (λ (ts : List Turn). Added lo ts old_counts new_counts) (sym all_turns) (added_then lo (flat_map turns_of gs) (turns_in w found) old_counts counts new_counts so.added more));
      put = put_more (next_text m lo hi w cards left rest found is_w is_found is) ok put so.put;
    }
  where
    summed : (first : Piece) (w : ℕ) (s : Segment) (gs : List Graph) (g : Graph) → first ≡ first_piece lo gs → base_in lo g ≡ w * s.base → slope_in lo g ≡ w * s.slope
        → record first { base = first.base + w * s.base; slope = first.slope + w * s.slope } ≡ first_piece lo (gs ++ g ∷ [])
    summed first w s gs g is b l = rw (is, ← b, ← l, sum_by_push (base_in lo) gs g, sum_by_push (slope_in lo) gs g) refl

pub meter_halted : {V : Type 0} {one : Result (Unit {0}) WriteFault} {e : WriteFault} {result : Result V WriteFault} (m : Metering) (lo hi w : ℕ) (cards : List ℕ) (left rest : List (List ℕ)) (found : List Segment) (first : Piece) (old_counts counts : List ℕ) (old mid new : Told)
    → w ≡ weight cards → found ≡ segments (worth m cards) lo hi → left ≡ cards ∷ rest
    → one ≡ Err e → IsErr result → Puts mid new one (line_of (class_words cards w) ++ written (map segment_words found))
    → MeterSoFar m lo hi left first old_counts counts old mid → Puts old new result (class_lines m lo hi (representatives m.table.deck))
meter_halted m lo hi w cards left rest found first old_counts counts old mid new is_w is_found is err stop put so =
    put_halted (class_lines m lo hi rest) (next_text m lo hi w cards left rest found is_w is_found is) err stop put so.put

-- all classes were put
pub record MeterAll (m : Metering) (lo hi : ℕ) (first : Piece) (counts : List ℕ) (old new : Told) : Type 0 where
  pub sums : first ≡ first_piece lo (graphs_of m lo hi)
  pub tallied : AreTallied lo (flat_map turns_of (graphs_of m lo hi)) counts
  pub put : (done : Piece) → Puts {E = WriteFault} old new (Ok done) (class_lines m lo hi (representatives m.table.deck))

pub meter_end : (m : Metering) (lo hi : ℕ) (left : List (List ℕ)) (first : Piece) (old_counts counts : List ℕ) (old new : Told)
    → ((i : ℕ) → get_or old_counts i 0 ≡ 0) → left ≡ [] → MeterSoFar m lo hi left first old_counts counts old new → MeterAll m lo hi first counts old new
meter_end m lo hi left first old_counts counts old new none is so =
    let all : so.seen ≡ representatives m.table.deck = sym (so.all ∙ (ap (λ (l : List (List ℕ)). so.seen ++ l) is ∙ append-nil so.seen)) in
    record {
      sums = so.sums ∙ ap (λ (cs : List (List ℕ)). first_piece lo (map (graph_of m lo hi) cs)) all;
      tallied = subst (λ (cs : List (List ℕ)). AreTallied lo (flat_map turns_of (map (graph_of m lo hi) cs)) counts) all (all_tallied lo (flat_map turns_of (map (graph_of m lo hi) so.seen)) old_counts counts none so.added);
      put = λ done. put_all (ap (class_lines m lo hi) is) so.put;
    }
