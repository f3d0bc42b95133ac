-- The parts of a meter, one after the other.
use Rattle.std.proofs.Common.{◌≡◌, ℕ, ◌+◌, ◌*◌, ◌-◌, ◌^◌, ◌<◌, ◌≤◌, List, [], ◌∷◌, ◌++◌, length, get_or, drop, map, codes, ap, sym, ◌∙◌, arith, append-nil, drop-cons, suc}
use Rattle.std.specs.Prelude.{flat_map, sum_by}
use Rattle.std.proofs.lemmas.Grind.{flat_map-append}
use Rattle.std.proofs.lemmas.List.{drop_all}
use Rattle.vp_text.specs.Written.{line_of, written}
use Rattle.vp_suit.specs.Classes.{representatives}
use Rattle.vp_meter.specs.declared.piece.Piece.{Piece}
use Rattle.vp_meter.specs.declared.segment.Segment.{Segment}
use Rattle.vp_meter.specs.Metered.{IsMetering, Metering}
use Rattle.vp_meter.specs.Pieces.{first_piece, base_in, slope_in, breaks, piece_at, piece_words, pieces}
use Rattle.vp_meter.specs.Tallies.{AreTallied, told, turns_of}
use Rattle.vp_meter.specs.Spelling.{class_text, graphs_of, body_text, segment_words}
use Rattle.vp_meter.proofs.Told.{told_is}
use Rattle.vp_meter.proofs.MeterGraphs.{are_graphs}
use Rattle.vp_meter.proofs.MeterSoFar.{class_lines}
use Rattle.vp_meter.proofs.Words.{nowhere}

-- what stands behind the classes
unfoldable pub behind : Metering → ℕ → ℕ → List ℕ
behind m lo hi = written (map piece_words (pieces lo hi (graphs_of m lo hi)) ++ (codes "end" ∷ []) ∷ [])

pub classes_first : (m : Metering) (lo hi : ℕ) → written (body_text m lo hi) ≡ class_lines m lo hi (representatives m.table.deck) ++ behind m lo hi
unfolding body_text behind
classes_first m lo hi = flat_map-append line_of (flat_map (class_text m lo hi) (representatives m.table.deck)) (map piece_words (pieces lo hi (graphs_of m lo hi)) ++ (codes "end" ∷ []) ∷ [])

abbrev pub last_line : List ℕ
last_line = line_of (codes "end" ∷ [])

pub behind_is : (m : Metering) (lo hi : ℕ) (first : Piece) (counts : List ℕ) → IsMetering m → lo ≤ hi → first ≡ first_piece lo (graphs_of m lo hi) → AreTallied lo (flat_map turns_of (graphs_of m lo hi)) counts → length counts ≡ 4 * (hi - lo + 1)
    → behind m lo hi ≡ line_of (piece_words first) ++ (written (map piece_words (told lo counts 0 first.base first.slope (hi - lo))) ++ last_line)
unfolding behind pieces
behind_is m lo hi first counts bet order is tallied long =
    let graphs = graphs_of m lo hi in
    let zero_plus : lo + 0 ≡ lo = omega arith in
    let base : first.base ≡ sum_by (base_in (lo + 0)) graphs = ap (λ (p : Piece). p.base) is ∙ ap (λ (x : ℕ). sum_by (base_in x) graphs) (sym zero_plus) in
    let slope : first.slope ≡ sum_by (slope_in (lo + 0)) graphs = ap (λ (p : Piece). p.slope) is ∙ ap (λ (x : ℕ). sum_by (slope_in x) graphs) (sym zero_plus) in
    let later : told lo counts 0 first.base first.slope (hi - lo) ≡ map (piece_at graphs) (breaks graphs lo (hi - lo)) =
    told_is graphs counts lo 0 first.base first.slope (hi - lo) (are_graphs m lo hi bet).climbing tallied (omega (arith, long)) base slope ∙ ap (λ (x : ℕ). map (piece_at graphs) (breaks graphs x (hi - lo))) zero_plus in
    ap (λ (p : Piece). line_of (piece_words p) ++ written (map piece_words (map (piece_at graphs) (breaks graphs lo (hi - lo))) ++ (codes "end" ∷ []) ∷ [])) (sym is)
    ∙ ap (λ (t : List ℕ). line_of (piece_words first) ++ t)
    (flat_map-append line_of (map piece_words (map (piece_at graphs) (breaks graphs lo (hi - lo)))) ((codes "end" ∷ []) ∷ [])
    ∙ (ap (λ (ps : List Piece). written (map piece_words ps) ++ written ((codes "end" ∷ []) ∷ [])) (sym later)
    ∙ ap (λ (t : List ℕ). written (map piece_words (told lo counts 0 first.base first.slope (hi - lo))) ++ t) (append-nil last_line)))

pub slope_small : (m : Metering) (lo hi : ℕ) (first : Piece) → IsMetering m → lo ≤ hi → first ≡ first_piece lo (graphs_of m lo hi) → first.slope < 2 ^ 64
slope_small m lo hi first bet order is = let s = (are_graphs m lo hi bet).slopes lo (omega arith) order in let e : first.slope ≡ sum_by (slope_in lo) (graphs_of m lo hi) = ap (λ (p : Piece). p.slope) is in rw e s

more_is : (i : ℕ) → suc i ≡ i + 1
more_is i = omega arith

-- the lines of the segments from place i on
pub segments_next : (segments : List Segment) (i : ℕ) → i < length segments
    → written (map segment_words (drop i segments)) ≡ line_of (segment_words (get_or segments i nowhere)) ++ written (map segment_words (drop (i + 1) segments))
segments_next segments i inside =
    ap (λ (ss : List Segment). written (map segment_words ss)) (drop-cons segments i nowhere inside)
    ∙ ap (λ (k : ℕ). line_of (segment_words (get_or segments i nowhere)) ++ written (map segment_words (drop k segments))) (more_is i)

pub whole_text : (m : Metering) (lo hi : ℕ) (first : Piece) (counts : List ℕ) → IsMetering m → lo ≤ hi → first ≡ first_piece lo (graphs_of m lo hi) → AreTallied lo (flat_map turns_of (graphs_of m lo hi)) counts → length counts ≡ 4 * (hi - lo + 1)
    → written (body_text m lo hi) ≡ class_lines m lo hi (representatives m.table.deck) ++ (line_of (piece_words first) ++ (written (map piece_words (told lo counts 0 first.base first.slope (hi - lo))) ++ last_line))
whole_text m lo hi first counts bet order is tallied long = classes_first m lo hi ∙ ap (λ (t : List ℕ). class_lines m lo hi (representatives m.table.deck) ++ t) (behind_is m lo hi first counts bet order is tallied long)

pub segments_end : (segments : List Segment) (i : ℕ) → length segments ≤ i → written (map segment_words (drop i segments)) ≡ []
segments_end segments i past = ap (λ (ss : List Segment). written (map segment_words ss)) (drop_all i segments past)
