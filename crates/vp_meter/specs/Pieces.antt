-- The pieces of a meter: the sums over all deals, from one payment at which some class turns to another hold to the next. A sum of straight
-- lines is one; what the text says of a piece is this program's own (docs/FORMATS.md).
use Rattle.std.specs.Prelude.{ℕ, suc, ◌-◌, ◌*◌, Bool, true, ◌&&◌, if◌then◌else◌, ◌==◌, nat_lt, nat_le, List, [], ◌∷◌, map, filter, sum_by, count_by, codes}
use Rattle.std.specs.List.{list_any, range_with_len}
use Rattle.std.specs.Fmt.{decimal}
use Rattle.vp_text.specs.Lines.{Word}
use Rattle.vp_meter.specs.declared.segment.Segment.{Segment}
use Rattle.vp_meter.specs.declared.piece.Piece.{Piece}

-- the segments of a class of so many deals: the first, and those behind it
pub record Graph : Type 0 where
  pub weight : ℕ
  pub first : Segment
  pub later : List Segment

-- the segment in force at x: the last that begins at x or before, or the one given where none does
unfoldable pub in_force : ℕ → Segment → List Segment → Segment
in_force x s [] = s
in_force x s (t ∷ ts) = in_force x (if nat_le t.from x then t else s) ts

-- behind s each segment begins later than the one before, with a base that is not higher and a slope that is higher
unfoldable pub climbs : Segment → List Segment → Bool
climbs s [] = true
climbs s (t ∷ ts) = nat_lt s.from t.from && nat_le t.base s.base && nat_lt s.slope t.slope && climbs t ts

unfoldable pub climbing : List Segment → Bool
climbing [] = true
climbing (s ∷ ss) = climbs s ss

-- weight times base, and weight times slope, in force at x
abbrev pub base_in : ℕ → Graph → ℕ
base_in x g = g.weight * (in_force x g.first g.later).base

abbrev pub slope_in : ℕ → Graph → ℕ
slope_in x g = g.weight * (in_force x g.first g.later).slope

-- a segment behind the first begins at x
unfoldable pub begins_at : ℕ → Graph → Bool
begins_at x g = list_any (λ (s : Segment). s.from == x) g.later

-- how many classes have a segment that begins at x
abbrev pub classes_at : ℕ → List Graph → ℕ
classes_at x graphs = count_by (begins_at x) graphs

-- how many deals these classes have
abbrev pub deals_at : ℕ → List Graph → ℕ
deals_at x graphs = sum_by (λ g. if begins_at x g then g.weight else 0) graphs

-- the piece that begins at x
abbrev pub piece_at : List Graph → ℕ → Piece
piece_at graphs x = record {
  from = x;
  classes = classes_at x graphs;
  deals = deals_at x graphs;
  base = sum_by (base_in x) graphs;
  slope = sum_by (slope_in x) graphs;
}

-- the payments behind x, of so many, at which some segment begins
abbrev pub breaks : List Graph → ℕ → ℕ → List ℕ
breaks graphs x room = filter (λ y. nat_lt 0 (classes_at y graphs)) (range_with_len (suc x) room)

-- the sums of all classes at lo
abbrev pub first_piece : ℕ → List Graph → Piece
first_piece lo graphs = record { from = lo; classes = 0; deals = 0; base = sum_by (base_in lo) graphs; slope = sum_by (slope_in lo) graphs }

-- all pieces: one at lo, and one wherever a segment begins later
unfoldable pub pieces : ℕ → ℕ → List Graph → List Piece
pieces lo hi graphs = first_piece lo graphs ∷ map (piece_at graphs) (breaks graphs lo (hi - lo))

-- the piece in force at x: the last that begins at x or before, or the one given where none does
unfoldable pub piece_in_force : ℕ → Piece → List Piece → Piece
piece_in_force x p [] = p
piece_in_force x p (q ∷ qs) = piece_in_force x (if nat_le q.from x then q else p) qs

-- the line of a piece
unfoldable pub piece_words : Piece → List Word
piece_words p = codes "piece" ∷ decimal p.from ∷ decimal p.classes ∷ decimal p.deals ∷ decimal p.base ∷ decimal p.slope ∷ []
