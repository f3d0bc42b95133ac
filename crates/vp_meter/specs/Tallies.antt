-- The four words of each payment: what changes there from segment to segment, summed over the classes. This is how the pieces are reckoned:
-- no public clause rests on it.
use Rattle.std.specs.Prelude.{◌≡◌, ℕ, zero, suc, ◌+◌, ◌-◌, ◌*◌, ◌<◌, ◌^◌, if◌then◌else◌, ◌==◌, nat_lt, List, [], ◌∷◌, length, slice_index, sum_by}
use Rattle.vp_meter.specs.declared.segment.Segment.{Segment}
use Rattle.vp_meter.specs.declared.piece.Piece.{Piece}
use Rattle.vp_meter.specs.declared.tallies.Turn.{Turn}
use Rattle.vp_meter.specs.Pieces.{Graph}

-- what changes where a class of so many deals goes from one segment to the next
abbrev pub change : ℕ → Segment → Segment → Turn
change w s t = record { from = t.from; weight = w; lost = w * (s.base - t.base); gained = w * (t.slope - s.slope) }

-- what changes where each segment behind s begins
unfoldable pub turns_from : ℕ → Segment → List Segment → List Turn
turns_from w s [] = []
turns_from w s (t ∷ ts) = change w s t ∷ turns_from w t ts

abbrev pub turns_of : Graph → List Turn
turns_of g = turns_from g.weight g.first g.later

-- what changes from segment to segment of a class
unfoldable pub turns_in : ℕ → List Segment → List Turn
turns_in w [] = []
turns_in w (s ∷ ss) = turns_from w s ss

-- the sum of some number of the turns at x
unfoldable pub at_turn : (Turn → ℕ) → ℕ → List Turn → ℕ
at_turn f x turns = sum_by (λ (t : Turn). if t.from == x then f t else 0) turns

-- how many turns there are at x
abbrev pub begun : ℕ → List Turn → ℕ
begun x turns = at_turn (λ t. 1) x turns

-- the four words of each payment from lo on
pub record AreTallied (lo : ℕ) (turns : List Turn) (counts : List ℕ) : Type 0 where
  pub classes : (i : ℕ) → 4 * i + 3 < length counts → slice_index counts (4 * i) ≡ begun (lo + i) turns
  pub deals : (i : ℕ) → 4 * i + 3 < length counts → slice_index counts (4 * i + 1) ≡ at_turn (λ t. t.weight) (lo + i) turns
  pub lost : (i : ℕ) → 4 * i + 3 < length counts → slice_index counts (4 * i + 2) ≡ at_turn (λ t. t.lost) (lo + i) turns
  pub gained : (i : ℕ) → 4 * i + 3 < length counts → slice_index counts (4 * i + 3) ≡ at_turn (λ t. t.gained) (lo + i) turns

-- to the four words of each payment the turns there were added
pub record Added (lo : ℕ) (turns : List Turn) (old new : List ℕ) : Type 0 where
  pub long : length new ≡ length old
  pub classes : (i : ℕ) → 4 * i + 3 < length old → slice_index new (4 * i) ≡ slice_index old (4 * i) + begun (lo + i) turns
  pub deals : (i : ℕ) → 4 * i + 3 < length old → slice_index new (4 * i + 1) ≡ slice_index old (4 * i + 1) + at_turn (λ t. t.weight) (lo + i) turns
  pub lost : (i : ℕ) → 4 * i + 3 < length old → slice_index new (4 * i + 2) ≡ slice_index old (4 * i + 2) + at_turn (λ t. t.lost) (lo + i) turns
  pub gained : (i : ℕ) → 4 * i + 3 < length old → slice_index new (4 * i + 3) ≡ slice_index old (4 * i + 3) + at_turn (λ t. t.gained) (lo + i) turns

-- with the turns added, each word is below 2 to the power of 64
pub record HasRoom (lo : ℕ) (turns : List Turn) (counts : List ℕ) : Type 0 where
  pub classes : (i : ℕ) → 4 * i + 3 < length counts → slice_index counts (4 * i) + begun (lo + i) turns < 2 ^ 64
  pub deals : (i : ℕ) → 4 * i + 3 < length counts → slice_index counts (4 * i + 1) + at_turn (λ t. t.weight) (lo + i) turns < 2 ^ 64
  pub lost : (i : ℕ) → 4 * i + 3 < length counts → slice_index counts (4 * i + 2) + at_turn (λ t. t.lost) (lo + i) turns < 2 ^ 64
  pub gained : (i : ℕ) → 4 * i + 3 < length counts → slice_index counts (4 * i + 3) + at_turn (λ t. t.gained) (lo + i) turns < 2 ^ 64

-- the piece that the words behind place i tell, where these are the sums before
abbrev pub next_piece : ℕ → List ℕ → ℕ → ℕ → ℕ → Piece
next_piece lo counts i base slope = record {
  from = lo + (i + 1);
  classes = slice_index counts (4 * (i + 1));
  deals = slice_index counts (4 * (i + 1) + 1);
  base = base - slice_index counts (4 * (i + 1) + 2);
  slope = slope + slice_index counts (4 * (i + 1) + 3);
}

-- the pieces that the words behind place i tell, where these are the sums before
unfoldable pub told : ℕ → List ℕ → ℕ → ℕ → ℕ → ℕ → List Piece
told lo counts i base slope zero = []
told lo counts i base slope (suc room) =
    if nat_lt 0 (slice_index counts (4 * suc i))
    then record {
      from = lo + suc i;
      classes = slice_index counts (4 * suc i);
      deals = slice_index counts (4 * suc i + 1);
      base = base - slice_index counts (4 * suc i + 2);
      slope = slope + slice_index counts (4 * suc i + 3);
    } ∷ told lo counts (suc i) (base - slice_index counts (4 * suc i + 2)) (slope + slice_index counts (4 * suc i + 3)) room
    else told lo counts (suc i) (base - slice_index counts (4 * suc i + 2)) (slope + slice_index counts (4 * suc i + 3)) room
