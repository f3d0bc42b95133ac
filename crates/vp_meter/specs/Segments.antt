-- The segments of a deal: which hold is played as one payment rises, each hold being worth a number that grows along a straight line: the
-- upper envelope of 32 straight lines, as in any textbook of geometry. Which of the best holds is played is this program's own rule.
-- In all of this `w x mask` is what the hold `mask` is worth where the payment is x.
use Rattle.std.specs.Prelude.{◌≡◌, ℕ, zero, suc, ◌+◌, ◌-◌, ◌*◌, ◌<◌, if◌then◌else◌, ◌==◌, List, [], ◌∷◌, filter, find, unwrap_or}
use Rattle.vp_draws.specs.Draws.{greatest, masks, value}
use Rattle.vp_meter.specs.declared.segment.Segment.{Segment}
use Rattle.vp_meter.specs.Metered.{Metering, at_payment}
use Rattle.vp_meter.specs.Pieces.{in_force}

-- what the holds of a deal are worth
unfoldable pub worth : Metering → List ℕ → ℕ → ℕ → ℕ
worth m hand x mask = value (at_payment m x) m.coin hand mask

-- by how much a hold is worth more for each further unit of the payment
unfoldable pub rise : (ℕ → ℕ → ℕ) → ℕ → ℕ
rise w mask = w 1 mask - w 0 mask

-- the holds that are worth most at x
abbrev pub best_at : (ℕ → ℕ → ℕ) → ℕ → List ℕ
best_at w x = filter (λ mask. w x mask == greatest (w x) masks) masks

-- the choice at x: of these holds the steepest, and of the steepest the least
unfoldable pub choice : (ℕ → ℕ → ℕ) → ℕ → ℕ
choice w x = unwrap_or (find (λ mask. rise w mask == greatest (rise w) (best_at w x)) (best_at w x)) 0

-- the segment that begins at x
abbrev pub segment_at : (ℕ → ℕ → ℕ) → ℕ → Segment
segment_at w x = record { from = x; mask = choice w x; base = w 0 (choice w x); slope = rise w (choice w x) }

-- behind x, for so many payments: the hold stays where it is still worth most, and else a segment begins
unfoldable pub later : (ℕ → ℕ → ℕ) → ℕ → ℕ → ℕ → List Segment
later w mask x zero = []
later w mask x (suc room) =
    if w (suc x) mask == greatest (w (suc x)) masks
    then later w mask (suc x) room
    else segment_at w (suc x) ∷ later w (choice w (suc x)) (suc x) room

-- all segments from lo to hi
unfoldable pub segments : (ℕ → ℕ → ℕ) → ℕ → ℕ → List Segment
segments w lo hi = segment_at w lo ∷ later w (choice w lo) lo (hi - lo)

-- what each hold is worth grows along a straight line
abbrev pub IsStraight : (ℕ → ℕ → ℕ) → Type 0
IsStraight w = (x mask : ℕ) → w x mask ≡ w 0 mask + x * rise w mask

-- the last of the segments that begin at x or before has the line of its hold, which is worth most at x
pub record IsInForceAt (w : ℕ → ℕ → ℕ) (x : ℕ) (s : Segment) : Type 0 where
  pub hold : s.mask < 32
  pub base : s.base ≡ w 0 s.mask
  pub slope : s.slope ≡ rise w s.mask
  pub best : w x s.mask ≡ greatest (w x) masks

-- so is the last of these segments that begins at x or before, or the first where none does; no segments have none in force
unfoldable pub IsInForce : (ℕ → ℕ → ℕ) → ℕ → List Segment → Type 0
IsInForce w x [] = ⊥
IsInForce w x (s ∷ ss) = IsInForceAt w x (in_force x s ss)
