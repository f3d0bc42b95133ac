-- The lines of all holds as 32 bases and 32 slopes, and how the segments are reckoned from them: no public clause rests on this file.
use Rattle.std.specs.Prelude.{◌≡◌, ℕ, ◌+◌, ◌*◌, ◌<◌, ◌≤◌, slice_index}
use Rattle.vp_meter.specs.declared.hold_lines.HoldLines.{HoldLines}
use Rattle.vp_meter.specs.declared.segment.Segment.{Segment}
use Rattle.vp_meter.specs.Segments.{IsStraight, rise}

-- what each hold is worth grows along the straight line that has its base and its slope
pub record AreLines (w : ℕ → ℕ → ℕ) (lines : HoldLines) : Type 0 where
  pub bases : (mask : ℕ) → mask < 32 → slice_index lines.bases mask ≡ w 0 mask
  pub slopes : (mask : ℕ) → mask < 32 → slice_index lines.slopes mask ≡ rise w mask
  pub straight : IsStraight w

-- what a hold is worth at x
abbrev pub at : HoldLines → ℕ → ℕ → ℕ
at lines x mask = slice_index lines.bases mask + x * slice_index lines.slopes mask

-- what a segment is worth at x
abbrev pub height : Segment → ℕ → ℕ
height s x = s.base + x * s.slope

-- what it is worth where it begins
abbrev pub own_height : Segment → ℕ
own_height s = height s s.from

-- the segment of a hold that begins at x
abbrev pub line_at : HoldLines → ℕ → ℕ → Segment
line_at lines x mask = record { from = x; mask = mask; base = slice_index lines.bases mask; slope = slice_index lines.slopes mask }

-- the segment has the line of its hold, and no hold is worth more where it begins
pub record IsTop (lines : HoldLines) (s : Segment) : Type 0 where
  pub hold : s.mask < 32
  pub base : slice_index lines.bases s.mask ≡ s.base
  pub slope : slice_index lines.slopes s.mask ≡ s.slope
  pub greatest : (mask : ℕ) → mask < 32 → at lines s.from mask ≤ s.base + s.from * s.slope

-- from where the segment begins up to `end` no hold is worth more, and behind it one is, unless it is hi
pub record StaysTo (lines : HoldLines) (s : Segment) (hi end : ℕ) : Type 0 where
  pub start : s.from ≤ end
  pub to : end ≤ hi
  pub stays : (x mask : ℕ) → s.from ≤ x → x ≤ end → mask < 32 → at lines x mask ≤ s.base + x * s.slope
  pub ends : end < hi → (mask : ℕ) × (mask < 32) × (s.base + (end + 1) * s.slope < at lines (end + 1) mask)
