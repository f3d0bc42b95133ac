-- A text that is kept in memory, up to a limit.
use Rattle.std.specs.Prelude.{◌≡◌, ◌≤◌, ℕ, Bool, true, List, ◌∷◌, length, Some, if◌then◌else◌}
use Rattle.vp_io.specs.Causes.{last_count}
use Rattle.vp_io.specs.Streams.{Told}

-- how many bytes are kept at most, those that were taken, and whether a write failed
pub record Kept : Type 0 where
  pub limit : ℕ
  pub text : List ℕ
  pub is_cut : Bool

-- no more than the limit is kept, there is memory for so much, and a write failed only at the limit
pub record IsKept (text : List ℕ) (limit capacity : ℕ) (is_cut : Bool) : Type 0 where
  pub within : length text ≤ limit
  pub memory : limit ≤ capacity
  pub cut : is_cut ≡ true → length text ≡ limit

-- it tells its limit before the bytes that it took, and counts a first failed write as the last that is counted
abbrev pub told_by : Kept → Told
told_by kept = record { bytes = Some (kept.limit ∷ kept.text); faults = if kept.is_cut then last_count else 0 }
