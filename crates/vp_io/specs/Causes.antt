-- When a call may answer a fault: the count of faults of the object that was handed in rose in this call. How faults are counted is this
-- program's own rule.
use Rattle.std.specs.Prelude.{◌≡◌, ℕ, ◌+◌, ◌-◌, ◌^◌, ◌≤◌, min, Result, OnOk, OnErr}

-- the last value of a count, where it stands still
abbrev pub last_count : ℕ
last_count = 2 ^ 64 - 1

-- one more, up to the last value
abbrev pub one_more : ℕ → ℕ
one_more n = min (n + 1) last_count

-- the count rose, or stands at its last value; no count is above it
abbrev pub Rose : ℕ → ℕ → Type 0
Rose before now = (one_more before ≤ now) × (now ≤ last_count)

-- the count never falls, rose where the call failed, and is as before where it did not fail
pub record HasCause {T E : Type 0} (before now : ℕ) (result : Result T E) : Type 0 where
  pub later : before ≤ now
  pub failed : OnErr result (Rose before now)
  pub kept : OnOk result (now ≡ before)
