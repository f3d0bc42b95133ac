-- What a source gives and a sink takes, where they tell it.
use Rattle.std.specs.Prelude.{◌≡◌, ◌↔◌, ℕ, ◌<◌, ◌≤◌, List, [], length, take, Option, Result, IfOk, IfSome}
use Rattle.std.specs.Io.KnownBytes.{Appends, Consumes, IsAtEnd}

-- a read into a buffer with room answers 0 exactly where no byte is left
abbrev pub TellsEnd : {E : Type 0} → Option (List ℕ) → Result ℕ E → List ℕ → Type 0
TellsEnd left result buffer = IfOk result (λ n. 0 < length buffer → IfSome left (λ xs. (n ≡ 0) ↔ (xs ≡ [])))

-- a write of a piece that is not empty answers at least 1
abbrev pub TakesSome : {E : Type 0} → Result ℕ E → List ℕ → Type 0
TakesSome result piece = IfOk result (λ n. 0 < length piece → 1 ≤ n)

-- the source gave exactly n bytes
abbrev pub Gave : Option (List ℕ) → Option (List ℕ) → ℕ → Type 0
Gave old new n = (bytes : List ℕ) × Consumes old new bytes × (length bytes ≡ n)

-- the source gave at most n bytes
abbrev pub GaveUpTo : Option (List ℕ) → Option (List ℕ) → ℕ → Type 0
GaveUpTo old new n = (bytes : List ℕ) × Consumes old new bytes × (length bytes ≤ n)

-- the source was read to its end, and these are all the bytes that it gave
abbrev pub GaveAll : Option (List ℕ) → Option (List ℕ) → List ℕ → Type 0
GaveAll old new bytes = Consumes old new bytes × IsAtEnd new

-- the sink took the first n of the bytes, and not all of them
abbrev pub TookFront : ℕ → Option (List ℕ) → Option (List ℕ) → List ℕ → Type 0
TookFront n old new bytes = (n < length bytes) × Appends old new (take n bytes)

-- the sink took the front of the bytes, and not all of them
abbrev pub TookPart : Option (List ℕ) → Option (List ℕ) → List ℕ → Type 0
TookPart old new bytes = (n : ℕ) × (n < length bytes) × Appends old new (take n bytes)

-- what a source has left or a sink has taken, where it tells, and its count of faults
pub record Told : Type 0 where
  pub bytes : Option (List ℕ)
  pub faults : ℕ
