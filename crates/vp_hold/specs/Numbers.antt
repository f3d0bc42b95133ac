-- A number for each pay line of a table, and one for the hands with no line.
use Rattle.std.specs.Prelude.{◌≡◌, ℕ, ◌<◌, List, Option, IfSome, length, slice_index}
use Rattle.std.specs.Option.{unwrap_or}
use Rattle.vp_pay.specs.declared.table.PayTable.{PayTable}
use Rattle.vp_wild.specs.Payment.{line}

-- where the number of the line found stands: that of no line behind those of at most 32 lines
abbrev pub place_among : Option ℕ → ℕ
place_among found = unwrap_or found 32

-- the number of the line found, out of a list
abbrev pub number_of : List ℕ → Option ℕ → ℕ
number_of numbers found = slice_index numbers (place_among found)

-- the number of a hand, by its pay line
abbrev pub by_line : PayTable → List ℕ → List ℕ → ℕ
by_line table numbers hand = number_of numbers (line table hand)

-- the numbers are those that f gives for the line found
pub record AreNumbers (f : Option ℕ → ℕ) (numbers : List ℕ) : Type 0 where
  pub long : length numbers ≡ 33
  pub number : (found : Option ℕ) → IfSome found (λ place. place < 32) → number_of numbers found ≡ f found
