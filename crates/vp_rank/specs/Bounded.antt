-- Tests over the numbers below a bound. Bounded quantifiers, as in any textbook of logic.
use Rattle.std.specs.Prelude.{ℕ, Bool}
use Rattle.std.specs.List.{list_any, list_all, range_with_len}

-- the test holds of some number below n
unfoldable pub some_below : ℕ → (ℕ → Bool) → Bool
some_below n test = list_any test (range_with_len 0 n)

-- the test holds of every number below n
unfoldable pub all_below : ℕ → (ℕ → Bool) → Bool
all_below n test = list_all test (range_with_len 0 n)
