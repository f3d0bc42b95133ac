-- That the steps from the sums over all deals to the moments fit a word of 128 bits: no public clause rests on this file.
use Rattle.std.specs.Prelude.{ℕ, ◌-◌, ◌*◌, ◌^◌, ◌<◌, ◌≤◌}

-- a, s and q are the sums of values, mean squares and squared values; l is the common denominator, n the number of deals and k that of hands
pub record HasRoom (a s q l n k : ℕ) : Type 0 where
  pub paid : s * l < 2 ^ 107
  pub mean : k * a < 2 ^ 71
  pub first : k * (s * l) < 2 ^ 114
  pub orders : k * (k - 1) ≤ 9900
  pub pairs : k * (k - 1) * q < 2 ^ 120
  pub products : n * q < 2 ^ 128
  pub square : a * a < 2 ^ 128
  pub within : q ≤ s * l
  pub between : a * a ≤ n * q
