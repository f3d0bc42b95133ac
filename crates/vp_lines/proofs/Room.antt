-- How much room words take.
use Rattle.std.proofs.Common.{ℕ, ◌<◌, ◌≤◌, ◌^◌, length, arith}
use Rattle.std.specs.Fmt.{decimal}
use Rattle.std.proofs.lemmas.Fmt.{length-decimal-le_wide}

-- a number of 32 bits has at most ten digits
pub length_decimal32 : (n : ℕ) → n < 2 ^ 32 → length (decimal n) ≤ 10
length_decimal32 n lt = length-decimal-le_wide 10 n (omega arith) (omega arith) (omega arith)
