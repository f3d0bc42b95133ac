-- A bet that fits a pay table.
use Rattle.std.proofs.Common.{ℕ, ◌≤◌, arith}
use Rattle.std.specs.Prelude.{IsTrue, nat_le}
use Rattle.std.proofs.lemmas.Bool.Decides.{nat_tests}

-- the bet is at most the coins of the table
pub bet_fits : (coin coins : ℕ) → IsTrue (nat_le coin coins) → coin ≤ coins
bet_fits coin coins fits = grind (arith, nat_tests)
