-- What a game is of: a pay table and a bet, with the sums out of which the values of holds (vp_draws, Draws) are reckoned.
use Rattle.std.specs.Prelude.{ℕ, ◌*◌}
use Rattle.vp_pay.specs.declared.table.PayTable.{PayTable}
use Rattle.vp_pay.specs.Bets.{IsBet}
use Rattle.vp_wild.specs.Payment.{pay}
use Rattle.vp_count.specs.Table.{AreSumsOf, Table}

-- the table has the bet, and the sums are those of its payments to all hands of the deck
pub record IsGame (table : PayTable) (coin : ℕ) (sums : Table) : Type 0 where
  pub bet : IsBet table coin
  pub paid : AreSumsOf table.deck (pay table coin) sums

-- the table has the bet, and the sums are those of the squares of its payments to all hands of the deck
pub record AreSquares (table : PayTable) (coin : ℕ) (sums : Table) : Type 0 where
  pub bet : IsBet table coin
  pub squared : AreSumsOf table.deck (λ hand. pay table coin hand * pay table coin hand) sums
