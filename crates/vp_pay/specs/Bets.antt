-- Bets on pay tables. A bet is a number of coins that the table has a column for, as on the pay table of a machine.
use Rattle.std.specs.Prelude.{ℕ, ◌≤◌}
use Rattle.vp_pay.specs.Table.{IsTable}
use Rattle.vp_pay.specs.declared.table.PayTable.{PayTable}

-- a bet on a pay table
pub record Bet : Type 0 where
  pub table : PayTable
  pub coin : ℕ

-- a bet of at least one coin, that a valid pay table has a column for
pub record IsBet (table : PayTable) (coin : ℕ) : Type 0 where
  pub rules : IsTable table
  pub some : 1 ≤ coin
  pub within : coin ≤ table.coins
