-- What a counting source of best holds tells: the bet that it is of, and how often it was asked. It is this program's own.
use Rattle.std.specs.Prelude.{ℕ}
use Rattle.vp_pay.specs.declared.table.PayTable.{PayTable}

-- a pay table, a bet, and how many best holds were asked for
pub record Asking : Type 0 where
  pub table : PayTable
  pub bet : ℕ
  pub count : ℕ
