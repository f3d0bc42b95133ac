-- What is made of the rules of a matrix, starting from the order that they stand in (docs/FORMATS.md, `vpoker compile`).
use Rattle.std.specs.Prelude.{ℕ, List}
use Rattle.std.specs.List.{range_with_len}
use Rattle.vp_compile.specs.Matrices.{Grid}
use Rattle.vp_compile.specs.Orders.{settled}

-- the order in which the rules stand by their numbers
abbrev pub own_order : Grid → List ℕ
own_order grid = range_with_len 0 grid.rules

-- the settled order of the rules, from their own on
abbrev pub last_order : Grid → List ℕ
last_order grid = settled grid.rows (own_order grid)
