-- Where the cells of a matrix stand, what the settled order is, exchange by exchange, and which classes are excepted.
use Rattle.std.specs.Prelude.{◌≡◌, ◌↔◌, ℕ, ◌+◌, ◌*◌, ◌<◌, ◌≤◌, List, length, slice_index}
use Rattle.vp_compile.specs.Rows.{Row, cell, order_loss, row_at}
use Rattle.vp_compile.specs.Matrices.{IsMatrix, IsOrder, rows_of}
use Rattle.vp_compile.specs.Orders.{exchange, settled, IsSettled}
use Rattle.vp_compile.specs.Excepted.{AreFewest, excepted_places}

-- the cell of a class and a rule stands at `class * rules + rule`
abbrev pub CellsStandByClass : Type 0
CellsStandByClass =
    (rules class rule : ℕ) (weights best none cells : List ℕ) → IsMatrix rules weights best none cells → class < length weights → rule < rules
    → cell (row_at (rows_of rules weights best none cells) class) rule ≡ slice_index cells (class * rules + rule)

-- the neighbours at a place and behind it are the first whose exchange lowers the loss
pub record AreFirstLower (rows : List Row) (order : List ℕ) (place : ℕ) : Type 0 where
  pub within : place + 1 < length order
  pub lower : order_loss rows (exchange order place) < order_loss rows order
  pub first : (before : ℕ) → before < place → order_loss rows order ≤ order_loss rows (exchange order before)

-- an order in which no exchange of neighbours lowers the loss is its own settled order
abbrev pub SettledStay : Type 0
SettledStay = (rows : List Row) (order : List ℕ) → IsSettled rows order → settled rows order ≡ order

-- else its settled order is that of the order with the first such neighbours exchanged
abbrev pub FirstAreExchanged : Type 0
FirstAreExchanged =
    (rows : List Row) (order : List ℕ) (place : ℕ) → AreFirstLower rows order place → settled rows order ≡ settled rows (exchange order place)

-- exchanges end with an order of all rules that no exchange of neighbours lowers
abbrev pub OrdersSettle : Type 0
OrdersSettle =
    (rows : List Row) (rules : ℕ) (order : List ℕ) → IsOrder rules order
    → IsOrder rules (settled rows order) × IsSettled rows (settled rows order)

-- the excepted places are the fewest classes without which an order loses at most a limit, and no other places are
abbrev pub FewestAreExcepted : Type 0
FewestAreExcepted =
    (rows : List Row) (order : List ℕ) (limit : ℕ) (places : List ℕ)
    → AreFewest rows order limit places ↔ (places ≡ excepted_places rows order limit)
