-- The names of the pay lines of a table: which name stands at a place, and at which place a name stands.
use Rattle.std.specs.Prelude.{ℕ, [], map, slice_index_or, Option, bytes_eq, position}
use Rattle.vp_text.specs.Lines.{Word}
use Rattle.vp_pay.specs.declared.table.PayTable.{PayTable}

-- the name of the pay line at a place
abbrev pub name_at : PayTable → ℕ → Word
name_at table place = slice_index_or (map (λ line. line.name) table.lines.items) place []

-- the place of the pay line with this name, if the table has one
abbrev pub place_of : PayTable → Word → Option ℕ
place_of table name = position (λ line. bytes_eq line.name name) table.lines.items
