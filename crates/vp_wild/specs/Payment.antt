-- Which pay line a hand has, and what it is paid. A hand is paid by one line, the first that it hits, as pay tables are read from the top
-- (docs/FORMATS.md, The pay table section).
use Rattle.std.specs.Prelude.{ℕ, ◌-◌, Bool, ◌&&◌, List, Option, position, find, slice_index}
use Rattle.std.specs.Option.{option_map_or}
use Rattle.vp_pay.specs.declared.table.PayLine.{PayLine}
use Rattle.vp_pay.specs.declared.table.PayTable.{PayTable}
use Rattle.vp_rank.specs.Wilds.{wilds}
use Rattle.vp_wild.specs.Patterns.{matches, qualifies}

-- a hand hits a pay line: the qualifier holds and the hand matches the pattern
unfoldable pub hits : Option ℕ → PayLine → List ℕ → Bool
hits wild pay_line hand = qualifies pay_line.qualifier (wilds wild hand) && matches pay_line.pattern wild hand

-- the position of the first of the lines, in the order written, that a hand hits
unfoldable pub first_line : Option ℕ → List PayLine → List ℕ → Option ℕ
first_line wild lines hand = position (λ l. hits wild l hand) lines

-- the first line of the table that a hand hits
abbrev pub line : PayTable → List ℕ → Option ℕ
line table hand = first_line table.wild table.lines.items hand

-- the payment for a bet of 1 to 5 coins: the number in that column, counted from 1, of the first line that the hand hits, and 0 for none
unfoldable pub pay : PayTable → ℕ → List ℕ → ℕ
pay table coin hand =
    option_map_or (λ l. slice_index l.pays (coin - 1))
    (find (λ l. hits table.wild l hand) table.lines.items) 0
