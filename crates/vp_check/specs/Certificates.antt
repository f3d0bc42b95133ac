-- What a certificate says, and which certificates are in the grammar: this program's own (docs/FORMATS.md, The certificate).
use Rattle.std.specs.Prelude.{ℕ, ◌≤◌, ◌<◌, ◌^◌, List, length}
use Rattle.std.specs.List.{All}
use Rattle.vp_pay.specs.Bets.{IsBet}
use Rattle.vp_pay.specs.declared.table.PayTable.{PayTable}
use Rattle.vp_suit.specs.Classes.{IsDeal, representatives}
use Rattle.vp_check.specs.declared.class_line.ClassLine.{ClassLine}

-- a certificate: a pay table, a bet, its class lines, and the return as a sum over a denominator
pub record Certificate : Type 0 where
  pub table : PayTable
  pub coin : ℕ
  pub classes : List ClassLine
  pub sum : ℕ
  pub denominator : ℕ

-- a class line in the grammar: five rising cards of a deck of n, a weight from 1 to 24, a mask from 0 to 31, and a number
pub record IsClassLine (n : ℕ) (line : ClassLine) : Type 0 where
  pub deal : IsDeal n line.hand
  pub some_weight : 1 ≤ line.weight
  pub most_weight : line.weight ≤ 24
  pub mask : line.mask < 32
  pub value : line.value < 2 ^ 64

-- a certificate in the grammar: a valid pay table and a bet that it has, at most as many class lines as the deck has classes, and numbers
pub record IsCertificate (c : Certificate) : Type 0 where
  pub bet : IsBet c.table c.coin
  pub classes : All (IsClassLine c.table.deck) c.classes
  pub most_classes : length c.classes ≤ length (representatives c.table.deck)
  pub sum : c.sum < 2 ^ 64
  pub denominator : c.denominator < 2 ^ 64
