-- What a true certificate tells of every deal, in the words of the game alone: its holds and their mean payments (vp_draws, Draws).
use Rattle.std.specs.Prelude.{◌≡◌, ℕ, ◌<◌, ◌≤◌, List}
use Rattle.std.specs.List.{Contains}
use Rattle.vp_draws.specs.Draws.{IsMean, return_denominator, sum_of_best, total, value}
use Rattle.vp_suit.specs.Classes.{IsDeal, representatives}
use Rattle.vp_suit.specs.Turns.{carried, turn}
use Rattle.vp_check.specs.Certificates.{Certificate}
use Rattle.vp_check.specs.Truth.{AllWalked, hands}
use Rattle.vp_check.specs.declared.class_line.ClassLine.{ClassLine}

-- the class lines are all classes, each once; the sum is that of the best values of all deals, over the denominator of the deck and the bet
pub record SumsAllDeals (c : Certificate) : Type 0 where
  pub classes : hands c ≡ representatives c.table.deck
  pub sum : c.sum ≡ sum_of_best c.table c.coin
  pub denominator : c.denominator ≡ return_denominator c.table.deck c.coin

-- a printed hold of a deal: a turn of the suits makes the deal a class line's, and carries the hold to that line's mask
pub record IsPrintedHold (c : Certificate) (cards : List ℕ) (mask : ℕ) (line : ClassLine) : Type 0 where
  pub listed : Contains c.classes line
  pub turning : ℕ
  pub within : turning < 24
  pub deal : line.hand ≡ turn turning cards
  pub hold : carried turning cards mask ≡ line.mask

-- a hold of a deal that the certificate prints
pub record PrintedHold (c : Certificate) (cards : List ℕ) : Type 0 where
  pub mask : ℕ
  pub within : mask < 32
  pub line : ClassLine
  pub printed : IsPrintedHold c cards mask line

-- a hold is worth what the line says, which over the common denominator is the mean of the payments over all draws; and no other of
-- the 32 holds is worth more
pub record IsBest (c : Certificate) (cards : List ℕ) (mask said : ℕ) : Type 0 where
  pub said_value : value c.table c.coin cards mask ≡ said
  pub mean : IsMean c.table.deck cards mask (total c.table c.coin cards mask) said
  pub greatest : (other : ℕ) → other < 32 → value c.table c.coin cards other ≤ value c.table c.coin cards mask

-- the certificate tells every deal from the deck: each has a printed hold, each printed hold is best, and the return is that of all deals
pub record TellsEveryDeal (c : Certificate) : Type 0 where
  pub every : (cards : List ℕ) → IsDeal c.table.deck cards → PrintedHold c cards
  pub holds : (cards : List ℕ) (mask : ℕ) (line : ClassLine) → IsDeal c.table.deck cards → mask < 32 → IsPrintedHold c cards mask line → IsBest c cards mask line.value
  pub sums : SumsAllDeals c

-- each hold that is printed on this line is worth what the line says, and no other of the 32 holds is worth more
abbrev pub PrintsBest : Certificate → ClassLine → Type 0
PrintsBest c line = (cards : List ℕ) (mask : ℕ) → IsDeal c.table.deck cards → mask < 32 → IsPrintedHold c cards mask line → IsBest c cards mask line.value

-- the certificate tells the deals of walked lines: each deal from the deck has a printed hold, and each hold that is printed on one
-- of `count` class lines from the place `from` on is best
pub record TellsWalkedDeals (from count : ℕ) (c : Certificate) : Type 0 where
  pub every : (cards : List ℕ) → IsDeal c.table.deck cards → PrintedHold c cards
  pub holds : AllWalked from count (PrintsBest c) c.classes
