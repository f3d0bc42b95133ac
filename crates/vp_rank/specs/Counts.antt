-- How many cards have a rank or a suit, and the ten windows of five ranks in a row. A straight may begin or end with the ace, as dealers
-- and pay tables state it.
use Rattle.std.specs.Prelude.{ℕ, zero, suc, ◌+◌, Bool, nat_le, nat_lt, ◌==◌, ◌&&◌, ◌||◌, List, length, count_by}
use Rattle.std.specs.Bool.{beq}
use Rattle.vp_card.specs.Cards.{rank, suit}
use Rattle.vp_rank.specs.Bounded.{some_below, all_below}

-- how many of the cards have the rank
abbrev pub ranked : ℕ → List ℕ → ℕ
ranked r cards = count_by (λ card. rank card == r) cards

-- how many of the cards have the suit
abbrev pub suited : ℕ → List ℕ → ℕ
suited s cards = count_by (λ card. suit card == s) cards

-- the cards have at most one suit; five faces have one
unfoldable pub one_suit : List ℕ → Bool
one_suit cards = some_below 4 (λ s. suited s cards == length cards)

-- the rank is one of five in a row, the first of which is this one
abbrev pub in_five_from : ℕ → ℕ → Bool
in_five_from first r = nat_le first r && nat_lt r (first + 5)

-- the rank is in window k: window 0 is A2345, window 1 is 23456, and so on to window 9, which is TJQKA
unfoldable pub in_window : ℕ → ℕ → Bool
in_window zero r = (r == 12) || nat_lt r 4
in_window (suc k) r = in_five_from k r

-- the ranks of the cards are those of window k: there is a card of each rank in it, and of no other
unfoldable pub fill_window : ℕ → List ℕ → Bool
fill_window k cards = all_below 13 (λ r. beq (nat_lt 0 (ranked r cards)) (in_window k r))

-- no rank repeats, and window k has all ranks: count r is the number of cards of rank r
unfoldable pub fits_window : ℕ → (ℕ → ℕ) → Bool
fits_window k count = all_below 13 (λ r. (count r == 0) || ((count r == 1) && in_window k r))
