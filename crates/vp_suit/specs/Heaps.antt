-- A suit's cards as one number, by which suits are compared.
use Rattle.std.specs.Prelude.{ℕ, ◌+◌, ◌*◌, ◌^◌, Bool, if◌then◌else◌, ◌&&◌, ◌||◌, ◌==◌, nat_lt, nat_le, List, [], ◌∷◌}
use Rattle.vp_card.specs.Cards.{rank, suit}

-- what a card adds to the heap of a suit: 16 to the power of its rank, if it has that suit
unfoldable pub card_heap : ℕ → ℕ → ℕ
card_heap of_suit card = if nat_lt card 52 && (suit card == of_suit) then 2 ^ (4 * rank card) else 0

-- the heap of a suit: the ranks of its cards as a number
unfoldable pub heap : ℕ → List ℕ → ℕ
heap of_suit [] = 0
heap of_suit (card ∷ cards) = card_heap of_suit card + heap of_suit cards

-- the heaps of clubs, diamonds, hearts and spades
unfoldable pub suit_heaps : List ℕ → List ℕ
suit_heaps cards = heap 0 cards ∷ heap 1 cards ∷ heap 2 cards ∷ heap 3 cards ∷ []

-- no suit has a greater heap than the one before it
unfoldable pub falls : List ℕ → Bool
falls cards = nat_le (heap 1 cards) (heap 0 cards) && nat_le (heap 2 cards) (heap 1 cards) && nat_le (heap 3 cards) (heap 2 cards)

-- some heap is greater than the one before it by more than this
unfoldable pub jumps : ℕ → List ℕ → Bool
jumps most cards = nat_lt (heap 0 cards + most) (heap 1 cards) || nat_lt (heap 1 cards + most) (heap 2 cards) || nat_lt (heap 2 cards + most) (heap 3 cards)
