-- What cards, sets of ranks, hands and masks mean, over numbers. The cards are those of the usual deck, 13 ranks in four suits, with none,
-- one or two jokers; their numbers are this program's own (docs/FORMATS.md, The game log).
use Rattle.std.specs.Prelude.{◌≡◌, ℕ, ◌≤◌, ◌/◌, ◌%◌, Bool, true, cond, if◌then◌else◌, not, ◌&&◌, ◌==◌, nat_le, nat_lt, Option, Some, None, List, [], ◌∷◌, length}
use Rattle.std.specs.List.{list_all}
use Rattle.std.specs.List.Sorted.{IsStrictlyIncreasing}
use Rattle.std.specs.Int.{bit_at}

-- the number of cards of a deck: the 52 natural cards, and none, one or two jokers
abbrev pub IsDeck : ℕ → Type 0
IsDeck n = (52 ≤ n) × (n ≤ 54)

-- the test of IsDeck
abbrev pub is_deck : ℕ → Bool
is_deck n = nat_le 52 n && nat_le n 54

-- the rank of a card, from 0 for a two to 12 for an ace; a joker has rank 13
abbrev pub rank : ℕ → ℕ
rank card = card / 4

-- the suit of a natural card: clubs, diamonds, hearts, spades are 0 to 3; a joker has none, and who asks for a suit asks first whether the card is natural
abbrev pub suit : ℕ → ℕ
suit card = card % 4

-- a set of ranks, kept as bits, has the rank
abbrev pub has : ℕ → ℕ → Bool
has set rank = nat_lt rank 13 && (bit_at set rank == 1)

-- bits that are a set of ranks which isn't empty
abbrev pub is_rank_set : ℕ → Bool
is_rank_set set = nat_lt 0 set && nat_lt set 8192

-- every card is of the deck of n cards
abbrev pub in_deck : ℕ → List ℕ → Bool
in_deck n cards = list_all (λ card. nat_lt card n) cards

-- each card is above the card before
abbrev pub rises : List ℕ → Bool
rises [] = true
rises (card ∷ []) = true
rises (card ∷ next ∷ cards) = nat_lt card next && rises (next ∷ cards)

-- these cards, where they rise and are of the deck of n cards
abbrev pub rising_of : ℕ → List ℕ → Option (List ℕ)
rising_of n cards = if rises cards && in_deck n cards then Some cards else None

-- five different cards in rising order
pub record IsHand (cards : List ℕ) : Type 0 where
  pub five : length cards ≡ 5
  pub rising : IsStrictlyIncreasing cards
  pub below : in_deck 54 cards ≡ true

-- the cards at the places whose bit is set in the mask, the first place having the lowest bit
abbrev pub held : ℕ → List ℕ → List ℕ
held mask [] = []
held mask (card ∷ cards) = cond (mask % 2 == 1) (card ∷ held (mask / 2) cards) (held (mask / 2) cards)

-- the card is none of these
abbrev pub absent : ℕ → List ℕ → Bool
absent card [] = true
absent card (other ∷ more) = not (card == other) && absent card more

-- no card stands twice
abbrev pub all_differ : List ℕ → Bool
all_differ [] = true
all_differ (card ∷ cards) = absent card cards && all_differ cards

-- a card put into a rising row at its place
unfoldable pub place : ℕ → List ℕ → List ℕ
place card [] = card ∷ []
place card (other ∷ more) = if nat_lt card other then card ∷ other ∷ more else other ∷ place card more

-- cards put one by one into a rising row
unfoldable pub joined : List ℕ → List ℕ → List ℕ
joined [] row = row
joined (card ∷ cards) row = place card (joined cards row)

-- the cards in rising order
unfoldable pub in_order : List ℕ → List ℕ
in_order cards = joined cards []
