-- The wild cards of a table with a wild rank, or with none, and the other cards of a hand. That jokers and the cards of one rank may be
-- wild is as dealers and pay tables state it.
use Rattle.std.specs.Prelude.{ℕ, Bool, false, not, nat_le, ◌==◌, ◌||◌, List, Option, None, Some, filter, count_by}
use Rattle.vp_card.specs.Cards.{rank}

-- a card is of the wild rank, where there is one
abbrev pub is_of_wild_rank : Option ℕ → ℕ → Bool
is_of_wild_rank None card = false
is_of_wild_rank (Some wild) card = rank card == wild

-- a card is wild: a joker, or a card of the wild rank
unfoldable pub is_wild : Option ℕ → ℕ → Bool
is_wild wild card = nat_le 52 card || is_of_wild_rank wild card

-- how many of the cards are wild
abbrev pub wilds : Option ℕ → List ℕ → ℕ
wilds wild cards = count_by (is_wild wild) cards

-- the cards that are not wild, in their order
abbrev pub naturals : Option ℕ → List ℕ → List ℕ
naturals wild cards = filter (λ card. not (is_wild wild card)) cards
