-- Where the payment of a hand is kept.
use Rattle.std.specs.Prelude.{◌≡◌, ℕ, suc, ◌+◌, ◌*◌, ◌^◌, ◌<◌, if◌then◌else◌, List, [], ◌∷◌, Option, slice_index}
use Rattle.std.specs.Int.Bits.{bit_or}
use Rattle.vp_card.specs.Cards.{rank, suit}
use Rattle.vp_rank.specs.Counts.{one_suit}
use Rattle.vp_rank.specs.Wilds.{is_wild, naturals}
use Rattle.vp_sets.specs.Index.{set_index}

-- the ranks of rising cards, each raised by the number of cards before it, so that they rise; j cards stand before these
unfoldable pub raised : ℕ → List ℕ → List ℕ
raised j [] = []
raised j (card ∷ cards) = (rank card + j) ∷ raised (suc j) cards

-- how many places there are: two for each row of five ranks, the jokers' among them
abbrev pub places : ℕ
places = 17136

-- the place of a hand: two for each row of ranks, of which the second is for hands whose natural cards have one suit
unfoldable pub place_of : Option ℕ → List ℕ → ℕ
place_of wild hand = 2 * set_index (raised 0 hand) + (if one_suit (naturals wild hand) then 1 else 0)

-- the bit of a card's suit; a wild card has none
unfoldable pub suit_bit : Option ℕ → ℕ → ℕ
suit_bit wild card = if is_wild wild card then 0 else 2 ^ suit card

-- the bits of all cards, by their numbers
pub record AreSuitBits (wild : Option ℕ) (bits : List ℕ) : Type 0 where
  pub told : (card : ℕ) → card < 54 → slice_index bits card ≡ suit_bit wild card

-- the bits of some cards together
unfoldable pub suits_by : List ℕ → List ℕ → ℕ
suits_by bits [] = 0
suits_by bits (card ∷ cards) = bit_or (suits_by bits cards) (slice_index bits card)
