-- Hands that no pay line tells apart.
use Rattle.std.specs.Prelude.{◌≡◌, ℕ, ◌<◌, false, List, Option}
use Rattle.vp_rank.specs.Counts.{ranked, one_suit}
use Rattle.vp_card.specs.Cards.{rank, suit}
use Rattle.vp_rank.specs.Wilds.{is_wild, wilds, naturals}

-- two hands have as many wild cards, as many other cards of each rank, and both other cards of one suit or neither
pub record Alike (wild : Option ℕ) (one two : List ℕ) : Type 0 where
  pub wilds : wilds wild one ≡ wilds wild two
  pub ranks : (r : ℕ) → ranked r (naturals wild one) ≡ ranked r (naturals wild two)
  pub suit : one_suit (naturals wild one) ≡ one_suit (naturals wild two)

-- f exchanges the four suits of cards that aren't wild, by `to`, and back by `from`; it keeps ranks and wild cards
pub record ExchangesSuits (wild : Option ℕ) (f to from : ℕ → ℕ) : Type 0 where
  pub wild_cards : (card : ℕ) → is_wild wild (f card) ≡ is_wild wild card
  pub ranks : (card : ℕ) → rank (f card) ≡ rank card
  pub suits : (card : ℕ) → is_wild wild card ≡ false → suit (f card) ≡ to (suit card)
  pub within : (s : ℕ) → s < 4 → to s < 4
  pub back_within : (s : ℕ) → s < 4 → from s < 4
  pub back : (s : ℕ) → s < 4 → from (to s) ≡ s
  pub forth : (s : ℕ) → s < 4 → to (from s) ≡ s
