-- What a shape tells of cards: wild cards, the ranks and the suits of the others.
use Rattle.std.specs.Prelude.{◌≡◌, ℕ, ◌<◌, Bool, nat_lt, if◌then◌else◌, List, length, slice_index, Option}
use Rattle.std.specs.Int.{bit_at}
use Rattle.vp_rank.specs.declared.shape.Shape.{Shape}
use Rattle.vp_rank.specs.Counts.{ranked, suited}
use Rattle.vp_rank.specs.Wilds.{wilds, naturals}

-- 1 where a test holds, and 0 where it doesn't
abbrev pub bit_of : Bool → ℕ
bit_of test = if test then 1 else 0

-- a mask of the suits of the cards: bit s is set exactly where some card has suit s
pub record IsSuitMask (mask : ℕ) (cards : List ℕ) : Type 0 where
  pub below : mask < 16
  pub bits : (s : ℕ) → s < 4 → bit_at mask s ≡ bit_of (nat_lt 0 (suited s cards))

-- how many cards of the rank a shape tells of
abbrev pub count_of : Shape → ℕ → ℕ
count_of shape rank = slice_index shape.counts rank

-- the shape of the cards of a table with this wild rank
pub record IsShape (wild : Option ℕ) (cards : List ℕ) (shape : Shape) : Type 0 where
  pub wilds : shape.wilds ≡ wilds wild cards
  pub ranks : length shape.counts ≡ 13
  pub counts : (r : ℕ) → r < 13 → count_of shape r ≡ ranked r (naturals wild cards)
  pub suits : IsSuitMask shape.suits (naturals wild cards)
