-- The means of a number that each hand has, over the draws of a hold; each draw is as likely as the others, as in any textbook of probability.
use Rattle.std.specs.Prelude.{◌≡◌, ℕ, ◌*◌, ◌<◌, ◌≤◌, List, length, slice_index}
use Rattle.std.specs.List.{All}
use Rattle.vp_card.specs.Cards.{IsDeck}
use Rattle.vp_sets.specs.Draws.{discarded, scale}
use Rattle.vp_count.specs.Sums.{spread}
use Rattle.vp_count.specs.Table.{Table}

-- the sum over the draws of a hold, times the scale that puts it over the common denominator of the deck
abbrev pub mean : Table → List ℕ → ℕ → ℕ
mean sums hand mask = spread sums.size sums.numbers hand mask * scale sums.size (length (discarded mask hand))

-- by what the total of each of the 32 holds is multiplied, to stand over the common denominator of a deck of n cards
abbrev pub AreScales : ℕ → List ℕ → Type 0
AreScales n scales = (hand : List ℕ) (mask : ℕ) → length hand ≡ 5 → mask < 32 → slice_index scales mask ≡ scale n (length (discarded mask hand))

-- the scales are those of the sums' deck, and no number is greater than a table of sums may have it
pub record AreMeans (scales : List ℕ) (sums : Table) : Type 0 where
  pub deck : IsDeck sums.size
  pub scaled : AreScales sums.size scales
  pub bounded : All (λ x. x ≤ 250000000000) sums.numbers
