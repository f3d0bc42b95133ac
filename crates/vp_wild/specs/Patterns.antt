-- When five faces meet a pattern, and when a hand matches one. The patterns are the usual hands of five cards, as dealers and pay tables
-- state them, in the words of docs/FORMATS.md (Patterns).
use Rattle.std.specs.Prelude.{ℕ, Bool, true, false, not, nat_lt, nat_le, ◌==◌, ◌&&◌, List, Option, None, Some}
use Rattle.std.specs.List.{list_any}
use Rattle.vp_card.specs.Cards.{rank, has}
use Rattle.vp_rank.specs.Bounded.{some_below}
use Rattle.vp_rank.specs.Counts.{ranked, one_suit, fill_window}
use Rattle.vp_rank.specs.Wilds.{wilds, naturals}
use Rattle.vp_pay.specs.declared.pattern.Pattern.{Pattern}
use Rattle.vp_pay.specs.declared.pattern.Pattern.TheVariants.{Royal, StraightFlush, FiveKind, Wilds, Quads, FullHouse, Flush, Straight, Trips, TwoPair, Pair}
use Rattle.vp_pay.specs.declared.pattern.Qualifier.{Qualifier}
use Rattle.vp_pay.specs.declared.pattern.Qualifier.TheVariants.{Either, Natural, Wild}
use Rattle.vp_wild.specs.Faces.{some_faces}

-- the ranks are a window
unfoldable pub straight : List ℕ → Bool
straight faces = some_below 10 (λ k. fill_window k faces)

-- five faces meet the pattern. Faces play no part in a pattern of wild cards, and none meet it
unfoldable pub meets : Pattern → List ℕ → Bool
-- all have one suit and the ranks are T J Q K A
meets Royal faces = one_suit faces && fill_window 9 faces
-- all have one suit and the ranks are a window
meets StraightFlush faces = one_suit faces && straight faces
-- all five have one rank, which is in the set
meets (FiveKind set) faces = some_below 13 (λ r. has set r && (ranked r faces == 5))
-- at least four have one rank, which is in the set
meets (Quads set None) faces = some_below 13 (λ r. has set r && nat_le 4 (ranked r faces))
-- exactly four have one rank, which is in the set, and the fifth's rank is in the kicker's set
meets (Quads set (Some kicker)) faces =
    some_below 13 (λ r. has set r && (ranked r faces == 4)
    && some_below 13 (λ s. has kicker s && (ranked s faces == 1)))
-- one rank three times and another rank twice
meets FullHouse faces =
    some_below 13 (λ r. (ranked r faces == 3) && some_below 13 (λ s. ranked s faces == 2))
-- all have one suit
meets Flush faces = one_suit faces
-- the ranks are a window
meets Straight faces = straight faces
-- some rank at least three times
meets Trips faces = some_below 13 (λ r. nat_le 3 (ranked r faces))
-- two different ranks at least twice each
meets TwoPair faces =
    some_below 13 (λ r. nat_le 2 (ranked r faces)
    && some_below 13 (λ s. not (r == s) && nat_le 2 (ranked s faces)))
-- some rank in the set at least twice
meets (Pair set) faces = some_below 13 (λ r. has set r && nat_le 2 (ranked r faces))
meets (Wilds number kicker) faces = false

-- a hand matches the pattern: it has exactly that many wild cards, and the other card's rank is in the
-- kicker's set where there is one; or, for every other pattern, some faces of the hand meet it
unfoldable pub matches : Pattern → Option ℕ → List ℕ → Bool
matches (Wilds number None) wild hand = wilds wild hand == number
matches (Wilds number (Some kicker)) wild hand =
    (wilds wild hand == number) && list_any (λ card. has kicker (rank card)) (naturals wild hand)
matches pattern wild hand = some_faces wild hand (meets pattern)

-- the qualifier holds of a hand with so many wild cards: none, at least one, or any number
unfoldable pub qualifies : Qualifier → ℕ → Bool
qualifies Natural number = number == 0
qualifies Wild number = nat_lt 0 number
qualifies Either number = true
