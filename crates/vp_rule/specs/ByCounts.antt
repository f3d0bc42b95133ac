-- Tests of a rule, told by counts.
use Rattle.std.specs.Prelude.{◌≡◌, ℕ, ◌<◌, length, Bool, not, nat_le, nat_lt, ◌==◌, ◌&&◌, List, count_by, Option, slice_index_or}
use Rattle.std.specs.List.{range_with_len}
use Rattle.std.specs.Int.{bit_at}
use Rattle.vp_card.specs.Cards.{IsHand, has, held, rank, suit}
use Rattle.vp_sets.specs.Draws.{discarded}
use Rattle.vp_pay.specs.declared.table.PayTable.{PayTable}
use Rattle.vp_rank.specs.Bounded.{some_below, all_below}
use Rattle.vp_rank.specs.Counts.{fits_window}
use Rattle.vp_rank.specs.Shapes.{IsShape, count_of}
use Rattle.vp_rank.specs.Wilds.{is_wild}
use Rattle.vp_wild.specs.ByCounts.{at_most_one_suit}
use Rattle.vp_wild.specs.Payment.{line}
use Rattle.vp_rule.specs.Holds.{between, is_place}
use Rattle.vp_rule.specs.declared.held.Dealt.{Dealt}
use Rattle.vp_rule.specs.declared.held.Held.{Held}
use Rattle.vp_rule.specs.declared.rule.Test.{Test}
use Rattle.vp_rule.specs.declared.rule.Test.TheVariants.{Hold, Wilds, Suited, Mixed, Royal, Windows, Count, Equal, Ranks, Made, Left, LeftSuit}

-- how many of the cards that aren't wild have a rank of the set
abbrev pub naturals_of_set : Option ℕ → ℕ → List ℕ → ℕ
naturals_of_set wild set cards = count_by (λ c. not (is_wild wild c) && has set (rank c)) cards

-- how many of the cards that aren't wild have a suit of the mask
abbrev pub naturals_of_suits : Option ℕ → ℕ → List ℕ → ℕ
naturals_of_suits wild suits cards = count_by (λ c. not (is_wild wild c) && (bit_at suits (suit c) == 1)) cards

-- the test holds of the hold, by what is kept of it
abbrev pub test_by_counts : Dealt → Held → Test → Bool
test_by_counts d h (Hold k) = h.kept == k
test_by_counts d h (Wilds k) = h.shape.wilds == k
test_by_counts d h Suited = at_most_one_suit h.shape.suits
test_by_counts d h Mixed = not (at_most_one_suit h.shape.suits)
test_by_counts d h Royal = at_most_one_suit h.shape.suits && fits_window 9 (count_of h.shape)
test_by_counts d h (Windows least most) = between least most (count_by (λ k. fits_window k (count_of h.shape)) (range_with_len 0 10))
test_by_counts d h (Count set least most) = between least most (naturals_of_set d.wild set (held h.mask d.hand))
test_by_counts d h (Equal k) = some_below 13 (λ r. count_of h.shape r == k) && all_below 13 (λ r. nat_le (count_of h.shape r) k)
test_by_counts d h (Ranks k) = count_by (λ r. nat_lt 0 (count_of h.shape r)) (range_with_len 0 13) == k
test_by_counts d h (Made p) = (h.kept == 5) && is_place p d.place
test_by_counts d h (Left set k) = naturals_of_set d.wild set (discarded h.mask d.hand) == k
test_by_counts d h (LeftSuit k) = naturals_of_suits d.wild h.shape.suits (discarded h.mask d.hand) == k

-- the hand with its pay line, and the wild rank of the table
pub record IsDealt (table : PayTable) (hand : List ℕ) (d : Dealt) : Type 0 where
  pub hand_is : d.hand ≡ hand
  pub wild_is : d.wild ≡ table.wild
  pub line_is : d.place ≡ line table hand

-- what is kept of the hold `mask` of a hand
pub record IsHeld (wild : Option ℕ) (hand : List ℕ) (mask : ℕ) (h : Held) : Type 0 where
  pub mask_is : h.mask ≡ mask
  pub kept : h.kept ≡ length (held mask hand)
  pub shape : IsShape wild (held mask hand) h.shape

-- what is kept of each of the first n of the 32 holds of a hand, in the order of their masks
pub record AreHeld (wild : Option ℕ) (hand : List ℕ) (n : ℕ) (all : List Held) : Type 0 where
  pub long : length all ≡ 32
  pub each : (mask : ℕ) (other : Held) → mask < n → IsHeld wild hand mask (slice_index_or all mask other)

-- a hand and its holds
pub record AreHolds (table : PayTable) (hand : List ℕ) (d : Dealt) (all : List Held) : Type 0 where
  pub cards : IsHand hand
  pub dealt : IsDealt table hand d
  pub held : AreHeld table.wild hand 32 all
