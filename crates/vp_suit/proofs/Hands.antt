-- Hands as rising lists, and the hand that stands for the turned cards.
use Rattle.std.proofs.Common.{◌≡◌, ℕ, ◌<◌, ◌≤◌, eqb, List, map, ap, ◌∙◌, arith}
use Rattle.std.specs.List.{IsDistinct}
use Rattle.std.specs.List.Sorted.{IsPermutation}
use Rattle.vp_card.specs.Cards.{IsHand}
use Rattle.vp_card.specs.Rising.{times, IsRising}
use Rattle.vp_card.proofs.Rising.{times-rising, joined_only, rising_from, times-IsPermutation, distinct_from}
use Rattle.vp_suit.specs.Turns.{turned, turn}
use Rattle.vp_suit.proofs.Group.{inverse}
use Rattle.vp_suit.proofs.Cards.{times-mapped}

-- five different cards in rising order
pub hand_rises : (cards : List ℕ) → IsHand cards → IsRising cards
hand_rises cards hand = rising_from cards hand.rising

-- turned cards of a rising list are different
pub times_turned : (t : ℕ) (cards : List ℕ) → t < 24 → IsRising cards → (x : ℕ) → times x (map (λ card. turned t card) cards) ≤ 1
times_turned t cards l rising x =
    let few : times (turned (inverse t) x) cards ≤ 1 = times-rising (turned (inverse t) x) cards rising in
    let e : times x (map (λ card. turned t card) cards) ≡ times (turned (inverse t) x) cards = times-mapped t cards x l in
    omega arith

pub different_turned : (t : ℕ) (cards new : List ℕ) → t < 24 → IsHand cards → new ≡ map (λ card. turned t card) cards → IsDistinct eqb new
different_turned t cards new l hand e = rw e (distinct_from (map (λ card. turned t card) cards) (times_turned t cards l (hand_rises cards hand)))

-- the hand of the turned cards is the turned hand
pub turned_hand : (t : ℕ) (cards moved new : List ℕ) → moved ≡ map (λ card. turned t card) cards → IsPermutation moved new → IsHand new → new ≡ turn t cards
unfolding turn
turned_hand t cards moved new e same hand =
    joined_only (map (λ card. turned t card) cards) new (hand_rises new hand) (λ x. times-IsPermutation x moved new same ∙ ap (λ (s : List ℕ). times x s) e)
