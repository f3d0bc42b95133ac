-- A turn of the suits exchanges suits, so turned hands are paid alike.
use Rattle.std.proofs.Common.{◌≡◌, inl, inr, ℕ, ◌+◌, ◌*◌, ◌/◌, ◌%◌, ◌<◌, true, false, ◌==◌, ◌||◌, nat_le, Option, Some, None, List, length, map, refl, ap, sym, ◌∙◌, arith}
use Rattle.std.proofs.lemmas.Bool.{cases_lt}
use Rattle.std.proofs.lemmas.Bool.Decides.{nat_tests}
use Rattle.std.proofs.lemmas.List.{length-map}
use Rattle.vp_card.specs.Cards.{rank, suit}
use Rattle.vp_rank.specs.Wilds.{is_of_wild_rank, is_wild}
use Rattle.vp_pay.specs.declared.table.PayTable.{PayTable}
use Rattle.vp_suit.specs.Turns.{turned_suit, turned, turn}
use Rattle.vp_suit.specs.Classes.{IsKept}
use Rattle.vp_suit.proofs.Group.{suit_small, inverse, inverse_inside, suit_back, suit_forth}
use Rattle.vp_suit.proofs.Cards.{turned-natural, turned-joker}
use Rattle.vp_suit.proofs.Order.{turn_moves}
use Rattle.vp_wild.specs.Alike.{ExchangesSuits}
use Rattle.vp_wild.specs.Payment.{line, pay}
use Rattle.vp_wild.proofs.AlikeHands.{alike_line, alike_pay, line_order, pay_order}
use Rattle.vp_wild.proofs.TurnedHands.{alike_map}

-- a natural card by its rank and suit
natural_rank : (q r : ℕ) → r < 4 → (4 * q + r) / 4 ≡ q
natural_rank q r l = omega arith

natural_suit : (q r : ℕ) → r < 4 → (4 * q + r) % 4 ≡ r
natural_suit q r l = omega arith

turned-rank : (t c : ℕ) → t < 24 → rank (turned t c) ≡ rank c
turned-rank t c l = elim (cases_lt c 52) [
  | inl natural ↦ ap rank (turned-natural t c natural) ∙ natural_rank (rank c) (turned_suit t (suit c)) (suit_small t (suit c) l (omega arith))
  | inr joker ↦ ap rank (turned-joker t c joker)
]

turned-suit : (t c : ℕ) → t < 24 → c < 52 → suit (turned t c) ≡ turned_suit t (suit c)
turned-suit t c l natural = ap suit (turned-natural t c natural) ∙ natural_suit (rank c) (turned_suit t (suit c)) (suit_small t (suit c) l (omega arith))

turned-joker_test : (t c : ℕ) → t < 24 → nat_le 52 (turned t c) ≡ nat_le 52 c
turned-joker_test t c l = elim (cases_lt c 52) [
  | inl natural ↦
      let same : rank (turned t c) ≡ rank c = turned-rank t c l in
      let low : turned t c < 52 = omega arith in
      grind (arith, nat_tests)
  | inr joker ↦ ap (nat_le 52) (turned-joker t c joker)
]

wild_rank_kept : (w : Option ℕ) (c d : ℕ) → rank c ≡ rank d → is_of_wild_rank w c ≡ is_of_wild_rank w d
wild_rank_kept None c d e = refl
wild_rank_kept (Some wild) c d e = ap (λ r. r == wild) e

turned-wild : (w : Option ℕ) (t c : ℕ) → t < 24 → is_wild w (turned t c) ≡ is_wild w c
unfolding is_wild
turned-wild w t c l =
    ap (λ b. b || is_of_wild_rank w (turned t c)) (turned-joker_test t c l)
    ∙ ap (λ b. nat_le 52 c || b) (wild_rank_kept w (turned t c) c (turned-rank t c l))

natural_of : (w : Option ℕ) (c : ℕ) → is_wild w c ≡ false → c < 52
unfolding is_wild
natural_of w c plain = elim (cases_lt c 52) [
  | inl natural ↦ natural
  | inr joker ↦
      let test : nat_le 52 c ≡ true = grind (arith, nat_tests) in
      let wild : true ≡ false = sym (ap (λ b. b || is_of_wild_rank w c) test) ∙ plain in
      absurd cc
]

-- each turn exchanges the suits
pub turn_exchanges : (w : Option ℕ) (t : ℕ) → t < 24 → ExchangesSuits w (λ card. turned t card) (turned_suit t) (turned_suit (inverse t))
turn_exchanges w t l =
    record {
      wild_cards = λ c. turned-wild w t c l;
      ranks = λ c. turned-rank t c l;
      suits = λ c plain. turned-suit t c l (natural_of w c plain);
      within = λ s small. suit_small t s l small;
      back_within = λ s small. suit_small (inverse t) s (inverse_inside t l) small;
      back = λ s small. suit_back t s l small;
      forth = λ s small. suit_forth t s l small;
    }

pub turned_line : (t : ℕ) (table : PayTable) (cards : List ℕ) → t < 24 → length cards ≡ 5 → line table (turn t cards) ≡ line table cards
turned_line t table cards l five =
    let moved : List ℕ = map (λ card. turned t card) cards in
    let long : length moved ≡ 5 = length-map cards (λ card. turned t card) ∙ five in
    sym (alike_line table cards moved five long (alike_map table.wild (λ card. turned t card) (turned_suit t) (turned_suit (inverse t)) (turn_exchanges table.wild t l) cards)
    ∙ line_order table moved (turn t cards) long (turn_moves t cards))

pub turned_pay : (t coin : ℕ) (table : PayTable) (cards : List ℕ) → t < 24 → length cards ≡ 5 → pay table coin (turn t cards) ≡ pay table coin cards
turned_pay t coin table cards l five =
    let moved : List ℕ = map (λ card. turned t card) cards in
    let long : length moved ≡ 5 = length-map cards (λ card. turned t card) ∙ five in
    sym (alike_pay table coin cards moved five long (alike_map table.wild (λ card. turned t card) (turned_suit t) (turned_suit (inverse t)) (turn_exchanges table.wild t l) cards)
    ∙ pay_order table coin moved (turn t cards) long (turn_moves t cards))

-- what is made of the pay line is kept by turns, and so is what is made of the payment
pub line_kept : (n : ℕ) (table : PayTable) (g : Option ℕ → ℕ) → IsKept n (λ cards. g (line table cards))
line_kept n table g t cards l deal = ap g (turned_line t table cards l deal.five)

pub pay_kept : (n coin : ℕ) (table : PayTable) (g : ℕ → ℕ) → IsKept n (λ cards. g (pay table coin cards))
pay_kept n coin table g t cards l deal = ap g (turned_pay t coin table cards l deal.five)
