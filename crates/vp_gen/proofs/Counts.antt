-- How often each card stands among those of a made game.
use Rattle.std.proofs.Common.{◌≡◌, ℕ, zero, suc, ◌+◌, ◌-◌, ◌/◌, ◌%◌, ◌<◌, ◌≤◌, true, false, cond, List, [], ◌∷◌, ◌++◌, length, get_or, refl, sym, ap, subst, ◌∙◌, arith, inl, inr}
use Rattle.std.specs.Prelude.{◌==◌, if◌then◌else◌, Option, Some, None, IsSome}
use Rattle.std.specs.List.{remove}
use Rattle.std.proofs.lemmas.Bool.{cases_lt}
use Rattle.std.proofs.lemmas.List.Edits.{length-remove}
use Rattle.vp_card.specs.Rising.{times}
use Rattle.vp_card.specs.Cards.{IsDeck, all_differ, held, in_deck, in_order}
use Rattle.vp_card.proofs.Differ.{distinct-differ}
use Rattle.vp_card.proofs.InDeck.{in_deck-in_order, in_deck-put}
use Rattle.vp_card.proofs.Rising.{distinct_from, length-joined, times-append, times-joined, times-same}
use Rattle.vp_sets.specs.Sets.{deck}
use Rattle.vp_sets.proofs.Decks.{in_deck-deck, length-deck, times-deck, times-outside}
use Rattle.vp_sets.proofs.Holds.{length-held}
use Rattle.vp_pay.specs.declared.table.PayTable.{PayTable}
use Rattle.vp_wild.specs.Payment.{pay}
use Rattle.vp_gen.specs.Generator.{Drawn, drawn, made, masked, next_state, pick}

-- ---- cards that are drawn

times-remove : (c : ℕ) (cards : List ℕ) (i : ℕ) → i < length cards → times c (get_or cards i 0 ∷ remove cards i) ≡ times c cards
times-remove c [] i inside = absurd (omega arith)
times-remove c (d ∷ cards) zero inside = refl
times-remove c (d ∷ cards) (suc i) inside = omega (arith, times-remove c cards i (omega arith))

below : (m x : ℕ) → 0 < m → pick m x < m
unfolding pick
below m x some = omega arith

pub drawn_times : (k x : ℕ) (rest : List ℕ) (c : ℕ) → k ≤ length rest → times c (drawn k x rest).cards + times c (drawn k x rest).rest ≡ times c rest
unfolding drawn
drawn_times zero x rest c room = omega arith
drawn_times (suc k) x rest c room =
    let i = pick (length rest) x in
    let inside : i < length rest = below (length rest) x (omega arith) in
    let more = drawn_times k (next_state x) (remove rest i) c (omega (arith, length-remove rest i inside)) in
    let first = times-remove c rest i inside in
    omega arith

pub drawn_count : (k x : ℕ) (rest : List ℕ) → k ≤ length rest → (length (drawn k x rest).cards ≡ k) × (length (drawn k x rest).rest + k ≡ length rest)
unfolding drawn
drawn_count zero x rest room = (refl, omega arith)
drawn_count (suc k) x rest room =
    let i = pick (length rest) x in
    let inside : i < length rest = below (length rest) x (omega arith) in
    let l = length-remove rest i inside in
    let more = drawn_count k (next_state x) (remove rest i) (omega arith) in
    (omega arith, omega arith)

-- ---- cards that are held

held_times : (c mask : ℕ) (cards : List ℕ) → times c (held mask cards) ≤ times c cards
held_times c mask [] = omega arith
held_times c mask (d ∷ cards) =
    elim (mask % 2 == 1) as (λ b. times c (cond b (d ∷ held (mask / 2) cards) (held (mask / 2) cards)) ≤ times c (d ∷ cards)) [
      | true ↦ omega (arith, held_times c (mask / 2) cards)
      | false ↦ omega (arith, held_times c (mask / 2) cards)
    ]

pub order_count : (cards : List ℕ) → length (in_order cards) ≡ length cards
unfolding in_order
order_count cards = omega (arith, length-joined cards [])

order_times : (c : ℕ) (cards : List ℕ) → times c (in_order cards) ≡ times c cards
unfolding in_order
order_times c cards = omega (arith, times-joined c cards [])

-- ---- the cards of a game

-- five cards of a deck of n, and the others
pub record AreDealt (n : ℕ) (cards rest : List ℕ) : Type 0 where
  pub five : length cards ≡ 5
  pub left : length rest + 5 ≡ n
  pub once : (c : ℕ) → times c cards + times c rest ≤ 1
  pub below : (c : ℕ) → n ≤ c → times c cards + times c rest ≡ 0

deck_once : (n c : ℕ) → times c (deck n) ≤ 1
deck_once n c = elim (cases_lt c n) [
  | inl l ↦ omega (arith, times-deck n c l)
  | inr l ↦ omega (arith, times-outside n c (deck n) (in_deck-deck n) l)
]

pub dealt : (n x : ℕ) → IsDeck n → AreDealt n (drawn 5 x (deck n)).cards (drawn 5 x (deck n)).rest
dealt n x is =
    let room : 5 ≤ length (deck n) = omega (arith, length-deck n, is.0) in
    let count = drawn_count 5 x (deck n) room in
    record {
      five = count.0;
      left = omega (arith, count.1, length-deck n);
      once = λ c. omega (arith, drawn_times 5 x (deck n) c room, deck_once n c);
      below = λ c l. omega (arith, drawn_times 5 x (deck n) c room, times-outside n c (deck n) (in_deck-deck n) l);
    }

-- five dealt cards of a deck of n, some of them held, and as many others drawn as it takes for five
pub record AreCards (n : ℕ) (deal hold draw : List ℕ) : Type 0 where
  pub five : length deal ≡ 5
  pub count : length hold + length draw ≡ 5
  pub within : (c : ℕ) → times c hold ≤ times c deal
  pub once : (c : ℕ) → times c deal + times c draw ≤ 1
  pub below : (c : ℕ) → n ≤ c → times c deal + times c draw ≡ 0

pub few_held : (mask : ℕ) (deal : List ℕ) → length deal ≡ 5 → length (held mask (in_order deal)) ≤ 5
few_held mask deal five = omega (arith, length-held mask (in_order deal), order_count deal)

pub are_cards : (n mask x : ℕ) (deal rest : List ℕ) → IsDeck n → AreDealt n deal rest
    → AreCards n deal (held mask (in_order deal)) (drawn (5 - length (held mask (in_order deal))) x rest).cards
are_cards n mask x deal rest is dealt =
    let hold = held mask (in_order deal) in
    let k = 5 - length hold in
    let few : length hold ≤ 5 = few_held mask deal dealt.five in
    let room : k ≤ length rest = omega (arith, dealt.left, is.0) in
    let count = drawn_count k x rest room in
    record {
      five = dealt.five;
      count = omega (arith, count.0);
      within = λ c. omega (arith, held_times c mask (in_order deal), order_times c deal);
      once = λ c. omega (arith, drawn_times k x rest c room, dealt.once c);
      below = λ c l. omega (arith, drawn_times k x rest c room, dealt.below c l);
    }

-- ---- what follows of counts

pub counts_differ : (cards : List ℕ) → ((c : ℕ) → times c cards ≤ 1) → all_differ cards ≡ true
counts_differ cards once = distinct-differ cards (distinct_from cards once)

pub counts_of_deck : (n : ℕ) (cards : List ℕ) → ((c : ℕ) → n ≤ c → times c cards ≡ 0) → in_deck n cards ≡ true
counts_of_deck n [] none = refl
counts_of_deck n (card ∷ cards) none = elim (cases_lt card n) [
  | inl l ↦ in_deck-put n card cards l (counts_of_deck n cards (λ c m. omega (arith, none c m)))
  | inr l ↦ absurd (omega (arith, none card l, times-same card cards))
]

pub deal_differs : (n : ℕ) (deal rest : List ℕ) → AreDealt n deal rest → all_differ deal ≡ true
deal_differs n deal rest is = counts_differ deal (λ c. omega (arith, is.once c))

pub hand_of_deck : (n : ℕ) (deal rest : List ℕ) → AreDealt n deal rest → in_deck n (in_order deal) ≡ true
hand_of_deck n deal rest is = in_deck-in_order n deal (counts_of_deck n deal (λ c l. omega (arith, is.below c l)))

pub final_differ : (n : ℕ) (deal hold draw : List ℕ) → AreCards n deal hold draw → all_differ (hold ++ draw) ≡ true
final_differ n deal hold draw is = counts_differ (hold ++ draw) (λ c. omega (arith, times-append c hold draw, is.within c, is.once c))

-- ---- what calls that draw tell

pub dealt_from : (n x y : ℕ) (pack deal rest : List ℕ) → IsDeck n → pack ≡ deck n → drawn 5 x pack ≡ record { cards = deal; rest = rest; state = y } → AreDealt n deal rest
dealt_from n x y pack deal rest is whole drew =
    let from : drawn 5 x (deck n) ≡ record { cards = deal; rest = rest; state = y } = ap (drawn 5 x) (sym whole) ∙ drew in
    subst (λ (d : Drawn). AreDealt n d.cards d.rest) from (dealt n x is)

pub cards_from : (n mask x y : ℕ) (deal rest hold draw left : List ℕ) → IsDeck n → AreDealt n deal rest → hold ≡ held mask (in_order deal)
    → drawn (5 - length hold) x rest ≡ record { cards = draw; rest = left; state = y } → AreCards n deal hold draw
cards_from n mask x y deal rest hold draw left is dealt held_is drew =
    let from : drawn (5 - length (held mask (in_order deal))) x rest ≡ record { cards = draw; rest = left; state = y } = ap (λ (h : List ℕ). drawn (5 - length h) x rest) (sym held_is) ∙ drew in
    rw held_is (subst (λ (d : Drawn). AreCards n deal (held mask (in_order deal)) d.cards) from (are_cards n mask x deal rest is dealt))

-- the game that these steps make
pub made_from : (table : PayTable) (coin credits x y mask z w paid : ℕ) (deal rest hold draw left : List ℕ)
    → drawn 5 x (deck table.deck) ≡ record { cards = deal; rest = rest; state = y } → masked table coin (in_order deal) y ≡ record { mask = mask; state = z }
    → hold ≡ held mask (in_order deal) → drawn (5 - length hold) z rest ≡ record { cards = draw; rest = left; state = w } → paid ≡ pay table coin (in_order (hold ++ draw))
    → made table coin credits x
    ≡ record { event = record { bet = coin; deal = deal; hold = record { items = hold }; draw = record { items = draw }; pay = paid; credits = credits - coin + paid }; state = w }
unfolding made
made_from table coin credits x y mask z w paid deal rest hold draw left dealt chosen held_is drew pays = rw (dealt, chosen, ← held_is, drew, pays) refl

-- a hand of cards that differ
pub hand_is_some : (cards : List ℕ) (hand : Option (List ℕ)) → all_differ cards ≡ true → hand ≡ (if all_differ cards then Some (in_order cards) else None) → IsSome hand
hand_is_some cards hand differ is = rw (is, differ) refl

pub hand_is : (cards : List ℕ) (hand : Option (List ℕ)) (found : List ℕ) → all_differ cards ≡ true → hand ≡ (if all_differ cards then Some (in_order cards) else None) → hand ≡ Some found → found ≡ in_order cards
hand_is cards hand found differ is some = let e : Some found ≡ Some (in_order cards) = sym some ∙ rw differ at is in cc
