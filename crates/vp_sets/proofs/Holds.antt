-- Holds of a hand, and sums over their draws.
use Rattle.std.proofs.Common.{◌≡◌, ℕ, suc, ◌+◌, ◌-◌, ◌*◌, ◌/◌, ◌%◌, ◌<◌, ◌≤◌, true, false, cond, ◌==◌, if◌then◌else◌, List, [], ◌∷◌, ◌++◌, length, refl, subst, ap, sym, ◌∙◌, arith}
use Rattle.std.specs.List.{sum_by}
use Rattle.vp_card.specs.Cards.{held, in_deck, IsHand, joined}
use Rattle.vp_card.specs.Rising.{times, IsRising}
use Rattle.vp_sets.specs.Sets.{deck, combos, choose, has, without}
use Rattle.vp_sets.specs.Draws.{discarded, draws, sum_over_draws}
use Rattle.vp_card.proofs.Rising.{times-append, times-rising, rising-joined, length-joined, joined_in_order, rising_from}
use Rattle.vp_sets.proofs.Sublists.{Sub, nothing, take, skip, sub_rising, sub_times, sub-filter, length-combos, sum_combos_agree, sum_combos_le}
use Rattle.vp_sets.specs.Index.{IsSet}
use Rattle.vp_sets.proofs.Colex.{below_in_deck, set_from}
use Rattle.vp_card.proofs.InDeck.{in_deck-cons, in_deck-put, in_deck-joined}
use Rattle.vp_sets.proofs.Decks.{in_deck-deck, rising-deck, has-none, times-without, length-without}

pub sub_in_deck : (n : ℕ) {y s : List ℕ} → Sub y s → in_deck n s ≡ true → in_deck n y ≡ true
sub_in_deck n nothing h = refl
sub_in_deck n (take {c} {y} {s} p) h = let q : (c < n) × (in_deck n s ≡ true) = in_deck-cons n c s h in in_deck-put n c y q.0 (sub_in_deck n p q.1)
sub_in_deck n (skip {c} {y} {s} p) h = let q : (c < n) × (in_deck n s ≡ true) = in_deck-cons n c s h in sub_in_deck n p q.1

-- the held cards are some of the hand
pub sub-held : (mask : ℕ) (hand : List ℕ) → Sub (held mask hand) hand
sub-held mask [] = nothing
sub-held mask (c ∷ cs) = elim (mask % 2 == 1) as (λ v. Sub (cond v (c ∷ held (mask / 2) cs) (held (mask / 2) cs)) (c ∷ cs)) [
  | true ↦ take (sub-held (mask / 2) cs)
  | false ↦ skip (sub-held (mask / 2) cs)
]

-- each card is held or discarded
pub length-held : (mask : ℕ) (hand : List ℕ) → length (held mask hand) + length (discarded mask hand) ≡ length hand
unfolding discarded
length-held mask [] = refl
length-held mask (c ∷ cs) =
    elim (mask % 2 == 1) as (λ v. length (cond v (c ∷ held (mask / 2) cs) (held (mask / 2) cs)) + length (if v then discarded (mask / 2) cs else c ∷ discarded (mask / 2) cs) ≡ suc (length cs)) [
      | true ↦ omega (arith, length-held (mask / 2) cs)
      | false ↦ omega (arith, length-held (mask / 2) cs)
    ]

sub-without : (s t : List ℕ) → Sub (without s t) s
unfolding without
sub-without s t = sub-filter _ s

-- the cards that were not dealt rise
pub rising-without : (n : ℕ) (t : List ℕ) → IsRising (without (deck n) t)
rising-without n t = sub_rising (sub-without (deck n) t) (rising-deck n)

pub in_deck-without : (n : ℕ) (t : List ℕ) → in_deck n (without (deck n) t) ≡ true
in_deck-without n t = sub_in_deck n (sub-without (deck n) t) (in_deck-deck n)

-- no card stands twice among the held cards and those that were not dealt
pub held_once : (n mask : ℕ) (hand : List ℕ) → IsRising hand → (c : ℕ) → times c (held mask hand ++ without (deck n) hand) ≤ 1
held_once n mask hand r c =
    let a : times c (held mask hand) ≤ times c hand = sub_times c (sub-held mask hand) in
    let b : times c hand ≤ 1 = times-rising c hand r in
    let d : times c (deck n) ≤ 1 = times-rising c (deck n) (rising-deck n) in
    let w : times c (without (deck n) hand) ≡ (if has hand c then 0 else times c (deck n)) = times-without c (deck n) hand in
    elim (has hand c) as (λ v. has hand c ≡ v → times c (held mask hand ++ without (deck n) hand) ≤ 1) [
      | true ↦ λ t. let w' : times c (without (deck n) hand) ≡ (if true then 0 else times c (deck n)) = rw t at w in
          omega (arith, times-append c (held mask hand) (without (deck n) hand), w')
      | false ↦ λ t. let w' : times c (without (deck n) hand) ≡ (if false then 0 else times c (deck n)) = rw t at w in
          omega (arith, times-append c (held mask hand) (without (deck n) hand), w', has-none hand c t)
    ] refl

-- what a hand that was dealt from a deck is
pub record Dealt (n : ℕ) (hand : List ℕ) : Type 0 where
  pub rising : IsRising hand
  pub of_deck : in_deck n hand ≡ true
  pub five : length hand ≡ 5

pub dealt_from : (n : ℕ) (hand : List ℕ) → IsHand hand → in_deck n hand ≡ true → Dealt n hand
dealt_from n hand h d = record { rising = rising_from hand h.rising; of_deck = d; five = h.five }

-- a hand that was dealt is a set
pub dealt_is_set : (n : ℕ) (hand : List ℕ) → Dealt n hand → IsSet n hand
dealt_is_set n hand d = set_from n hand d.rising (below_in_deck n hand d.of_deck)

-- five cards less than the deck are left
pub length_left : (n : ℕ) (hand : List ℕ) → Dealt n hand → length (without (deck n) hand) + 5 ≡ n
length_left n hand d =
    omega (arith, length-without n hand d.of_deck (λ c. times-rising c hand d.rising), d.five)

-- how many draws there are
pub length-draws : (n : ℕ) (hand : List ℕ) (mask : ℕ) → Dealt n hand → length (draws n hand mask) ≡ choose (n - 5) (length (discarded mask hand))
unfolding draws
length-draws n hand mask d =
    let l : length (without (deck n) hand) ≡ n - 5 = omega (arith, length_left n hand d) in
    length-combos (length (discarded mask hand)) (without (deck n) hand) ∙ ap (λ m. choose m (length (discarded mask hand))) l

-- the final hand of a draw is a hand of the deck
pub final_dealt : (n : ℕ) (hand : List ℕ) (mask : ℕ) (drawn : List ℕ) → Dealt n hand → Sub drawn (without (deck n) hand)
    → length drawn ≡ length (discarded mask hand) → Dealt n (joined (held mask hand) drawn)
final_dealt n hand mask drawn d p l =
    let a : (c : ℕ) → times c (held mask hand ++ drawn) ≤ 1 = λ c. at_most_once c in
    record {
      rising = rising-joined (held mask hand) drawn (sub_rising p (rising-without n hand)) a;
      of_deck = in_deck-joined n (held mask hand) drawn (sub_in_deck n (sub-held mask hand) d.of_deck) (sub_in_deck n p (in_deck-without n hand));
      five = omega (arith, length-joined (held mask hand) drawn, length-held mask hand, d.five);
    }
  where
    at_most_once : (c : ℕ) → times c (held mask hand ++ drawn) ≤ 1
    at_most_once c = omega (arith, times-append c (held mask hand) drawn, times-append c (held mask hand) (without (deck n) hand), sub_times c p, held_once n mask hand d.rising c)

-- the sum over the draws, with the final hand in one step
pub sum_over_draws_is : (f : List ℕ → ℕ) (n : ℕ) (hand : List ℕ) (mask : ℕ)
    → sum_over_draws f n hand mask ≡ sum_by (λ y. f (joined (held mask hand ++ y) [])) (combos (length (discarded mask hand)) (without (deck n) hand))
unfolding sum_over_draws draws
sum_over_draws_is f n hand mask =
    sum_combos_agree _ _ (length (discarded mask hand)) (without (deck n) hand)
    (λ y p l. ap f (sym (joined_in_order (held mask hand) y (sub_rising p (rising-without n hand)))))

-- sums over draws of functions that agree on all hands of the deck
pub draws_agree : (f g : List ℕ → ℕ) (n : ℕ) (hand : List ℕ) (mask : ℕ) → Dealt n hand → ((h : List ℕ) → Dealt n h → f h ≡ g h)
    → sum_over_draws f n hand mask ≡ sum_over_draws g n hand mask
unfolding sum_over_draws draws
draws_agree f g n hand mask d same =
    sum_combos_agree _ _ (length (discarded mask hand)) (without (deck n) hand)
    (λ y p l. same (joined (held mask hand) y) (final_dealt n hand mask y d p l))

-- a bound on each term bounds the sum over the draws
pub sum_over_draws_le : (f : List ℕ → ℕ) (m n : ℕ) (hand : List ℕ) (mask : ℕ) → Dealt n hand → ((h : List ℕ) → f h ≤ m)
    → sum_over_draws f n hand mask ≤ m * choose (n - 5) (length (discarded mask hand))
unfolding sum_over_draws draws
sum_over_draws_le f m n hand mask d h =
    let l : length (without (deck n) hand) ≡ n - 5 = omega (arith, length_left n hand d) in
    subst (λ r. sum_over_draws f n hand mask ≤ m * choose r (length (discarded mask hand))) l
    (sum_combos_le (λ y. f (joined (held mask hand) y)) m (length (discarded mask hand)) (without (deck n) hand) (λ y. h (joined (held mask hand) y)))
