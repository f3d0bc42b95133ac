-- The table of what each card adds to the heaps.
use Rattle.std.proofs.Common.{◌≡◌, ℕ, zero, suc, ◌+◌, ◌^◌, ◌<◌, ◌≤◌, Bool, true, false, List, [], ◌∷◌, length, map, get_or, drop, ◌*◌, lit<, refl, ap, sym, subst, ◌∙◌, arith, ◌⊎◌, inl, inr, ◌/◌, ◌%◌}
use Rattle.std.proofs.lemmas.List.{get_or-map}
use Rattle.std.proofs.Math.Nat.{pow-le-pow_right}
use Rattle.vp_sets.specs.Sets.{deck}
use Rattle.vp_suit.specs.Heaps.{card_heap, heap}
use Rattle.std.proofs.lemmas.Bool.{cases_eq, cases_lt}
use Rattle.vp_sets.proofs.Decks.{length-deck, get_or-deck}
use Rattle.vp_suit.proofs.Score.{card_own, card_other, card_joker, heap-none, heap-cons}
use Rattle.vp_suit.specs.declared.card_heaps.TheConstants.{CARD_HEAPS}

abbrev pub row : ℕ → List ℕ
row card = card_heap 0 card ∷ card_heap 1 card ∷ card_heap 2 card ∷ card_heap 3 card ∷ []

rows : CARD_HEAPS ≡ map row (deck 54)
unfolding card_heap deck
rows = refl

pub card_row : (card : ℕ) → card < 54 → get_or CARD_HEAPS card [] ≡ card_heap 0 card ∷ card_heap 1 card ∷ card_heap 2 card ∷ card_heap 3 card ∷ []
card_row card l =
    ap (λ r. get_or r card []) rows ∙ (get_or-map row (deck 54) card 0 [] (subst (λ m. card < m) (sym (length-deck 54)) l) ∙ ap row (get_or-deck 54 card l))

-- a card adds a power of 16, or nothing
card_heap_cases : (x c : ℕ) → (card_heap x c ≡ 2 ^ (4 * (c / 4))) ⊎ (card_heap x c ≡ 0)
card_heap_cases x c = elim (cases_lt c 52) [
  | inl l ↦ elim (cases_eq (c % 4) x) [ inl e ↦ inl (card_own x c l e) | inr d ↦ inr (card_other x c d) ]
  | inr m ↦ inr (card_joker x c m)
]

-- no card up to another adds more than one of that card's rank
pub card_heap_below : (x c b : ℕ) → c ≤ b → card_heap x c ≤ 2 ^ (4 * (b / 4))
card_heap_below x c b l =
    let up : 2 ^ (4 * (c / 4)) ≤ 2 ^ (4 * (b / 4)) = pow-le-pow_right (lit< tt) (omega arith) in
    elim (card_heap_cases x c) [ inl e ↦ omega arith | inr e ↦ omega arith ]

-- no card adds more than an ace
pub card_heap_small : (x c : ℕ) → card_heap x c ≤ 281474976710656
card_heap_small x c = elim (cases_lt c 52) [
  | inl l ↦ card_heap_below x c 51 (omega arith)
  | inr m ↦ omega (arith, card_joker x c m)
]

-- the entry of a card and a suit
pub card_entry : (suit card : ℕ) → suit < 4 → card < 54 → get_or (get_or CARD_HEAPS card []) suit 0 ≡ card_heap suit card
card_entry suit card l m = ap (λ r. get_or r suit 0) (card_row card m) ∙ at suit l
  where
    at : (suit : ℕ) → suit < 4 → get_or (card_heap 0 card ∷ card_heap 1 card ∷ card_heap 2 card ∷ card_heap 3 card ∷ []) suit 0 ≡ card_heap suit card
    at zero l = refl
    at (suc zero) l = refl
    at (suc (suc zero)) l = refl
    at (suc (suc (suc zero))) l = refl
    at (suc (suc (suc (suc suit)))) l = absurd (omega arith)

-- the heap of the cards but the lowest
pub heap_of_four : (x : ℕ) (cards : List ℕ) → length cards ≡ 5 → card_heap x (get_or cards 1 0) + card_heap x (get_or cards 2 0) + card_heap x (get_or cards 3 0) + card_heap x (get_or cards 4 0) ≡ heap x (drop 1 cards)
unfolding heap
heap_of_four x (a ∷ b ∷ c ∷ d ∷ e ∷ []) five = omega arith
heap_of_four x [] five = absurd (omega arith)
heap_of_four x (a ∷ []) five = absurd (omega arith)
heap_of_four x (a ∷ b ∷ []) five = absurd (omega arith)
heap_of_four x (a ∷ b ∷ c ∷ []) five = absurd (omega arith)
heap_of_four x (a ∷ b ∷ c ∷ d ∷ []) five = absurd (omega arith)
heap_of_four x (a ∷ b ∷ c ∷ d ∷ e ∷ f ∷ cards) five = absurd (omega arith)

pub heap_small : (x : ℕ) (cards : List ℕ) → heap x cards ≤ length cards * 281474976710656
heap_small x [] = omega (arith, heap-none x)
heap_small x (c ∷ cards) = omega (arith, heap-cons x c cards, card_heap_small x c, heap_small x cards)
