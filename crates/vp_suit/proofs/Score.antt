-- The score of a set, which orders sets as their indexes do, and what turns do to it.
use Rattle.std.proofs.Common.{◌≡◌, ◌⊎◌, inl, inr, ℕ, zero, suc, ◌+◌, ◌*◌, ◌/◌, ◌%◌, ◌^◌, ◌<◌, ◌≤◌, Bool, true, false, cond, ◌&&◌, nat_lt, List, [], ◌∷◌, ◌++◌, length, map, refl, ap, sym, subst, ◌∙◌, arith, length-append, lit<}
use Rattle.std.proofs.lemmas.Bool.{cases_eq, cases_lt, eq-eqb, ne_eqb, lt-ltb, le-ltb}
use Rattle.std.proofs.lemmas.Nat.{pow-add}
use Rattle.std.proofs.Math.Nat.{pow-suc, pow-zero, pow-le-pow_right, mul_comm, mul-add}
use Rattle.vp_card.specs.Cards.{place, joined}
use Rattle.vp_card.specs.Rising.{IsRising}
use Rattle.vp_sets.specs.Sets.{choose}
use Rattle.vp_sets.specs.Index.{index_from}
use Rattle.vp_sets.proofs.Colex.{Below, Topped, top_cases, index_lt, index-push}
use Rattle.vp_suit.specs.Turns.{turned_suit, turned, turn}
use Rattle.vp_suit.specs.Heaps.{card_heap, heap}
use Rattle.vp_suit.proofs.Group.{suit_small, suit_back, inverse, origin, origin_is}
use Rattle.vp_suit.proofs.Cards.{turned-natural, turned-joker}

-- each card counts 2 to the power of its number
pub score : List ℕ → ℕ
score [] = 0
score (c ∷ s) = 2 ^ c + score s

score-push : (s : List ℕ) (c : ℕ) → score (s ++ c ∷ []) ≡ score s + 2 ^ c
unfolding score
score-push [] c = omega arith
score-push (d ∷ s) c = omega (arith, score-push s c)

-- cards below n count less than 2 to the power of n together
score_small : (n : ℕ) (s : List ℕ) → IsRising s → Below n s → score s < 2 ^ n
unfolding score
score_small zero [] r b = rw pow-zero (omega arith)
score_small zero (c ∷ s) r b = absurd (let l : c < 0 = b.0 in omega arith)
score_small (suc n) s r b =
    elim (top_cases n s r b) [
      | inl h ↦ let a : score s < 2 ^ n = score_small n s r h in rw pow-suc (omega arith)
      | inr t ↦
          let a : score t.rest < 2 ^ n = score_small n t.rest t.rises t.below in
          let e : score s ≡ score t.rest + 2 ^ n = ap (λ (x : List ℕ). score x) t.is ∙ score-push t.rest n in
          rw (pow-suc, e) (omega arith)
    ]

top_index : (n : ℕ) (s : List ℕ) (t : Topped n s) → (index_from 0 s ≡ index_from 0 t.rest + choose n (length s)) × (length s ≡ suc (length t.rest)) × (score s ≡ score t.rest + 2 ^ n)
top_index n s t =
    let l : length s ≡ suc (length t.rest) = ap (λ (x : List ℕ). length x) t.is ∙ omega (arith, length-append t.rest (n ∷ [])) in
    (ap (λ (x : List ℕ). index_from 0 x) t.is ∙ index-push t.rest n ∙ ap (λ k. index_from 0 t.rest + choose n k) (sym l), l, ap (λ (x : List ℕ). score x) t.is ∙ score-push t.rest n)

-- the set with the lower index has the lower score
pub record Ordered (s t : List ℕ) : Type 0 where
  pub lower : index_from 0 s < index_from 0 t → score s < score t
  pub same : index_from 0 s ≡ index_from 0 t → score s ≡ score t

pub ordered : (n : ℕ) (s t : List ℕ) → IsRising s → Below n s → IsRising t → Below n t → length s ≡ length t → Ordered s t
ordered zero [] [] r b r' b' e = record { lower = λ l. absurd (omega arith); same = λ l. refl }
ordered zero (c ∷ s) t r b r' b' e = absurd (let l : c < 0 = b.0 in omega arith)
ordered zero [] (c ∷ t) r b r' b' e = absurd (omega arith)
ordered (suc n) s t r b r' b' e =
    elim (top_cases n s r b) [
      | inl h ↦ elim (top_cases n t r' b') [
        | inl h' ↦ ordered n s t r h r' h' e
        | inr u ↦
            let i : index_from 0 s < choose n (length s) = index_lt n s r h in
            let j = top_index n t u in
            let a : score s < 2 ^ n = score_small n s r h in
            let j0 : index_from 0 t ≡ index_from 0 u.rest + choose n (length t) = j.0 in
            let j2 : score t ≡ score u.rest + 2 ^ n = j.2 in
            let k : choose n (length s) ≡ choose n (length t) = ap (λ m. choose n m) e in
            record { lower = λ l. omega arith; same = λ l. absurd (omega arith) }
      ]
      | inr w ↦
          let i = top_index n s w in
          let i0 : index_from 0 s ≡ index_from 0 w.rest + choose n (length s) = i.0 in
          let i2 : score s ≡ score w.rest + 2 ^ n = i.2 in
          elim (top_cases n t r' b') [
            | inl h' ↦
                let j : index_from 0 t < choose n (length t) = index_lt n t r' h' in
                let k : choose n (length s) ≡ choose n (length t) = ap (λ m. choose n m) e in
                record { lower = λ l. absurd (omega arith); same = λ l. absurd (omega arith) }
            | inr u ↦
                let j = top_index n t u in
                let j0 : index_from 0 t ≡ index_from 0 u.rest + choose n (length t) = j.0 in
                let j2 : score t ≡ score u.rest + 2 ^ n = j.2 in
                let k : choose n (length s) ≡ choose n (length t) = ap (λ m. choose n m) e in
                let o = ordered n w.rest u.rest w.rises w.below u.rises u.below (omega (arith, i.1, j.1)) in
                record {
                  lower = λ l. let a : score w.rest < score u.rest = o.lower (omega arith) in omega arith;
                  same = λ l. let a : score w.rest ≡ score u.rest = o.same (omega arith) in omega arith;
                }
          ]
    ]

-- ---- the score by suits

-- what the jokers count
pub jokers : List ℕ → ℕ
jokers [] = 0
jokers (c ∷ s) = cond (nat_lt c 52) 0 (2 ^ c) + jokers s

score-place : (c : ℕ) (s : List ℕ) → score (place c s) ≡ 2 ^ c + score s
unfolding score place
score-place c [] = refl
score-place c (d ∷ s) = elim (nat_lt c d) as (λ v. score (cond v (c ∷ d ∷ s) (d ∷ place c s)) ≡ 2 ^ c + (2 ^ d + score s)) [ true ↦ refl | false ↦ omega (arith, score-place c s) ]

score-joined : (cards : List ℕ) → score (joined cards []) ≡ score cards
unfolding score joined
score-joined [] = refl
score-joined (c ∷ cards) = omega (arith, score-place c (joined cards []), score-joined cards)

heap-place : (x c : ℕ) (s : List ℕ) → heap x (place c s) ≡ card_heap x c + heap x s
unfolding heap place
heap-place x c [] = refl
heap-place x c (d ∷ s) = elim (nat_lt c d) as (λ v. heap x (cond v (c ∷ d ∷ s) (d ∷ place c s)) ≡ card_heap x c + (card_heap x d + heap x s)) [ true ↦ refl | false ↦ omega (arith, heap-place x c s) ]

pub heap-joined : (x : ℕ) (cards : List ℕ) → heap x (joined cards []) ≡ heap x cards
unfolding heap joined
heap-joined x [] = refl
heap-joined x (c ∷ cards) = omega (arith, heap-place x c (joined cards []), heap-joined x cards)

pub card_own : (x c : ℕ) → c < 52 → c % 4 ≡ x → card_heap x c ≡ 2 ^ (4 * (c / 4))
unfolding card_heap
card_own x c l e = rw (lt-ltb c 52 l, eq-eqb (c % 4) x e) refl

pub card_other : (x c : ℕ) → (c % 4 ≡ x → ⊥) → card_heap x c ≡ 0
unfolding card_heap
card_other x c d = rw (ne_eqb (c % 4) x d) (none (nat_lt c 52))
  where
    none : (b : Bool) → cond (b && false) (2 ^ (4 * (c / 4))) 0 ≡ 0
    none true = refl
    none false = refl

pub card_joker : (x c : ℕ) → 52 ≤ c → card_heap x c ≡ 0
unfolding card_heap
card_joker x c l = rw (le-ltb c 52 l) refl

four_suits : (x : ℕ) → x < 4 → (x ≡ 0) ⊎ ((x ≡ 1) ⊎ ((x ≡ 2) ⊎ (x ≡ 3)))
four_suits zero l = inl refl
four_suits (suc zero) l = inr (inl refl)
four_suits (suc (suc zero)) l = inr (inr (inl refl))
four_suits (suc (suc (suc zero))) l = inr (inr (inr refl))
four_suits (suc (suc (suc (suc x)))) l = absurd (omega arith)

-- what a natural card counts when it is turned
card_turned : (t c x : ℕ) → c < 52 → c % 4 ≡ x → 2 ^ turned t c ≡ 2 ^ turned_suit t x * card_heap x c
card_turned t c x l e =
    let a : 2 ^ turned t c ≡ 2 ^ (4 * (c / 4) + turned_suit t (c % 4)) = ap (λ k. 2 ^ k) (turned-natural t c l) in
    let b : 2 ^ (4 * (c / 4) + turned_suit t (c % 4)) ≡ 2 ^ (4 * (c / 4)) * 2 ^ turned_suit t (c % 4) = pow-add 2 (4 * (c / 4)) (turned_suit t (c % 4)) in
    let d : 2 ^ (4 * (c / 4)) * 2 ^ turned_suit t (c % 4) ≡ 2 ^ turned_suit t x * 2 ^ (4 * (c / 4)) = ap (λ y. 2 ^ (4 * (c / 4)) * 2 ^ turned_suit t y) e ∙ mul_comm (2 ^ (4 * (c / 4))) (2 ^ turned_suit t x) in
    a ∙ b ∙ d ∙ ap (λ h. 2 ^ turned_suit t x * h) (sym (card_own x c l e))

-- what the suits count together, with a weight for each suit
weighed : ℕ → ℕ → ℕ → ℕ → ℕ → ℕ → ℕ → ℕ → ℕ → ℕ
weighed a b c d p q r s j = a * p + b * q + c * r + d * s + j

card_counts : (t c : ℕ) → t < 24 → 2 ^ turned t c ≡ weighed (2 ^ turned_suit t 0) (2 ^ turned_suit t 1) (2 ^ turned_suit t 2) (2 ^ turned_suit t 3) (card_heap 0 c) (card_heap 1 c) (card_heap 2 c) (card_heap 3 c) (cond (nat_lt c 52) 0 (2 ^ c))
unfolding weighed
card_counts t c lt = elim (cases_lt c 52) [
  | inl l ↦ elim (four_suits (c % 4) (omega arith)) [
    | inl e ↦ rw (lt-ltb c 52 l, card_other 1 c (λ f. absurd (omega arith)), card_other 2 c (λ f. absurd (omega arith)), card_other 3 c (λ f. absurd (omega arith))) (omega (arith, card_turned t c 0 l e))
    | inr (inl e) ↦ rw (lt-ltb c 52 l, card_other 0 c (λ f. absurd (omega arith)), card_other 2 c (λ f. absurd (omega arith)), card_other 3 c (λ f. absurd (omega arith))) (omega (arith, card_turned t c 1 l e))
    | inr (inr (inl e)) ↦ rw (lt-ltb c 52 l, card_other 0 c (λ f. absurd (omega arith)), card_other 1 c (λ f. absurd (omega arith)), card_other 3 c (λ f. absurd (omega arith))) (omega (arith, card_turned t c 2 l e))
    | inr (inr (inr e)) ↦ rw (lt-ltb c 52 l, card_other 0 c (λ f. absurd (omega arith)), card_other 1 c (λ f. absurd (omega arith)), card_other 2 c (λ f. absurd (omega arith))) (omega (arith, card_turned t c 3 l e))
  ]
  | inr l ↦ rw (le-ltb c 52 l, card_joker 0 c l, card_joker 1 c l, card_joker 2 c l, card_joker 3 c l, turned-joker t c l) (omega arith)
]

weighed_sum : (a b c d p q r s j p' q' r' s' j' : ℕ) → weighed a b c d p q r s j + weighed a b c d p' q' r' s' j' ≡ weighed a b c d (p + p') (q + q') (r + r') (s + s') (j + j')
unfolding weighed
weighed_sum a b c d p q r s j p' q' r' s' j' = rw (mul-add a p p', mul-add b q q', mul-add c r r', mul-add d s s') (omega arith)

weighed_none : (a b c d : ℕ) → weighed a b c d 0 0 0 0 0 ≡ 0
unfolding weighed
weighed_none a b c d = omega arith

mapped_counts : (t : ℕ) (s : List ℕ) → t < 24 → score (map (λ card. turned t card) s) ≡ weighed (2 ^ turned_suit t 0) (2 ^ turned_suit t 1) (2 ^ turned_suit t 2) (2 ^ turned_suit t 3) (heap 0 s) (heap 1 s) (heap 2 s) (heap 3 s) (jokers s)
unfolding score heap jokers
mapped_counts t [] lt = sym (weighed_none (2 ^ turned_suit t 0) (2 ^ turned_suit t 1) (2 ^ turned_suit t 2) (2 ^ turned_suit t 3))
mapped_counts t (c ∷ s) lt =
    rw (card_counts t c lt, mapped_counts t s lt)
    (weighed_sum (2 ^ turned_suit t 0) (2 ^ turned_suit t 1) (2 ^ turned_suit t 2) (2 ^ turned_suit t 3) (card_heap 0 c) (card_heap 1 c) (card_heap 2 c) (card_heap 3 c) (cond (nat_lt c 52) 0 (2 ^ c)) (heap 0 s) (heap 1 s) (heap 2 s) (heap 3 s) (jokers s))

-- the score of a turned deal, by the heaps of the deal
pub score_turned : (t : ℕ) (s : List ℕ) → t < 24 → score (turn t s) ≡ 2 ^ turned_suit t 0 * heap 0 s + 2 ^ turned_suit t 1 * heap 1 s + 2 ^ turned_suit t 2 * heap 2 s + 2 ^ turned_suit t 3 * heap 3 s + jokers s
unfolding turn weighed
score_turned t s lt = score-joined (map (λ card. turned t card) s) ∙ mapped_counts t s lt

-- ---- heaps and jokers of a turned deal

jokers-place : (c : ℕ) (s : List ℕ) → jokers (place c s) ≡ cond (nat_lt c 52) 0 (2 ^ c) + jokers s
unfolding jokers place
jokers-place c [] = refl
jokers-place c (d ∷ s) = elim (nat_lt c d) as (λ v. jokers (cond v (c ∷ d ∷ s) (d ∷ place c s)) ≡ cond (nat_lt c 52) 0 (2 ^ c) + (cond (nat_lt d 52) 0 (2 ^ d) + jokers s)) [ true ↦ refl | false ↦ omega (arith, jokers-place c s) ]

joker_turned : (t c : ℕ) → t < 24 → cond (nat_lt (turned t c) 52) 0 (2 ^ turned t c) ≡ cond (nat_lt c 52) 0 (2 ^ c)
joker_turned t c lt = elim (cases_lt c 52) [
  | inl l ↦
      let s : turned_suit t (c % 4) < 4 = suit_small t (c % 4) lt (omega arith) in
      let e : turned t c ≡ 4 * (c / 4) + turned_suit t (c % 4) = turned-natural t c l in
      rw (lt-ltb (turned t c) 52 (omega arith), lt-ltb c 52 l) refl
  | inr l ↦ rw (turned-joker t c l) refl
]

pub jokers_turned : (t : ℕ) (s : List ℕ) → t < 24 → jokers (turn t s) ≡ jokers s
unfolding turn joined jokers
jokers_turned t [] lt = refl
jokers_turned t (c ∷ s) lt =
    let a : jokers (place (turned t c) (turn t s)) ≡ cond (nat_lt (turned t c) 52) 0 (2 ^ turned t c) + jokers (turn t s) = jokers-place (turned t c) (turn t s) in
    let b : jokers (turn t s) ≡ jokers s = jokers_turned t s lt in
    omega (arith, joker_turned t c lt)

card_heap_turned : (t c x : ℕ) → t < 24 → x < 4 → card_heap (turned_suit t x) (turned t c) ≡ card_heap x c
card_heap_turned t c x lt lx = elim (cases_lt c 52) [
  | inl l ↦
      let s : turned_suit t (c % 4) < 4 = suit_small t (c % 4) lt (omega arith) in
      let e : turned t c ≡ 4 * (c / 4) + turned_suit t (c % 4) = turned-natural t c l in
      let natural : turned t c < 52 = omega arith in
      let by_suit : turned t c % 4 ≡ turned_suit t (c % 4) = omega arith in
      let by_rank : turned t c / 4 ≡ c / 4 = omega arith in
      elim (cases_eq (c % 4) x) [
        | inl same ↦
            card_own (turned_suit t x) (turned t c) natural (by_suit ∙ ap (λ y. turned_suit t y) same) ∙ ap (λ q. 2 ^ (4 * q)) by_rank ∙ sym (card_own x c l same)
        | inr other ↦
            let apart : turned t c % 4 ≡ turned_suit t x → ⊥ = λ h.
            other (sym (suit_back t (c % 4) lt (omega arith)) ∙ ap (λ y. turned_suit (inverse t) y) (sym by_suit ∙ h) ∙ suit_back t x lt lx) in
            card_other (turned_suit t x) (turned t c) apart ∙ sym (card_other x c other)
      ]
  | inr l ↦
      let joker : 52 ≤ turned t c = subst (λ y. 52 ≤ y) (sym (turned-joker t c l)) l in
      card_joker (turned_suit t x) (turned t c) joker ∙ sym (card_joker x c l)
]

mapped_heap : (t x : ℕ) (s : List ℕ) → t < 24 → x < 4 → heap (turned_suit t x) (map (λ card. turned t card) s) ≡ heap x s
unfolding heap
mapped_heap t x [] lt lx = refl
mapped_heap t x (c ∷ s) lt lx = omega (arith, card_heap_turned t c x lt lx, mapped_heap t x s lt lx)

-- each suit's heap goes to the suit that it turns into
pub heap_turned : (t y : ℕ) (s : List ℕ) → t < 24 → y < 4 → heap y (turn t s) ≡ heap (origin t y) s
unfolding turn
heap_turned t y s lt ly =
    let o = origin_is t y lt ly in
    heap-joined y (map (λ card. turned t card) s) ∙ ap (λ z. heap z (map (λ card. turned t card) s)) (sym o.1) ∙ mapped_heap t (origin t y) s lt o.0

-- ---- what the code needs of heaps

pub heap-none : (x : ℕ) → heap x [] ≡ 0
unfolding heap
heap-none x = refl

pub heap-cons : (x c : ℕ) (s : List ℕ) → heap x (c ∷ s) ≡ card_heap x c + heap x s
unfolding heap
heap-cons x c s = refl
