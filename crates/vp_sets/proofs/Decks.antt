-- The cards of a deck, and those that are left when a hand was dealt.
use Rattle.std.proofs.Common.{◌≡◌, inl, inr, ℕ, zero, suc, ◌+◌, ◌<◌, ◌≤◌, Bool, true, false, cond, ◌==◌, not, nat_lt, if◌then◌else◌, List, [], ◌∷◌, ◌++◌, filter, length, get_or, refl, ap, ◌∙◌, arith, length-append}
use Rattle.std.specs.List.{sum_by}
use Rattle.std.proofs.lemmas.Bool.{cases_lt, cases_eq}
use Rattle.std.proofs.lemmas.Bool.Decides.{nat_tests}
use Rattle.std.proofs.lemmas.List.{get_or_push, get_or_append_left}
use Rattle.std.proofs.lemmas.List.Sums.{sum_by-cons, sum_by_push}
use Rattle.vp_card.specs.Cards.{in_deck}
use Rattle.vp_card.specs.Rising.{times, IsRising}
use Rattle.vp_sets.specs.Sets.{deck, has, without}
use Rattle.vp_card.proofs.InDeck.{in_deck-cons, in_deck-put, in_deck-append}
use Rattle.vp_card.proofs.Rising.{times-append, below_behind}
use Rattle.vp_sets.proofs.Sublists.{sum_by-plus}

pub deck-suc : (n : ℕ) → deck (suc n) ≡ deck n ++ n ∷ []
unfolding deck
deck-suc n = refl

pub length-deck : (n : ℕ) → length (deck n) ≡ n
unfolding deck
length-deck zero = refl
length-deck (suc n) = rw length-append (omega (arith, length-deck n))

-- the card at a place of the deck is the place
pub get_or-deck : (n i : ℕ) → i < n → get_or (deck n) i 0 ≡ i
unfolding deck
get_or-deck zero i l = absurd (omega arith)
get_or-deck (suc n) i l = elim (cases_eq i n) [
  | inl e ↦ rw e (get_or_push (deck n) n 0 n (length-deck n))
  | inr d ↦ get_or_append_left (deck n) (n ∷ []) 0 i (let k : length (deck n) ≡ n = length-deck n in omega arith) ∙ get_or-deck n i (omega arith)
]

-- ---- cards below a number

-- a larger deck has the cards too
pub in_deck_more : (m n : ℕ) (s : List ℕ) → m ≤ n → in_deck m s ≡ true → in_deck n s ≡ true
in_deck_more m n [] l h = refl
in_deck_more m n (c ∷ s) l h =
    let p : (c < m) × (in_deck m s ≡ true) = in_deck-cons m c s h in
    in_deck-put n c s (omega arith) (in_deck_more m n s l p.1)

pub in_deck-deck : (n : ℕ) → in_deck n (deck n) ≡ true
unfolding deck
in_deck-deck zero = refl
in_deck-deck (suc n) =
    in_deck-append (suc n) (deck n) (n ∷ []) (in_deck_more n (suc n) (deck n) (omega arith) (in_deck-deck n)) (in_deck-put (suc n) n [] (omega arith) refl)

-- a card stands in a list of the deck only where it is of the deck
pub times-outside : (n c : ℕ) (s : List ℕ) → in_deck n s ≡ true → n ≤ c → times c s ≡ 0
times-outside n c [] h l = refl
times-outside n c (d ∷ s) h l =
    let p : (d < n) × (in_deck n s ≡ true) = in_deck-cons n d s h in
    let t : (d == c) ≡ false = grind (arith, nat_tests, p.0) in
    rw t (omega (arith, times-outside n c s p.1 l))

rising_push : (n : ℕ) (s : List ℕ) → in_deck n s ≡ true → IsRising s → IsRising (s ++ n ∷ [])
rising_push n [] h r = (tt, tt)
rising_push n (c ∷ s) h r =
    let p : (c < n) × (in_deck n s ≡ true) = in_deck-cons n c s h in
    (below_behind c n s r.0 p.0, rising_push n s p.1 r.1)

pub rising-deck : (n : ℕ) → IsRising (deck n)
unfolding deck
rising-deck zero = tt
rising-deck (suc n) = rising_push n (deck n) (in_deck-deck n) (rising-deck n)

-- each card of the deck stands in it once
pub times-deck : (n c : ℕ) → c < n → times c (deck n) ≡ 1
times-deck zero c l = absurd (omega arith)
times-deck (suc n) c l = rw (deck-suc n, times-append c (deck n) (n ∷ [])) (
    elim (cases_lt c n) [
      | inl m ↦
          let t : (n == c) ≡ false = grind (arith, nat_tests) in
          rw t (omega (arith, times-deck n c m))
      | inr m ↦
          let q : c ≡ n = omega arith in
          omega (arith, times-outside n c (deck n) (in_deck-deck n) m, times-one c n q)
    ])
  where
    times-one : (c n : ℕ) → c ≡ n → times c (n ∷ []) ≡ 1
    times-one c n q = grind (arith, nat_tests)

-- ---- the cards that are not in a list

pub has-none : (s : List ℕ) (c : ℕ) → has s c ≡ false → times c s ≡ 0
unfolding has
has-none [] c h = refl
has-none (d ∷ s) c h =
    let t : (d == c) ≡ false = grind (arith, nat_tests) in
    let u : has s c ≡ false = grind (arith, nat_tests) in
    rw t (omega (arith, has-none s c u))

pub has-some : (s : List ℕ) (c : ℕ) → has s c ≡ true → 0 < times c s
unfolding has
has-some [] c h = cc
has-some (d ∷ s) c h =
    elim (d == c) as (λ v. (d == c) ≡ v → 0 < (if v then 1 else 0) + times c s) [
      | true ↦ λ t. omega arith
      | false ↦ λ t. let u : has s c ≡ true = grind (arith, nat_tests) in omega (arith, has-some s c u)
    ] refl

times-kept : (c d : ℕ) (v : Bool) (s : List ℕ) → times c (cond (not v) (d ∷ s) s) ≡ cond (not v) (if d == c then 1 else 0) 0 + times c s
times-kept c d true s = omega arith
times-kept c d false s = refl

left_or_not : (b v w : Bool) (x n : ℕ) → (b ≡ true → v ≡ w) → x ≡ (if w then 0 else n) → cond (not v) (if b then 1 else 0) 0 + x ≡ (if w then 0 else (if b then 1 else 0) + n)
left_or_not true true true x n e h = omega (arith, h)
left_or_not true true false x n e h = let q : true ≡ false = e refl in cc
left_or_not true false true x n e h = let q : false ≡ true = e refl in cc
left_or_not true false false x n e h = omega (arith, h)
left_or_not false true true x n e h = omega (arith, h)
left_or_not false true false x n e h = omega (arith, h)
left_or_not false false true x n e h = omega (arith, h)
left_or_not false false false x n e h = omega (arith, h)

-- one that is taken away stands in what is left no more, and another as before
pub times-without : (c : ℕ) (s t : List ℕ) → times c (without s t) ≡ (if has t c then 0 else times c s)
unfolding without
times-without c [] t = elim (has t c) as (λ v. ◌≡◌ {A = ℕ} 0 (if v then 0 else 0)) [ true ↦ refl | false ↦ refl ]
times-without c (d ∷ s) t =
    times-kept c d (has t d) (without s t)
    ∙ left_or_not (d == c) (has t d) (has t c) (times c (without s t)) (times c s) (λ e. let q : d ≡ c = grind (arith, nat_tests) in ap (has t) q) (times-without c s t)

-- ---- how many cards are left

-- the sum of tests for a card of the deck
sum_one : (d n : ℕ) → sum_by (λ c. if d == c then 1 else 0) (deck n) ≡ (if nat_lt d n then 1 else 0)
unfolding deck
sum_one d zero = grind (arith, nat_tests)
sum_one d (suc n) = sum_by_push (λ c. if d == c then 1 else 0) (deck n) n ∙ (ap (λ m. m + (if d == n then 1 else 0)) (sum_one d n) ∙ one_more d n)
  where
    one_more : (d n : ℕ) → (if nat_lt d n then 1 else 0) + (if d == n then 1 else 0) ≡ (if nat_lt d (suc n) then 1 else 0)
    one_more d n = grind (arith, nat_tests)

sum_nothing : (s : List ℕ) → sum_by (λ c. 0) s ≡ 0
sum_nothing [] = refl
sum_nothing (c ∷ s) = omega (arith, sum_by-cons (λ c. 0) c s, sum_nothing s)

sum_times : (n : ℕ) (s : List ℕ) → in_deck n s ≡ true → sum_by (λ c. times c s) (deck n) ≡ length s
sum_times n [] h = sum_nothing (deck n)
sum_times n (d ∷ s) h =
    let p : (d < n) × (in_deck n s ≡ true) = in_deck-cons n d s h in
    let one : ◌≡◌ {A = ℕ} (if nat_lt d n then 1 else 0) 1 = grind (arith, nat_tests, p.0) in
    omega (arith, sum_by-plus (λ c. if d == c then 1 else 0) (λ c. times c s) (deck n), sum_one d n, sum_times n s p.1, one)

-- what is kept, and the sum of what the others count
kept_or_counted : (p : ℕ → Bool) (f : ℕ → ℕ) → ((c : ℕ) → (if p c then 1 else 0) + f c ≡ 1) → (s : List ℕ) → length (filter p s) + sum_by f s ≡ length s
kept_or_counted p f h [] = refl
kept_or_counted p f h (c ∷ s) =
    let one : (if p c then 1 else 0) + f c ≡ 1 = h c in
    let kept : length (cond (p c) (c ∷ filter p s) (filter p s)) ≡ (if p c then 1 else 0) + length (filter p s) =
    elim (p c) as (λ v. length (cond v (c ∷ filter p s) (filter p s)) ≡ (if v then 1 else 0) + length (filter p s)) [ true ↦ omega arith | false ↦ omega arith ] in
    omega (arith, one, kept, sum_by-cons f c s, kept_or_counted p f h s)

in_or_out : (s : List ℕ) (c : ℕ) → times c s ≤ 1 → (if not (has s c) then 1 else 0) + times c s ≡ 1
in_or_out s c once =
    elim (has s c) as (λ v. has s c ≡ v → (if not v then 1 else 0) + times c s ≡ 1) [
      | true ↦ λ t. omega (arith, has-some s c t)
      | false ↦ λ t. omega (arith, has-none s c t)
    ] refl

-- a hand of different cards leaves all others
pub length-without : (n : ℕ) (s : List ℕ) → in_deck n s ≡ true → ((c : ℕ) → times c s ≤ 1) → length (without (deck n) s) + length s ≡ n
unfolding without
length-without n s h once =
    omega (arith, kept_or_counted (λ c. not (has s c)) (λ c. times c s) (λ c. in_or_out s c (once c)) (deck n), sum_times n s h, length-deck n)
