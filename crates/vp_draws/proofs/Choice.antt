-- The best of the masks.
use Rattle.std.proofs.Common.{◌≡◌, inl, inr, ℕ, zero, suc, ◌+◌, ◌<◌, ◌≤◌, max, Bool, true, false, cond, ◌==◌, if◌then◌else◌, Some, List, [], ◌∷◌, ◌++◌, find, unwrap_or, refl, ap, ◌∙◌, arith, add-one, below_more, lit<, lit≤}
use Rattle.std.specs.List.{sum_by, count_by}
use Rattle.std.proofs.lemmas.Bool.{cases_lt}
use Rattle.std.proofs.lemmas.Bool.Decides.{nat_tests}
use Rattle.std.proofs.lemmas.List.Sums.{sum_by_push}
use Rattle.vp_card.specs.Cards.{in_deck}
use Rattle.vp_card.specs.Rising.{times}
use Rattle.vp_sets.specs.Sets.{deck}
use Rattle.vp_card.proofs.InDeck.{in_deck-cons}
use Rattle.vp_sets.proofs.Decks.{deck-suc, in_deck-deck, times-deck}
use Rattle.vp_pay.specs.declared.table.PayTable.{PayTable}
use Rattle.vp_draws.specs.Draws.{greatest, masks, value, best, least_best, ties}
use Rattle.vp_draws.specs.declared.best.Best.{Best}

-- b is the best of the masks below n by the values that f gives
pub record IsBestBelow (f : ℕ → ℕ) (n : ℕ) (b : Best) : Type 0 where
  pub hold : b.mask < n
  pub value : b.value ≡ f b.mask
  pub greatest : (mask : ℕ) → mask < n → f mask ≤ b.value
  pub least : (mask : ℕ) → mask < b.mask → f mask < b.value
  pub ties : b.ties ≡ count_by (λ mask. f mask == b.value) (deck n)
  pub few : b.ties ≤ n

count_push : (f : ℕ → ℕ) (v n : ℕ) → count_by (λ mask. f mask == v) (deck (n + 1)) ≡ count_by (λ mask. f mask == v) (deck n) + (if f n == v then 1 else 0)
count_push f v n = rw (add-one, deck-suc) (sum_by_push (λ mask. cond (f mask == v) 1 0) (deck n) n)

count_nothing : (f : ℕ → ℕ) (v n : ℕ) → ((mask : ℕ) → mask < n → f mask < v) → count_by (λ mask. f mask == v) (deck n) ≡ 0
unfolding deck
count_nothing f v zero h = refl
count_nothing f v (suc n) h =
    let t : (f n == v) ≡ false = grind (arith, nat_tests, h n (omega arith)) in
    let c : count_by (λ mask. f mask == v) (deck (n + 1)) ≡ count_by (λ mask. f mask == v) (deck n) + (if false then 1 else 0) = rw t at (count_push f v n) in
    let d : count_by (λ mask. f mask == v) (deck (suc n)) ≡ count_by (λ mask. f mask == v) (deck n) + 0 = rw add-one at c in
    omega (arith, d, count_nothing f v n (λ mask l. h mask (omega arith)))

-- one more mask
pub best_more : (f : ℕ → ℕ) (n v : ℕ) (b new : Best) → IsBestBelow f n b → v ≡ f n
    → (b.value < v → new ≡ record { mask = n; value = v; ties = 1 }) → (b.value ≡ v → new ≡ record b { ties = b.ties + 1 }) → (v < b.value → new ≡ b)
    → IsBestBelow f (n + 1) new
best_more f n v b new h e more same less =
    elim (cases_lt b.value v) [
      | inl l ↦ rw (more l) (greater l)
      | inr l ↦ elim (cases_lt v b.value) [
        | inl m ↦
            let t : (f n == b.value) ≡ false = grind (arith, nat_tests) in
            rw (less m) (stays b.ties (omega arith) (rw t (omega arith)))
        | inr m ↦
            let q : b.value ≡ v = omega arith in
            let t : (f n == b.value) ≡ true = grind (arith, nat_tests) in
            rw (same q) (stays (b.ties + 1) (omega arith) (rw t (omega arith)))
      ]
    ]
  where
    greater : b.value < v → IsBestBelow f (n + 1) (record { mask = n; value = v; ties = 1 })
    greater l =
        let below : (mask : ℕ) → mask < n → f mask < v = λ mask m. omega (arith, h.greatest mask m) in
        let t : (f n == v) ≡ true = grind (arith, nat_tests) in
        let c : count_by (λ mask. f mask == v) (deck (n + 1)) ≡ count_by (λ mask. f mask == v) (deck n) + (if true then 1 else 0) = rw t at (count_push f v n) in
        record {
          hold = omega arith;
          value = e;
          greatest = below_more (λ mask. f mask ≤ v) n (λ mask m. omega (arith, below mask m)) (omega arith);
          least = below;
          ties = omega (arith, c, count_nothing f v n below);
          few = omega arith;
        }

    at_most_one : (t : Bool) → (if t then 1 else 0) ≤ 1
    at_most_one true = lit≤ tt
    at_most_one false = lit≤ tt

    -- a mask that is worth no more leaves the best mask, with one more tie where it is worth the same
    stays : (count : ℕ) → v ≤ b.value → count ≡ b.ties + (if f n == b.value then 1 else 0) → IsBestBelow f (n + 1) (record b { ties = count })
    stays count l is = record {
      hold = omega (arith, h.hold);
      value = h.value;
      greatest = below_more (λ mask. f mask ≤ b.value) n h.greatest (omega arith);
      least = h.least;
      ties = omega (arith, count_push f b.value n, h.ties, is);
      few = omega (arith, h.few, is, at_most_one (f n == b.value));
    }

-- the mask 0 alone
pub best_first : (f : ℕ → ℕ) (v : ℕ) → v ≡ f 0 → IsBestBelow f 1 (record { mask = 0; value = v; ties = 1 })
best_first f v e =
    let t : (f 0 == v) ≡ true = grind (arith, nat_tests) in
    let c : count_by (λ mask. f mask == v) (deck (0 + 1)) ≡ count_by (λ mask. f mask == v) (deck 0) + (if true then 1 else 0) = rw t at (count_push f v 0) in
    record {
      hold = lit< tt;
      value = e;
      greatest = λ mask m. let z : mask ≡ 0 = omega arith in rw z (omega arith);
      least = λ mask m. absurd (omega arith);
      ties = omega (arith, c, count_nothing f v 0 (λ mask m. absurd (omega arith)));
      few = lit≤ tt;
    }

-- ---- the definitions

greatest_le : (f : ℕ → ℕ) (v n : ℕ) → ((mask : ℕ) → mask < n → f mask ≤ v) → (s : List ℕ) → in_deck n s ≡ true → greatest f s ≤ v
unfolding greatest
greatest_le f v n h [] d = omega arith
greatest_le f v n h (c ∷ s) d =
    let p : (c < n) × (in_deck n s ≡ true) = in_deck-cons n c s d in
    omega (arith, h c p.0, greatest_le f v n h s p.1)

le_greatest : (f : ℕ → ℕ) (c : ℕ) (s : List ℕ) → 0 < times c s → f c ≤ greatest f s
unfolding greatest
le_greatest f c [] h = absurd (omega arith)
le_greatest f c (d ∷ s) h =
    elim (d == c) as (λ v. (d == c) ≡ v → f c ≤ max (f d) (greatest f s)) [
      | true ↦ λ t. let q : d ≡ c = grind (arith, nat_tests) in rw q (omega arith)
      | false ↦ λ t. let z : 0 < (if false then 1 else 0) + times c s = rw t at h in omega (arith, le_greatest f c s (omega arith))
    ] refl

-- the greatest value is that of the best mask
pub greatest_is : (f : ℕ → ℕ) (n : ℕ) (b : Best) → IsBestBelow f n b → b.value ≡ greatest f (deck n)
greatest_is f n b h =
    let one : times b.mask (deck n) ≡ 1 = times-deck n b.mask h.hold in
    omega (arith, greatest_le f b.value n h.greatest (deck n) (in_deck-deck n), le_greatest f b.mask (deck n) (omega arith), h.value)

find_none : (p : ℕ → Bool) (n : ℕ) → ((c : ℕ) → c < n → p c ≡ false) → (s t : List ℕ) → in_deck n s ≡ true → find p (s ++ t) ≡ find p t
find_none p n h [] t d = refl
find_none p n h (c ∷ s) t d =
    let q : (c < n) × (in_deck n s ≡ true) = in_deck-cons n c s d in
    rw (h c q.0) (find_none p n h s t q.1)

find_front : (p : ℕ → Bool) (r : ℕ) (s t : List ℕ) → find p s ≡ Some r → find p (s ++ t) ≡ Some r
find_front p r [] t h = cc
find_front p r (c ∷ s) t h =
    elim (p c) as (λ v. cond v (Some c) (find p s) ≡ Some r → cond v (Some c) (find p (s ++ t)) ≡ Some r) [
      | true ↦ λ q. q
      | false ↦ λ q. find_front p r s t q
    ] h

-- the first of the numbers below n that passes
find_first : (p : ℕ → Bool) (r n : ℕ) → r < n → p r ≡ true → ((c : ℕ) → c < r → p c ≡ false) → find p (deck n) ≡ Some r
find_first p r zero l t h = absurd (omega arith)
find_first p r (suc n) l t h =
    elim (cases_lt r n) [
      | inl m ↦ rw (deck-suc n) (find_front p r (deck n) (n ∷ []) (find_first p r n m t h))
      | inr m ↦
          let q : r ≡ n = omega arith in
          let u : p n ≡ true = rw q at t in
          let k : (c : ℕ) → c < n → p c ≡ false = λ c s. h c (omega arith) in
          rw (deck-suc n, q) (find_none p n k (deck n) (n ∷ []) (in_deck-deck n) ∙ (rw u))
    ]

-- the least mask that has the greatest value
pub least_is : (f : ℕ → ℕ) (n : ℕ) (b : Best) → IsBestBelow f n b → b.mask ≡ unwrap_or (find (λ mask. f mask == greatest f (deck n)) (deck n)) 0
least_is f n b h =
    let g : b.value ≡ greatest f (deck n) = greatest_is f n b h in
    let t : (f b.mask == b.value) ≡ true = grind (arith, nat_tests, h.value) in
    let first : find (λ mask. f mask == b.value) (deck n) ≡ Some b.mask =
    find_first (λ mask. f mask == b.value) b.mask n h.hold t (λ c l. grind (arith, nat_tests, h.least c l)) in
    rw (← g, first)

-- how many masks have it
pub ties_are : (f : ℕ → ℕ) (n : ℕ) (b : Best) → IsBestBelow f n b → b.ties ≡ count_by (λ mask. f mask == greatest f (deck n)) (deck n)
ties_are f n b h = rw (← greatest_is f n b h) h.ties

-- ---- sums over the masks

pub sum_none : (f : ℕ → ℕ) → sum_by f (deck 0) ≡ 0
unfolding deck
sum_none f = refl

pub sum_more : (f : ℕ → ℕ) (n : ℕ) → sum_by f (deck (n + 1)) ≡ sum_by f (deck n) + f n
sum_more f n = rw (add-one, deck-suc) (sum_by_push f (deck n) n)

-- ---- functions that give the same values

counts_agree : (f g : ℕ → ℕ) (v n : ℕ) → ((mask : ℕ) → mask < n → f mask ≡ g mask) → count_by (λ mask. f mask == v) (deck n) ≡ count_by (λ mask. g mask == v) (deck n)
unfolding deck
counts_agree f g v zero h = refl
counts_agree f g v (suc n) h =
    let a : count_by (λ mask. f mask == v) (deck (suc n)) ≡ count_by (λ mask. f mask == v) (deck n) + (if f n == v then 1 else 0) = rw add-one at (count_push f v n) in
    let b : count_by (λ mask. g mask == v) (deck (suc n)) ≡ count_by (λ mask. g mask == v) (deck n) + (if g n == v then 1 else 0) = rw add-one at (count_push g v n) in
    let e : (if f n == v then 1 else 0) ≡ (if g n == v then 1 else 0) = ap (λ (m : ℕ). cond {A = ℕ} (m == v) 1 0) (h n (omega arith)) in
    omega (arith, a, b, e, counts_agree f g v n (λ mask l. h mask (omega arith)))

pub best_agree : (f g : ℕ → ℕ) (n : ℕ) (b : Best) → ((mask : ℕ) → mask < n → f mask ≡ g mask) → IsBestBelow f n b → IsBestBelow g n b
best_agree f g n b same h = record {
  hold = h.hold;
  value = h.value ∙ same b.mask h.hold;
  greatest = λ mask l. omega (arith, h.greatest mask l, same mask l);
  least = λ mask l. omega (arith, h.least mask l, same mask (omega (arith, h.hold)));
  ties = h.ties ∙ counts_agree f g b.value n same;
  few = h.few;
}

-- ---- the values of a table, where all 32 masks were compared

pub masks_are : deck 32 ≡ masks
unfolding masks deck
masks_are = refl

pub is_best : (table : PayTable) (coin : ℕ) (hand : List ℕ) (n : ℕ) (b : Best) → n ≡ 32 → IsBestBelow (value table coin hand) n b → b.value ≡ best table coin hand
unfolding best
is_best table coin hand n b all h = rw (← masks_are, ← all) (greatest_is (value table coin hand) n b h)

pub is_least_best : (table : PayTable) (coin : ℕ) (hand : List ℕ) (n : ℕ) (b : Best) → n ≡ 32 → IsBestBelow (value table coin hand) n b → b.mask ≡ least_best table coin hand
unfolding least_best best
is_least_best table coin hand n b all h = rw (← masks_are, ← all) (least_is (value table coin hand) n b h)

pub has_ties : (table : PayTable) (coin : ℕ) (hand : List ℕ) (n : ℕ) (b : Best) → n ≡ 32 → IsBestBelow (value table coin hand) n b → b.ties ≡ ties table coin hand
unfolding ties best
has_ties table coin hand n b all h = rw (← masks_are, ← all) (ties_are (value table coin hand) n b h)
