-- Masks that are carried along with a turned deal.
use Rattle.std.proofs.Common.{◌≡◌, inl, inr, ℕ, zero, suc, ◌+◌, ◌^◌, ◌*◌, ◌/◌, ◌%◌, ◌<◌, ◌≤◌, true, false, cond, not, ◌==◌, ltb, List, [], ◌∷◌, length, map, filter, refl, ap, sym, ◌∙◌, arith, zero-add}
use Rattle.std.specs.List.{list_any}
use Rattle.std.proofs.lemmas.Bool.{cases_eq, eq-eqb, ne_eqb, lt-ltb}
use Rattle.std.proofs.lemmas.Bool.Decides.{nat_tests}
use Rattle.vp_card.specs.Cards.{held}
use Rattle.vp_card.specs.Rising.{times, IsBelow, IsRising}
use Rattle.vp_sets.specs.Sets.{has}
use Rattle.vp_sets.specs.Draws.{discarded, mask_of}
use Rattle.vp_card.proofs.Rising.{rising_same, times-rising}
use Rattle.vp_sets.proofs.Masks.{discarded_of, held_of, mask_small, rising-filter, times-filter}
use Rattle.vp_suit.specs.Turns.{turned, turn, carried}
use Rattle.vp_suit.proofs.Group.{inverse}
use Rattle.vp_suit.proofs.Cards.{times-mapped, times-turn, turn-rising, turn-length}

-- a member stands in the list at least once
pub has_is : (s : List ℕ) (c : ℕ) → has s c ≡ ltb 0 (times c s)
unfolding has
has_is [] c = refl
has_is (d ∷ s) c = elim (cases_eq d c) [
  | inl e ↦ rw (eq-eqb d c e) (grind (arith, nat_tests))
  | inr e ↦ rw (ne_eqb d c e, zero-add) (has_is s c)
]

pub has_same : (s t : List ℕ) (c : ℕ) → times c s ≡ times c t → has s c ≡ has t c
has_same s t c e = has_is s c ∙ ap (λ n. ltb 0 n) e ∙ sym (has_is t c)

pub has-mapped : (f : ℕ → ℕ) (s : List ℕ) (c : ℕ) → has (map f s) c ≡ list_any (λ d. f d == c) s
unfolding has
has-mapped f [] c = refl
has-mapped f (d ∷ s) c = rw (has-mapped f s c) refl

-- the same cards have the same mask
pub mask_same : (a b cards : List ℕ) → ((c : ℕ) → has a c ≡ has b c) → mask_of a cards ≡ mask_of b cards
unfolding mask_of
mask_same a b [] h = refl
mask_same a b (c ∷ cards) h = rw (h c, mask_same a b cards h) refl

-- ---- what is left of a rising list rises

below-held : (m c : ℕ) (s : List ℕ) → IsBelow c s → IsBelow c (held m s) × IsBelow c (discarded m s)
unfolding discarded
below-held m c [] b = (tt, tt)
below-held m c (d ∷ s) b =
    let rest = below-held (m / 2) c s b.1 in
    elim (m % 2 == 1) as (λ v. IsBelow c (cond v (d ∷ held (m / 2) s) (held (m / 2) s)) × IsBelow c (cond v (discarded (m / 2) s) (d ∷ discarded (m / 2) s))) [
      | true ↦ ((b.0, rest.0), rest.1)
      | false ↦ (rest.0, (b.0, rest.1))
    ]

pub rising-held : (m : ℕ) (s : List ℕ) → IsRising s → IsRising (held m s) × IsRising (discarded m s)
unfolding discarded
rising-held m [] r = (tt, tt)
rising-held m (d ∷ s) r =
    let first = below-held (m / 2) d s r.0 in
    let rest = rising-held (m / 2) s r.1 in
    elim (m % 2 == 1) as (λ v. IsRising (cond v (d ∷ held (m / 2) s) (held (m / 2) s)) × IsRising (cond v (discarded (m / 2) s) (d ∷ discarded (m / 2) s))) [
      | true ↦ ((first.0, rest.0), rest.1)
      | false ↦ (rest.0, (first.1, rest.1))
    ]

-- each card is held or discarded
pub times-held : (m x : ℕ) (s : List ℕ) → times x (held m s) + times x (discarded m s) ≡ times x s
unfolding discarded
times-held m x [] = refl
times-held m x (d ∷ s) =
    let rest : times x (held (m / 2) s) + times x (discarded (m / 2) s) ≡ times x s = times-held (m / 2) x s in
    elim (m % 2 == 1) as (λ v. times x (cond v (d ∷ held (m / 2) s) (held (m / 2) s)) + times x (cond v (discarded (m / 2) s) (d ∷ discarded (m / 2) s)) ≡ times x (d ∷ s)) [
      | true ↦ omega arith
      | false ↦ omega arith
    ]

few : (a b n : ℕ) → a + b ≡ n → n ≤ 1 → (cond (ltb 0 a) n 0 ≡ a) × (cond (not (ltb 0 a)) n 0 ≡ b)
few zero b n e l =
    (refl, omega arith)
few (suc a) b n e l =
    let test : ltb 0 (suc a) ≡ true = lt-ltb 0 (suc a) (omega arith) in
    rw test (omega arith, omega arith)

-- what the carried mask holds and discards of the turned deal
pub held_carried : (t m : ℕ) (cards : List ℕ) → t < 24 → IsRising cards → held (carried t cards m) (turn t cards) ≡ turn t (held m cards)
unfolding carried
held_carried t m cards l rising =
    let keeps : List ℕ = turn t (held m cards) in
    held_of keeps (turn t cards) ∙ rising_same (filter (λ c. has keeps c) (turn t cards)) keeps (rising-filter (λ c. has keeps c) (turn t cards) (turn-rising t cards l rising)) (turn-rising t (held m cards) l (rising-held m cards rising).0) (λ x.
    let a : times x (filter (λ c. has keeps c) (turn t cards)) ≡ cond (has keeps x) (times x (turn t cards)) 0 = times-filter (λ c. has keeps c) x (turn t cards) in
    let b : times x (turn t cards) ≡ times (turned (inverse t) x) cards = times-turn t cards x l in
    let d : times x keeps ≡ times (turned (inverse t) x) (held m cards) = times-turn t (held m cards) x l in
    let e : has keeps x ≡ ltb 0 (times x keeps) = has_is keeps x in
    let f = few (times (turned (inverse t) x) (held m cards)) (times (turned (inverse t) x) (discarded m cards)) (times (turned (inverse t) x) cards) (times-held m (turned (inverse t) x) cards) (times-rising (turned (inverse t) x) cards rising) in
    a ∙ (rw (e, b, d) f.0))

pub discarded_carried : (t m : ℕ) (cards : List ℕ) → t < 24 → IsRising cards → discarded (carried t cards m) (turn t cards) ≡ turn t (discarded m cards)
unfolding carried
discarded_carried t m cards l rising =
    let keeps : List ℕ = turn t (held m cards) in
    let rest : List ℕ = turn t (discarded m cards) in
    discarded_of keeps (turn t cards) ∙ rising_same (filter (λ c. not (has keeps c)) (turn t cards)) rest (rising-filter (λ c. not (has keeps c)) (turn t cards) (turn-rising t cards l rising)) (turn-rising t (discarded m cards) l (rising-held m cards rising).1) (λ x.
    let a : times x (filter (λ c. not (has keeps c)) (turn t cards)) ≡ cond (not (has keeps x)) (times x (turn t cards)) 0 = times-filter (λ c. not (has keeps c)) x (turn t cards) in
    let b : times x (turn t cards) ≡ times (turned (inverse t) x) cards = times-turn t cards x l in
    let d : times x keeps ≡ times (turned (inverse t) x) (held m cards) = times-turn t (held m cards) x l in
    let d' : times x rest ≡ times (turned (inverse t) x) (discarded m cards) = times-turn t (discarded m cards) x l in
    let e : has keeps x ≡ ltb 0 (times x keeps) = has_is keeps x in
    let f = few (times (turned (inverse t) x) (held m cards)) (times (turned (inverse t) x) (discarded m cards)) (times (turned (inverse t) x) cards) (times-held m (turned (inverse t) x) cards) (times-rising (turned (inverse t) x) cards rising) in
    a ∙ (rw (e, b, d, d') f.1))

-- the mask may be made from the turned cards as they come
pub carried_is : (t m : ℕ) (cards : List ℕ) → t < 24 → mask_of (map (λ card. turned t card) (held m cards)) (turn t cards) ≡ carried t cards m
unfolding carried
carried_is t m cards l =
    mask_same (map (λ card. turned t card) (held m cards)) (turn t (held m cards)) (turn t cards) (λ c. has_same (map (λ card. turned t card) (held m cards)) (turn t (held m cards)) c (times-mapped t (held m cards) c l ∙ sym (times-turn t (held m cards) c l)))

pub mask_five : (kept : List ℕ) (a b c d e : ℕ) → mask_of kept (a ∷ b ∷ c ∷ d ∷ e ∷ []) ≡ cond (has kept a) 1 0 + 2 * cond (has kept b) 1 0 + 4 * cond (has kept c) 1 0 + 8 * cond (has kept d) 1 0 + 16 * cond (has kept e) 1 0
unfolding mask_of
mask_five kept a b c d e = omega arith

pub carried_small : (t m : ℕ) (cards : List ℕ) → length cards ≡ 5 → carried t cards m < 32
unfolding carried
carried_small t m cards five =
    let small : mask_of (turn t (held m cards)) (turn t cards) < 2 ^ length (turn t cards) = mask_small (turn t (held m cards)) (turn t cards) in
    let e : 2 ^ length (turn t cards) ≡ 2 ^ 5 = ap (λ k. 2 ^ k) (turn-length t cards ∙ five) in
    omega arith
