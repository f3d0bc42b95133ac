-- The 24 permutations of the suits: a table, joined permutations and the ways back.
use Rattle.std.proofs.Common.{◌≡◌, inl, inr, ℕ, zero, suc, ◌+◌, ◌^◌, ◌<◌, ◌≤◌, Bool, true, ◌&&◌, ◌==◌, nat_lt, List, [], ◌∷◌, get_or, refl, ap, sym, ◌∙◌, arith}
use Rattle.std.specs.List.{list_all, position_or_len}
use Rattle.std.proofs.lemmas.Bool.{cases_eq, eqb-true, ltb-true, and_parts}
use Rattle.vp_sets.specs.Sets.{deck, without, has}
use Rattle.vp_suit.specs.Turns.{arrangements, turned_suit}

-- the table of the permutations
abbrev pub table : List (List ℕ)
table = (0 ∷ 1 ∷ 2 ∷ 3 ∷ []) ∷ (0 ∷ 1 ∷ 3 ∷ 2 ∷ []) ∷ (0 ∷ 2 ∷ 1 ∷ 3 ∷ []) ∷ (0 ∷ 2 ∷ 3 ∷ 1 ∷ []) ∷ (0 ∷ 3 ∷ 1 ∷ 2 ∷ []) ∷ (0 ∷ 3 ∷ 2 ∷ 1 ∷ [])
    ∷ (1 ∷ 0 ∷ 2 ∷ 3 ∷ []) ∷ (1 ∷ 0 ∷ 3 ∷ 2 ∷ []) ∷ (1 ∷ 2 ∷ 0 ∷ 3 ∷ []) ∷ (1 ∷ 2 ∷ 3 ∷ 0 ∷ []) ∷ (1 ∷ 3 ∷ 0 ∷ 2 ∷ []) ∷ (1 ∷ 3 ∷ 2 ∷ 0 ∷ [])
    ∷ (2 ∷ 0 ∷ 1 ∷ 3 ∷ []) ∷ (2 ∷ 0 ∷ 3 ∷ 1 ∷ []) ∷ (2 ∷ 1 ∷ 0 ∷ 3 ∷ []) ∷ (2 ∷ 1 ∷ 3 ∷ 0 ∷ []) ∷ (2 ∷ 3 ∷ 0 ∷ 1 ∷ []) ∷ (2 ∷ 3 ∷ 1 ∷ 0 ∷ [])
    ∷ (3 ∷ 0 ∷ 1 ∷ 2 ∷ []) ∷ (3 ∷ 0 ∷ 2 ∷ 1 ∷ []) ∷ (3 ∷ 1 ∷ 0 ∷ 2 ∷ []) ∷ (3 ∷ 1 ∷ 2 ∷ 0 ∷ []) ∷ (3 ∷ 2 ∷ 0 ∷ 1 ∷ []) ∷ (3 ∷ 2 ∷ 1 ∷ 0 ∷ []) ∷ []

pub table_is : arrangements 4 (deck 4) ≡ table
unfolding arrangements deck without has
table_is = refl

-- the suit that turn t makes of suit s
pub at : ℕ → ℕ → ℕ
at t s = get_or (get_or table t []) s 0

-- the turn that is t, and then s
pub product : ℕ → ℕ → ℕ
product s t = position_or_len (λ row. list_all (λ x. get_or row x 0 == at s (at t x)) (0 ∷ 1 ∷ 2 ∷ 3 ∷ [])) table

-- the turn that turns back
pub inverse : ℕ → ℕ
inverse t = position_or_len (λ row. list_all (λ x. get_or row (at t x) 0 == x) (0 ∷ 1 ∷ 2 ∷ 3 ∷ [])) table

-- all numbers below n pass
pub every : (ℕ → Bool) → ℕ → Bool
every p zero = true
every p (suc n) = every p n && p n

pub every_at : (p : ℕ → Bool) (n k : ℕ) → every p n ≡ true → k < n → p k ≡ true
unfolding every
every_at p zero k h l = absurd (omega arith)
every_at p (suc n) k h l =
    let two = and_parts _ _ h in
    elim (cases_eq k n) [ inl s ↦ ap p s ∙ two.1 | inr d ↦ every_at p n k two.0 (omega arith) ]

suits_test : ℕ → Bool
suits_test t = every (λ x. nat_lt (at t x) 4) 4

joined_test : ℕ → ℕ → Bool
joined_test s t = nat_lt (product s t) 24 && every (λ x. at s (at t x) == at (product s t) x) 4

back_test : ℕ → Bool
back_test t = nat_lt (inverse t) 24 && every (λ x. (at (inverse t) (at t x) == x) && (at t (at (inverse t) x) == x)) 4

all_suits : every suits_test 24 ≡ true
unfolding every suits_test at
all_suits = refl

all_joined : every (λ s. every (λ t. joined_test s t) 24) 24 ≡ true
unfolding every joined_test product at
all_joined = refl

all_back : every back_test 24 ≡ true
unfolding every back_test inverse at
all_back = refl

pub is_at : (t s : ℕ) → turned_suit t s ≡ at t s
unfolding turned_suit at
is_at t s = ap (λ rows. get_or (get_or rows t []) s 0) table_is

-- the table's entry is the turned suit
pub suit_read : (t s i j : ℕ) → i ≡ t → j ≡ s → get_or (get_or table i []) j 0 ≡ turned_suit t s
unfolding at
suit_read t s i j e f = rw (e, f) (sym (is_at t s))

-- suits turn into suits
pub suit_small : (t s : ℕ) → t < 24 → s < 4 → turned_suit t s < 4
unfolding suits_test
suit_small t s l k = rw (is_at t s) (ltb-true (at t s) 4 (every_at (λ x. nat_lt (at t x) 4) 4 s (every_at suits_test 24 t all_suits l) k))

pub product_inside : (s t : ℕ) → s < 24 → t < 24 → product s t < 24
unfolding joined_test
product_inside s t l k = ltb-true (product s t) 24 (and_parts _ _ (every_at (λ t'. joined_test s t') 24 t (every_at (λ s'. every (λ t'. joined_test s' t') 24) 24 s all_joined l) k)).0

-- two turns of a suit are one
pub suit_joined : (s t x : ℕ) → s < 24 → t < 24 → x < 4 → turned_suit s (turned_suit t x) ≡ turned_suit (product s t) x
unfolding joined_test
suit_joined s t x l k j =
    let test : every (λ y. at s (at t y) == at (product s t) y) 4 ≡ true =
    (and_parts _ _ (every_at (λ t'. joined_test s t') 24 t (every_at (λ s'. every (λ t'. joined_test s' t') 24) 24 s all_joined l) k)).1 in
    rw (is_at t x, is_at s (at t x), is_at (product s t) x) (eqb-true _ _ (every_at (λ y. at s (at t y) == at (product s t) y) 4 x test j))

pub inverse_inside : (t : ℕ) → t < 24 → inverse t < 24
unfolding back_test
inverse_inside t l = ltb-true (inverse t) 24 (and_parts _ _ (every_at back_test 24 t all_back l)).0

back_at : (t x : ℕ) → t < 24 → x < 4 → (at (inverse t) (at t x) ≡ x) × (at t (at (inverse t) x) ≡ x)
unfolding back_test
back_at t x l j =
    let test : every (λ y. (at (inverse t) (at t y) == y) && (at t (at (inverse t) y) == y)) 4 ≡ true = (and_parts _ _ (every_at back_test 24 t all_back l)).1 in
    let two = and_parts _ _ (every_at (λ y. (at (inverse t) (at t y) == y) && (at t (at (inverse t) y) == y)) 4 x test j) in
    (eqb-true _ _ two.0, eqb-true _ _ two.1)

-- a suit is turned back, and the other way round
pub suit_back : (t x : ℕ) → t < 24 → x < 4 → turned_suit (inverse t) (turned_suit t x) ≡ x
suit_back t x l j = rw (is_at t x, is_at (inverse t) (at t x)) (back_at t x l j).0

pub suit_forth : (t x : ℕ) → t < 24 → x < 4 → turned_suit t (turned_suit (inverse t) x) ≡ x
suit_forth t x l j = rw (is_at (inverse t) x, is_at t (at (inverse t) x)) (back_at t x l j).1

first_test : every (λ y. at 0 y == y) 4 ≡ true
unfolding every at
first_test = refl

-- the first turn changes nothing
pub suit_first : (x : ℕ) → x < 4 → turned_suit 0 x ≡ x
suit_first x j = rw (is_at 0 x) (eqb-true (at 0 x) x (every_at (λ y. at 0 y == y) 4 x first_test j))

-- ---- powers of 2 of the turned suits

powers_test : ℕ → Bool
powers_test t = (2 ^ at t 0 + 2 ^ at t 1 + 2 ^ at t 2 + 2 ^ at t 3 == 15) && nat_lt 6 (2 ^ at t 0 + 2 ^ at t 1 + 2 ^ at t 2) && nat_lt 2 (2 ^ at t 0 + 2 ^ at t 1) && nat_lt 0 (2 ^ at t 0)

all_powers : every powers_test 24 ≡ true
unfolding every powers_test at
all_powers = refl

-- the first suits of any turn count at least what they do unturned, and all suits the same
pub record Powers (a b c d : ℕ) : Type 0 where
  pub four : a + b + c + d ≡ 15
  pub three : 7 ≤ a + b + c
  pub two : 3 ≤ a + b
  pub one : 1 ≤ a

pub powers : (t : ℕ) → t < 24 → Powers (2 ^ turned_suit t 0) (2 ^ turned_suit t 1) (2 ^ turned_suit t 2) (2 ^ turned_suit t 3)
unfolding powers_test
powers t l =
    let p = and_parts _ _ (every_at powers_test 24 t all_powers l) in
    let q = and_parts _ _ p.0 in
    let r = and_parts _ _ q.0 in
    let a : 2 ^ at t 0 + 2 ^ at t 1 + 2 ^ at t 2 + 2 ^ at t 3 ≡ 15 = eqb-true _ _ r.0 in
    let b : 6 < 2 ^ at t 0 + 2 ^ at t 1 + 2 ^ at t 2 = ltb-true _ _ r.1 in
    let c : 2 < 2 ^ at t 0 + 2 ^ at t 1 = ltb-true _ _ q.1 in
    let d : 0 < 2 ^ at t 0 = ltb-true _ _ p.1 in
    rw (is_at t 0, is_at t 1, is_at t 2, is_at t 3) (record { four = a; three = omega arith; two = omega arith; one = omega arith })

-- a turn by what it makes of each suit
pub record Turns (t p q r s : ℕ) : Type 0 where
  pub clubs : turned_suit t 0 ≡ p
  pub diamonds : turned_suit t 1 ≡ q
  pub hearts : turned_suit t 2 ≡ r
  pub spades : turned_suit t 3 ≡ s

turns_so : (t : ℕ) → Turns t (at t 0) (at t 1) (at t 2) (at t 3)
turns_so t = record { clubs = is_at t 0; diamonds = is_at t 1; hearts = is_at t 2; spades = is_at t 3 }

pub unturned : Turns 0 0 1 2 3
unfolding at
unturned = turns_so 0

-- the turns that exchange two neighbours
pub last_exchanged : Turns 1 0 1 3 2
unfolding at
last_exchanged = turns_so 1

pub middle_exchanged : Turns 2 0 2 1 3
unfolding at
middle_exchanged = turns_so 2

pub first_exchanged : Turns 6 1 0 2 3
unfolding at
first_exchanged = turns_so 6

-- for each turn, the suits that become clubs, diamonds, hearts and spades
abbrev pub origins : List (List ℕ)
origins = (0 ∷ 1 ∷ 2 ∷ 3 ∷ []) ∷ (0 ∷ 1 ∷ 3 ∷ 2 ∷ []) ∷ (0 ∷ 2 ∷ 1 ∷ 3 ∷ []) ∷ (0 ∷ 3 ∷ 1 ∷ 2 ∷ []) ∷ (0 ∷ 2 ∷ 3 ∷ 1 ∷ []) ∷ (0 ∷ 3 ∷ 2 ∷ 1 ∷ [])
    ∷ (1 ∷ 0 ∷ 2 ∷ 3 ∷ []) ∷ (1 ∷ 0 ∷ 3 ∷ 2 ∷ []) ∷ (2 ∷ 0 ∷ 1 ∷ 3 ∷ []) ∷ (3 ∷ 0 ∷ 1 ∷ 2 ∷ []) ∷ (2 ∷ 0 ∷ 3 ∷ 1 ∷ []) ∷ (3 ∷ 0 ∷ 2 ∷ 1 ∷ [])
    ∷ (1 ∷ 2 ∷ 0 ∷ 3 ∷ []) ∷ (1 ∷ 3 ∷ 0 ∷ 2 ∷ []) ∷ (2 ∷ 1 ∷ 0 ∷ 3 ∷ []) ∷ (3 ∷ 1 ∷ 0 ∷ 2 ∷ []) ∷ (2 ∷ 3 ∷ 0 ∷ 1 ∷ []) ∷ (3 ∷ 2 ∷ 0 ∷ 1 ∷ [])
    ∷ (1 ∷ 2 ∷ 3 ∷ 0 ∷ []) ∷ (1 ∷ 3 ∷ 2 ∷ 0 ∷ []) ∷ (2 ∷ 1 ∷ 3 ∷ 0 ∷ []) ∷ (3 ∷ 1 ∷ 2 ∷ 0 ∷ []) ∷ (2 ∷ 3 ∷ 1 ∷ 0 ∷ []) ∷ (3 ∷ 2 ∷ 1 ∷ 0 ∷ []) ∷ []

-- the suit that turn t makes into suit y
abbrev pub origin : ℕ → ℕ → ℕ
origin t y = get_or (get_or origins t []) y 0

origin_test : ℕ → Bool
origin_test t = every (λ y. nat_lt (origin t y) 4 && (at t (origin t y) == y)) 4

all_origins : every origin_test 24 ≡ true
unfolding every origin_test at
all_origins = refl

pub origin_is : (t y : ℕ) → t < 24 → y < 4 → (origin t y < 4) × (turned_suit t (origin t y) ≡ y)
unfolding origin_test
origin_is t y l k =
    let p = and_parts _ _ (every_at (λ x. nat_lt (origin t x) 4 && (at t (origin t x) == x)) 4 y (every_at origin_test 24 t all_origins l) k) in
    (ltb-true _ _ p.0, is_at t (origin t y) ∙ eqb-true _ _ p.1)
