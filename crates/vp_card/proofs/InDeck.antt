-- Cards of a deck, in a list that is made of them.
use Rattle.std.proofs.Common.{◌≡◌, ℕ, ◌<◌, ◌≤◌, Bool, true, false, nat_lt, if◌then◌else◌, List, [], ◌∷◌, ◌++◌, refl, arith}
use Rattle.std.specs.List.{AllByRecursion}
use Rattle.std.specs.List.Sorted.{IsPermutation}
use Rattle.std.proofs.lemmas.Bool.{lt-ltb}
use Rattle.std.proofs.lemmas.Bool.Decides.{nat_tests}
use Rattle.std.proofs.lemmas.List.Sums.{AllPass-from_list_all, list_all-from_AllPass}
use Rattle.std.proofs.lemmas.List.Sorted.{All-permutation}
use Rattle.vp_card.specs.Cards.{in_deck, place, joined, in_order}

pub in_deck-cons : (n c : ℕ) (s : List ℕ) → in_deck n (c ∷ s) ≡ true → (c < n) × (in_deck n s ≡ true)
in_deck-cons n c s h = (grind (arith, nat_tests), grind (arith, nat_tests))

pub in_deck-put : (n c : ℕ) (s : List ℕ) → c < n → in_deck n s ≡ true → in_deck n (c ∷ s) ≡ true
in_deck-put n c s l h = grind (arith, nat_tests)

pub in_deck-append : (n : ℕ) (s t : List ℕ) → in_deck n s ≡ true → in_deck n t ≡ true → in_deck n (s ++ t) ≡ true
in_deck-append n [] t a b = b
in_deck-append n (c ∷ s) t a b =
    let p : (c < n) × (in_deck n s ≡ true) = in_deck-cons n c s a in
    in_deck-put n c (s ++ t) p.0 (in_deck-append n s t p.1 b)

pub in_deck-place : (n c : ℕ) (s : List ℕ) → c < n → in_deck n s ≡ true → in_deck n (place c s) ≡ true
unfolding place
in_deck-place n c [] l h = in_deck-put n c [] l refl
in_deck-place n c (d ∷ s) l h =
    let p : (d < n) × (in_deck n s ≡ true) = in_deck-cons n d s h in
    elim (nat_lt c d) as (λ v. in_deck n (if v then c ∷ d ∷ s else d ∷ place c s) ≡ true) [
      | true ↦ in_deck-put n c (d ∷ s) l h
      | false ↦ in_deck-put n d (place c s) p.0 (in_deck-place n c s l p.1)
    ]

pub in_deck-joined : (n : ℕ) (cards s : List ℕ) → in_deck n cards ≡ true → in_deck n s ≡ true → in_deck n (joined cards s) ≡ true
unfolding joined
in_deck-joined n [] s a b = b
in_deck-joined n (c ∷ cards) s a b =
    let p : (c < n) × (in_deck n cards ≡ true) = in_deck-cons n c cards a in
    in_deck-place n c (joined cards s) p.0 (in_deck-joined n cards s p.1 b)

-- cards of a deck in order are cards of the deck
pub in_deck-in_order : (n : ℕ) (cards : List ℕ) → in_deck n cards ≡ true → in_deck n (in_order cards) ≡ true
unfolding in_order
in_deck-in_order n cards h = in_deck-joined n cards [] h refl

-- cards of a deck stay so when they change places
pub in_deck-IsPermutation : (n : ℕ) (cards sorted : List ℕ) → IsPermutation cards sorted → in_deck n cards ≡ true → in_deck n sorted ≡ true
in_deck-IsPermutation n cards sorted same below =
    let test : ℕ → Bool = λ card. nat_lt card n
    in list_all-from_AllPass test sorted (All-permutation (λ card. test card ≡ true) cards sorted same (AllPass-from_list_all test cards below))

-- so each is below the number of the cards
pub all_below : (n : ℕ) (cards : List ℕ) → in_deck n cards ≡ true → AllByRecursion (λ card. card < n) cards
all_below n [] is = tt
all_below n (card ∷ cards) is =
    let parts = in_deck-cons n card cards is in
    (parts.0, all_below n cards parts.1)

pub below_all : (n : ℕ) (cards : List ℕ) → AllByRecursion (λ card. card < n) cards → in_deck n cards ≡ true
below_all n [] all = refl
below_all n (card ∷ cards) all = rw (lt-ltb card n all.0) (below_all n cards all.1)

pub below_more : (n m : ℕ) (cards : List ℕ) → n ≤ m → AllByRecursion (λ card. card < n) cards → AllByRecursion (λ card. card < m) cards
below_more n m [] most all = tt
below_more n m (card ∷ cards) most all = (omega (arith, all.0), below_more n m cards most all.1)
