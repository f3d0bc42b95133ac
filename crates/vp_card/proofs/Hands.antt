-- Hands, and what a mask holds of them.
use Rattle.std.proofs.Common.{◌≡◌, ℕ, ◌+◌, ◌/◌, ◌%◌, ◌<◌, ◌≤◌, Bool, true, false, cond, ◌==◌, eqb, List, [], ◌∷◌, ◌++◌, length, get_or, drop, refl, ap, sym, ◌∙◌, arith, append_assoc, subst, Some, None}
use Rattle.std.proofs.lemmas.Bool.Decides.{nat_tests}
use Rattle.std.specs.List.{IsDistinct}
use Rattle.std.specs.List.Sorted.{IsPermutation, IsSorted, IsStrictlyIncreasing}
use Rattle.std.specs.Ordering.{nat_cmp}
use Rattle.std.proofs.lemmas.List.Sorted.{IsNonDecreasingBy-from_sort, IsPermutation-sym}
use Rattle.std.proofs.lemmas.Map.Keys.{IsDistinct-IsPermutation, IsDistinct-from_apart, IsStrictlyIncreasing-from_distinct, sorted_from_strictly_increasing, below_from_sorted}
use Rattle.std.proofs.lemmas.List.{drop_more, drop_all, append-nil}
use Rattle.vp_card.specs.Cards.{IsHand, in_deck, held, all_differ, in_order}
use Rattle.vp_card.proofs.Differ.{differ-distinct, distinct-differ}
use Rattle.vp_card.proofs.InDeck.{in_deck-IsPermutation}
use Rattle.vp_card.proofs.Rising.{rising-in_order}

-- what is held from place i on
pub held_more : (mask : ℕ) (cards : List ℕ) (i : ℕ) → i < length cards
    → held mask (drop i cards) ≡ cond (mask % 2 == 1) (get_or cards i 0 ∷ held (mask / 2) (drop (i + 1) cards)) (held (mask / 2) (drop (i + 1) cards))
held_more mask cards i inside = rw (drop_more cards i 0)

-- a card whose bit is set is held
pub held_taken : (mask : ℕ) (cards done all : List ℕ) (i : ℕ) → mask % 2 ≡ 1 → i < length cards → done ++ held mask (drop i cards) ≡ all
    → (done ++ get_or cards i 0 ∷ []) ++ held (mask / 2) (drop (i + 1) cards) ≡ all
held_taken mask cards done all i odd inside so_far =
    append_assoc done (get_or cards i 0 ∷ []) (held (mask / 2) (drop (i + 1) cards))
    ∙ (ap (λ rest. done ++ rest) (sym (held_more mask cards i inside ∙ (rw odd))) ∙ so_far)

-- another card is passed over
pub held_left : (mask : ℕ) (cards done all : List ℕ) (i : ℕ) → (mask % 2 ≡ 1 → ⊥) → i < length cards → done ++ held mask (drop i cards) ≡ all
    → done ++ held (mask / 2) (drop (i + 1) cards) ≡ all
held_left mask cards done all i even inside so_far =
    let test : (mask % 2 == 1) ≡ false = grind (arith, nat_tests)
    in ap (λ rest. done ++ rest) (sym (held_more mask cards i inside ∙ (rw test))) ∙ so_far

-- at the end nothing is left to hold
pub held_end : (mask : ℕ) (cards done all : List ℕ) (i : ℕ) → length cards ≤ i → done ++ held mask (drop i cards) ≡ all → done ≡ all
held_end mask cards done all i past so_far =
    let end : drop i cards ≡ [] = drop_all i cards past
    in sym (append-nil done) ∙ (rw end at so_far)

-- the mask 31 holds all five cards
pub held_all : (hand : List ℕ) → length hand ≡ 5 → held 31 hand ≡ hand
held_all (a ∷ b ∷ c ∷ d ∷ e ∷ []) five = refl
held_all [] five = absurd (omega arith)
held_all (a ∷ []) five = absurd (omega arith)
held_all (a ∷ b ∷ []) five = absurd (omega arith)
held_all (a ∷ b ∷ c ∷ []) five = absurd (omega arith)
held_all (a ∷ b ∷ c ∷ d ∷ []) five = absurd (omega arith)
held_all (a ∷ b ∷ c ∷ d ∷ e ∷ f ∷ more) five = absurd (omega arith)

flips : (x y : ℕ) → eqb x y ≡ eqb y x
flips x y = grind (arith, nat_tests)

-- rising numbers differ
pub IsDistinct-from_increasing : (cards : List ℕ) → IsStrictlyIncreasing cards → IsDistinct eqb cards
IsDistinct-from_increasing cards rising = IsDistinct-from_apart eqb cards (λ i j d before within.
    let less : get_or cards i d < get_or cards j d = below_from_sorted cards i j d (sorted_from_strictly_increasing cards rising) before within
    in grind (arith, nat_tests))

-- cards whose sorted row rises differ
pub distinct_of_rising : (cards sorted : List ℕ) → IsPermutation cards sorted → IsStrictlyIncreasing sorted → IsDistinct eqb cards
distinct_of_rising cards sorted same rising =
    IsDistinct-IsPermutation eqb flips sorted cards (IsPermutation-sym cards sorted same) (IsDistinct-from_increasing sorted rising)

-- the sorted row of different cards rises
pub rising_of_distinct : (cards sorted : List ℕ) → IsPermutation cards sorted → IsSorted nat_cmp sorted → IsDistinct eqb cards → IsStrictlyIncreasing sorted
rising_of_distinct cards sorted same up apart =
    IsStrictlyIncreasing-from_distinct sorted (IsNonDecreasingBy-from_sort (λ card. card) sorted up) (IsDistinct-IsPermutation eqb flips cards sorted same apart)

-- a rising row of five cards is a hand
pub hand_of_rising : (cards numbers sorted : List ℕ) → numbers ≡ cards → in_deck 54 cards ≡ true → length sorted ≡ 5 → IsPermutation numbers sorted → IsStrictlyIncreasing sorted
    → IsPermutation cards sorted × IsHand sorted
hand_of_rising cards numbers sorted same below five moved rising =
    let from_cards = subst (λ (row : List ℕ). IsPermutation row sorted) same moved
    in (from_cards, record { five = five; rising = rising; below = in_deck-IsPermutation 54 cards sorted from_cards below })

failed : (test : Bool) {A : Type 0} (x y : A) → (test ≡ true → ⊥) → y ≡ cond test x y
failed true x y never = absurd (never refl)
failed false x y never = refl

passed : (test : Bool) {A : Type 0} (x y : A) → test ≡ true → x ≡ cond test x y
passed true x y is = refl
passed false x y is = cc

-- the hand of five cards, where their sorted row rises
pub hand_is : (cards numbers sorted : List ℕ) → numbers ≡ cards → IsPermutation numbers sorted → IsStrictlyIncreasing sorted → Some sorted ≡ cond (all_differ cards) (Some (in_order cards)) None
hand_is cards numbers sorted same moved rising =
    let from_cards = subst (λ (row : List ℕ). IsPermutation row sorted) same moved
    in ap Some (rising-in_order cards sorted from_cards rising) ∙ passed (all_differ cards) (Some (in_order cards)) None (distinct-differ cards (distinct_of_rising cards sorted from_cards rising))

-- and where it does not
pub no_hand : (cards numbers sorted : List ℕ) → numbers ≡ cards → IsPermutation numbers sorted → IsSorted nat_cmp sorted → (IsStrictlyIncreasing sorted → ⊥) → None ≡ cond (all_differ cards) (Some (in_order cards)) None
no_hand cards numbers sorted same moved up flat =
    let from_cards = subst (λ (row : List ℕ). IsPermutation row sorted) same moved
    in failed (all_differ cards) (Some (in_order cards)) None (λ apart. flat (rising_of_distinct cards sorted from_cards up (differ-distinct cards apart)))
