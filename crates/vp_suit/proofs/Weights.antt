-- How many images a deal has whose heaps fall, by which neighbours are equal.
use Rattle.std.proofs.Common.{◌≡◌, ℕ, zero, suc, ◌<◌, ◌≤◌, Bool, true, false, cond, ◌&&◌, ◌==◌, List, [], ◌∷◌, length, map, get_or, refl, ap, ◌∙◌, arith}
use Rattle.std.specs.List.{list_any}
use Rattle.std.proofs.lemmas.Bool.{eq-eqb}
use Rattle.std.proofs.lemmas.List.{length-map}
use Rattle.std.proofs.lemmas.Bool.Decides.{nat_tests}
use Rattle.vp_card.specs.Cards.{in_deck}
use Rattle.vp_sets.specs.Sets.{deck, has}
use Rattle.vp_card.proofs.InDeck.{in_deck-cons}
use Rattle.vp_sets.specs.Index.{set_index}
use Rattle.vp_sets.proofs.Decks.{length-deck}
use Rattle.vp_suit.specs.Images.{different}
use Rattle.vp_suit.specs.Turns.{turn}
use Rattle.vp_suit.specs.Classes.{image_indexes, weight}
use Rattle.vp_suit.proofs.Group.{origin}

-- ---- how many different values a function has, told by which of its values are equal

-- the keys of which no later key has the same value
pub fresh : (ℕ → ℕ → Bool) → List ℕ → ℕ
fresh same [] = 0
fresh same (k ∷ ks) = cond (list_any (λ j. same j k) ks) (fresh same ks) (suc (fresh same ks))

has_same_value : (f : ℕ → ℕ) (same : ℕ → ℕ → Bool) (n k : ℕ) (ks : List ℕ) → ((i j : ℕ) → i < n → j < n → (f i == f j) ≡ same i j) → k < n → in_deck n ks ≡ true → has (map f ks) (f k) ≡ list_any (λ j. same j k) ks
unfolding has
has_same_value f same n k [] h l inside = refl
has_same_value f same n k (j ∷ ks) h l inside =
    let two : (j < n) × (in_deck n ks ≡ true) = in_deck-cons n j ks inside in
    rw (h j k two.0 l, has_same_value f same n k ks h l two.1) refl

pub different_fresh : (f : ℕ → ℕ) (same : ℕ → ℕ → Bool) (n : ℕ) (ks : List ℕ) → ((i j : ℕ) → i < n → j < n → (f i == f j) ≡ same i j) → in_deck n ks ≡ true → length (different (map f ks)) ≡ fresh same ks
unfolding different fresh
different_fresh f same n [] h inside = refl
different_fresh f same n (k ∷ ks) h inside =
    let two : (k < n) × (in_deck n ks ≡ true) = in_deck-cons n k ks inside in
    let rest : length (different (map f ks)) ≡ fresh same ks = different_fresh f same n ks h two.1 in
    rw (has_same_value f same n k ks h two.0 two.1) (elim (list_any (λ j. same j k) ks) as (λ v. length (cond v (different (map f ks)) (f k ∷ different (map f ks))) ≡ cond v (fresh same ks) (suc (fresh same ks))) [
      | true ↦ rest
      | false ↦ ap suc rest
    ])

different_few : (xs : List ℕ) → length (different xs) ≤ length xs
unfolding different
different_few [] = omega arith
different_few (x ∷ xs) = elim (has xs x) as (λ v. length (cond v (different xs) (x ∷ different xs)) ≤ suc (length xs)) [
  | true ↦ omega (arith, different_few xs)
  | false ↦ omega (arith, different_few xs)
]

different_some : (xs : List ℕ) → 0 < length xs → 0 < length (different xs)
unfolding different has
different_some [] l = absurd (omega arith)
different_some (x ∷ []) l = omega arith
different_some (x ∷ y ∷ xs) l = elim (has (y ∷ xs) x) as (λ v. 0 < length (cond v (different (y ∷ xs)) (x ∷ different (y ∷ xs)))) [
  | true ↦ different_some (y ∷ xs) (omega arith)
  | false ↦ omega arith
]

-- a class has at least one deal, and at most one for each turn
pub weight_few : (cards : List ℕ) → (1 ≤ weight cards) × (weight cards ≤ 24)
unfolding weight image_indexes
weight_few cards =
    let many : length (map (λ t. set_index (turn t cards)) (deck 24)) ≡ 24 = length-map (deck 24) (λ t. set_index (turn t cards)) ∙ length-deck 24 in
    (different_some (map (λ t. set_index (turn t cards)) (deck 24)) (omega arith), omega (arith, different_few (map (λ t. set_index (turn t cards)) (deck 24))))

-- ---- which heaps are equal, where neighbours' tests are known

-- for each two suits whether their heaps are equal, from the tests of neighbours
runs : Bool → Bool → Bool → List (List Bool)
runs a b c = (true ∷ a ∷ (a && b) ∷ ((a && b) && c) ∷ []) ∷ (a ∷ true ∷ b ∷ (b && c) ∷ []) ∷ ((a && b) ∷ b ∷ true ∷ c ∷ []) ∷ (((a && b) && c) ∷ (b && c) ∷ c ∷ true ∷ []) ∷ []

pub run : Bool → Bool → Bool → ℕ → ℕ → Bool
run a b c x y = get_or (get_or (runs a b c) x []) y true

-- two turns bring equal heaps to every place
unfoldable pub same_images : Bool → Bool → Bool → ℕ → ℕ → Bool
same_images a b c i j = (run a b c (origin i 0) (origin j 0) && run a b c (origin i 1) (origin j 1)) && (run a b c (origin i 2) (origin j 2) && run a b c (origin i 3) (origin j 3))

-- the number of images, by which neighbours are equal
unfoldable pub images_by : Bool → Bool → Bool → ℕ
images_by a b c = fresh (λ i j. same_images a b c i j) (deck 24)

pub images-1 : images_by true true true ≡ 1
unfolding images_by fresh same_images run runs deck
images-1 = refl

pub images-4 : (images_by true true false ≡ 4) × (images_by false true true ≡ 4)
unfolding images_by fresh same_images run runs deck
images-4 = (refl, refl)

pub images-6 : images_by true false true ≡ 6
unfolding images_by fresh same_images run runs deck
images-6 = refl

pub images-12 : (images_by true false false ≡ 12) × (images_by false true false ≡ 12) × (images_by false false true ≡ 12)
unfolding images_by fresh same_images run runs deck
images-12 = (refl, refl, refl)

pub images-24 : images_by false false false ≡ 24
unfolding images_by fresh same_images run runs deck
images-24 = refl

next_equal : (a b c : ℕ) → b ≤ a → c ≤ b → (a == c) ≡ ((a == b) && (b == c))
next_equal a b c l k = grind (arith, nat_tests)

far_equal : (a b c d : ℕ) → b ≤ a → c ≤ b → d ≤ c → (a == d) ≡ (((a == b) && (b == c)) && (c == d))
far_equal a b c d l k j = next_equal a c d (omega arith) j ∙ ap (λ v. v && (c == d)) (next_equal a b c l k)

flipped : (a b : ℕ) → (a == b) ≡ (b == a)
flipped a b = grind (arith, nat_tests)

-- h is a function of the suit that falls
pub run_tells : (h : ℕ → ℕ) (x y : ℕ) → h 1 ≤ h 0 → h 2 ≤ h 1 → h 3 ≤ h 2 → x < 4 → y < 4 → (h x == h y) ≡ run (h 0 == h 1) (h 1 == h 2) (h 2 == h 3) x y
unfolding run runs
run_tells h zero zero p q r k l = eq-eqb (h 0) (h 0) refl
run_tells h zero (suc zero) p q r k l = refl
run_tells h zero (suc (suc zero)) p q r k l = next_equal (h 0) (h 1) (h 2) p q
run_tells h zero (suc (suc (suc zero))) p q r k l = far_equal (h 0) (h 1) (h 2) (h 3) p q r
run_tells h zero (suc (suc (suc (suc y)))) p q r k l = absurd (omega arith)
run_tells h (suc zero) zero p q r k l = flipped (h 1) (h 0)
run_tells h (suc zero) (suc zero) p q r k l = eq-eqb (h 1) (h 1) refl
run_tells h (suc zero) (suc (suc zero)) p q r k l = refl
run_tells h (suc zero) (suc (suc (suc zero))) p q r k l = next_equal (h 1) (h 2) (h 3) q r
run_tells h (suc zero) (suc (suc (suc (suc y)))) p q r k l = absurd (omega arith)
run_tells h (suc (suc zero)) zero p q r k l = flipped (h 2) (h 0) ∙ next_equal (h 0) (h 1) (h 2) p q
run_tells h (suc (suc zero)) (suc zero) p q r k l = flipped (h 2) (h 1)
run_tells h (suc (suc zero)) (suc (suc zero)) p q r k l = eq-eqb (h 2) (h 2) refl
run_tells h (suc (suc zero)) (suc (suc (suc zero))) p q r k l = refl
run_tells h (suc (suc zero)) (suc (suc (suc (suc y)))) p q r k l = absurd (omega arith)
run_tells h (suc (suc (suc zero))) zero p q r k l = flipped (h 3) (h 0) ∙ far_equal (h 0) (h 1) (h 2) (h 3) p q r
run_tells h (suc (suc (suc zero))) (suc zero) p q r k l = flipped (h 3) (h 1) ∙ next_equal (h 1) (h 2) (h 3) q r
run_tells h (suc (suc (suc zero))) (suc (suc zero)) p q r k l = flipped (h 3) (h 2)
run_tells h (suc (suc (suc zero))) (suc (suc (suc zero))) p q r k l = eq-eqb (h 3) (h 3) refl
run_tells h (suc (suc (suc zero))) (suc (suc (suc (suc y)))) p q r k l = absurd (omega arith)
run_tells h (suc (suc (suc (suc x)))) y p q r k l = absurd (omega arith)
