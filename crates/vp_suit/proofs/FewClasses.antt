-- How few classes of deals there are: without a joker a class has at least four deals.
use Rattle.std.proofs.Common.{◌≡◌, inl, inr, ℕ, zero, suc, pow-suc, ◌+◌, ◌-◌, ◌*◌, ◌^◌, ◌<◌, ◌≤◌, ◌/◌, ◌%◌, Bool, true, false, cond, ◌==◌, nat_lt, List, [], ◌∷◌, length, refl, ap, sym, subst, ◌∙◌, arith, lit≤}
use Rattle.std.specs.List.{AllByRecursion, sum_by}
use Rattle.std.proofs.lemmas.Bool.{cases_lt, eqb-true, eq-eqb, false≢true, le-ltb, lt-ltb}
use Rattle.std.proofs.lemmas.List.Elements.{recursion_from_All}
use Rattle.std.proofs.lemmas.List.Sums.{sum_by-cons}
use Rattle.vp_card.specs.Cards.{IsDeck}
use Rattle.vp_sets.specs.Sets.{choose}
use Rattle.vp_sets.proofs.Pascal.{choose_five, ways_are}
use Rattle.vp_suit.specs.Classes.{IsDeal, is_representative, representatives, weight}
use Rattle.vp_suit.specs.Heaps.{card_heap, heap}
use Rattle.vp_suit.proofs.Below.{below, below-plus, below-suc, below-times, below-zero}
use Rattle.vp_suit.proofs.Cover.{weights_of_all}
use Rattle.vp_suit.proofs.Deals.{deal, deal_at, deal_is, sum_of_representatives}
use Rattle.vp_suit.proofs.Representatives.{weight_is}
use Rattle.vp_suit.proofs.Score.{card_other, card_own, heap-cons, heap-none}
use Rattle.vp_suit.proofs.Weights.{images-4, images-6, images-12, images-24, images_by, weight_few}

-- ---- the heap of a suit tells how many cards of the suit there are

-- over fifteen the number is left
record Left (a b : ℕ) : Type 0 where
  quotient : ℕ
  is : a ≡ 15 * quotient + b

-- each rank's place is a power of 16
power_left : (r : ℕ) → Left (2 ^ (4 * r)) 1
power_left zero = record { quotient = 0; is = refl }
power_left (suc r) =
    let rest = power_left r in
    let next : 2 ^ (4 * suc r) ≡ 16 * 2 ^ (4 * r) = ap (λ e. 2 ^ e) (let e : 4 * suc r ≡ suc (suc (suc (suc (4 * r)))) = omega arith in e) ∙ four_more (4 * r) in
    record { quotient = 16 * rest.quotient + 1; is = omega (arith, next, rest.is) }
  where
    four_more : (e : ℕ) → 2 ^ suc (suc (suc (suc e))) ≡ 16 * 2 ^ e
    four_more e = omega (arith, pow-suc 2 e, pow-suc 2 (suc e), pow-suc 2 (suc (suc e)), pow-suc 2 (suc (suc (suc e))))

-- how many cards of a suit there are
in_suit : ℕ → List ℕ → ℕ
in_suit x cards = sum_by (λ card. cond (card % 4 == x) 1 0) cards

card_left : (x card : ℕ) → card < 52 → Left (card_heap x card) (cond (card % 4 == x) 1 0)
card_left x card natural = by_suit (card % 4 == x) refl
  where
    by_suit : (b : Bool) → (card % 4 == x) ≡ b → Left (card_heap x card) (cond b 1 0)
    by_suit true is = subst (λ h. Left h 1) (sym (card_own x card natural (eqb-true (card % 4) x is))) (power_left (card / 4))
    by_suit false is = record { quotient = 0; is = card_other x card (λ same. false≢true (sym is ∙ eq-eqb (card % 4) x same)) }

heap_left : (x : ℕ) (cards : List ℕ) → AllByRecursion (λ card. card < 52) cards → Left (heap x cards) (in_suit x cards)
unfolding in_suit
heap_left x [] natural = record { quotient = 0; is = heap-none x }
heap_left x (card ∷ cards) natural =
    let first = card_left x card natural.0 in
    let rest = heap_left x cards natural.1 in
    record {
      quotient = first.quotient + rest.quotient;
      is = omega (arith, heap-cons x card cards, first.is, rest.is, sum_by-cons (λ card. cond (card % 4 == x) 1 0) card cards);
    }

one_suit : (suit : ℕ) → suit < 4 → cond {A = ℕ} (suit == 0) 1 0 + cond {A = ℕ} (suit == 1) 1 0 + cond {A = ℕ} (suit == 2) 1 0 + cond {A = ℕ} (suit == 3) 1 0 ≡ 1
one_suit zero l = refl
one_suit (suc zero) l = refl
one_suit (suc (suc zero)) l = refl
one_suit (suc (suc (suc zero))) l = refl
one_suit (suc (suc (suc (suc suit)))) l = absurd (omega arith)

four_suits : (cards : List ℕ) → in_suit 0 cards + in_suit 1 cards + in_suit 2 cards + in_suit 3 cards ≡ length cards
unfolding in_suit
four_suits [] = refl
four_suits (card ∷ cards) =
    let one = one_suit (card % 4) (omega arith) in
    omega (
      arith,
      one,
      four_suits cards,
      sum_by-cons (λ c. cond (c % 4 == 0) 1 0) card cards,
      sum_by-cons (λ c. cond (c % 4 == 1) 1 0) card cards,
      sum_by-cons (λ c. cond (c % 4 == 2) 1 0) card cards,
      sum_by-cons (λ c. cond (c % 4 == 3) 1 0) card cards,
    )

-- five natural cards have no four equal heaps
uneven : (cards : List ℕ) → IsDeal 52 cards → heap 0 cards ≡ heap 1 cards → heap 1 cards ≡ heap 2 cards → heap 2 cards ≡ heap 3 cards → ⊥
uneven cards d p q r =
    let natural = recursion_from_All (λ card. card < 52) cards d.set.below in
    none (heap_left 0 cards natural) (heap_left 1 cards natural) (heap_left 2 cards natural) (heap_left 3 cards natural) p q r (four_suits cards ∙ d.five)
  where
    none : {a b c d k l m n : ℕ} → Left a k → Left b l → Left c m → Left d n → a ≡ b → b ≡ c → c ≡ d → k + l + m + n ≡ 5 → ⊥
    none w x y z p q r five = omega (arith, w.is, x.is, y.is, z.is)

-- a class of natural cards has at least four deals
natural_weight : (cards : List ℕ) → IsDeal 52 cards → is_representative cards ≡ true → 4 ≤ weight cards
natural_weight cards d stands =
    by_equal (heap 0 cards == heap 1 cards) (heap 1 cards == heap 2 cards) (heap 2 cards == heap 3 cards) refl refl refl (weight_is 52 cards (lit≤ tt) d stands)
  where
    by_equal : (a b c : Bool) → (heap 0 cards == heap 1 cards) ≡ a → (heap 1 cards == heap 2 cards) ≡ b → (heap 2 cards == heap 3 cards) ≡ c → weight cards ≡ images_by a b c → 4 ≤ weight cards
    by_equal true true true p q r is = absurd (uneven cards d (eqb-true _ _ p) (eqb-true _ _ q) (eqb-true _ _ r))
    by_equal true true false p q r is = omega (arith, is, images-4.0)
    by_equal false true true p q r is = omega (arith, is, images-4.1)
    by_equal true false true p q r is = omega (arith, is, images-6)
    by_equal true false false p q r is = omega (arith, is, images-12.0)
    by_equal false true false p q r is = omega (arith, is, images-12.1)
    by_equal false false true p q r is = omega (arith, is, images-12.2)
    by_equal false false false p q r is = omega (arith, is, images-24)

-- ---- all classes

below_le : (a b : ℕ → ℕ) (n : ℕ) → ((i : ℕ) → i < n → a i ≤ b i) → below a n ≤ below b n
below_le a b zero h = omega (arith, below-zero a, below-zero b)
below_le a b (suc n) h =
    let lower : below a n ≤ below b n = below_le a b n (λ i k. h i (omega arith)) in
    let last : a n ≤ b n = h n (omega arith) in
    omega (arith, below-suc a n, below-suc b n)

-- three for each number from m on
threes : (m n : ℕ) → below (λ i. cond (nat_lt i m) 0 3) n ≤ 3 * (n - m)
threes m zero = omega (arith, below-zero (λ i. cond (nat_lt i m) 0 3))
threes m (suc n) = elim (cases_lt n m) [
  | inl l ↦ omega (arith, below-suc (λ i. cond (nat_lt i m) 0 3) n, threes m n, ap (λ b. cond {A = ℕ} b 0 3) (lt-ltb n m l))
  | inr l ↦ omega (arith, below-suc (λ i. cond (nat_lt i m) 0 3) n, threes m n, ap (λ b. cond {A = ℕ} b 0 3) (le-ltb n m l))
]

as_many : {A : Type 0} (xs : List A) → sum_by (λ x. 1) xs ≡ length xs
as_many [] = refl
as_many (x ∷ xs) = omega (arith, sum_by-cons (λ x. 1) x xs, as_many xs)

-- a natural deal is a deal of every deck
of_deck : (n : ℕ) (cards : List ℕ) → 52 ≤ n → IsDeal 52 cards → IsDeal n cards
of_deck n cards most d = record { five = d.five; set = record { rising = d.set.rising; below = λ k x l. omega (arith, d.set.below k x l) } }

-- the first deals are natural, whatever the deck
first_deals : (n i : ℕ) → 52 ≤ n → i < choose 52 5 → deal 52 i ≡ deal n i
first_deals n i most inside =
    let natural = deal_is 52 i inside in
    sym (deal_at n (deal 52 i) (of_deck n (deal 52 i) most natural.0)) ∙ ap (λ k. deal n k) natural.1

-- four for each class, or one and three where it may have a joker
each_weighs : (n i : ℕ) → 52 ≤ n → 4 * cond (is_representative (deal n i)) 1 0 ≤ cond (is_representative (deal n i)) (weight (deal n i)) 0 + cond (nat_lt i (choose 52 5)) 0 3
each_weighs n i most = by_stands (is_representative (deal n i)) refl
  where
    by_stands : (b : Bool) → is_representative (deal n i) ≡ b → 4 * cond b 1 0 ≤ cond b (weight (deal n i)) 0 + cond (nat_lt i (choose 52 5)) 0 3
    by_stands false is = omega arith
    by_stands true is = elim (cases_lt i (choose 52 5)) [
      | inl l ↦
          let same = first_deals n i most l in
          let four : 4 ≤ weight (deal n i) =
          subst (λ (cards : List ℕ). 4 ≤ weight cards) same (natural_weight (deal 52 i) (deal_is 52 i l).0 (ap (λ (cards : List ℕ). is_representative cards) same ∙ is)) in
          omega arith
      | inr l ↦ let one = (weight_few (deal n i)).0 in omega (arith, one, ap (λ b. cond {A = ℕ} b 0 3) (le-ltb i (choose 52 5) l))
    ]

four_classes : (n : ℕ) → 52 ≤ n → 4 * length (representatives n) ≤ choose n 5 + 3 * (choose n 5 - choose 52 5)
four_classes n most =
    let N = choose n 5 in
    let one = λ (i : ℕ). cond {A = ℕ} (is_representative (deal n i)) 1 0 in
    let weighs = λ (i : ℕ). cond {A = ℕ} (is_representative (deal n i)) (weight (deal n i)) 0 in
    let three = λ (i : ℕ). cond {A = ℕ} (nat_lt i (choose 52 5)) 0 3 in
    let many : length (representatives n) ≡ below one N = sym (as_many (representatives n)) ∙ sum_of_representatives n (λ cards. 1) in
    let whole : below weighs N ≡ N = sym (sum_of_representatives n (λ cards. weight cards)) ∙ weights_of_all n most in
    let each : below (λ i. 4 * one i) N ≤ below (λ i. weighs i + three i) N = below_le (λ i. 4 * one i) (λ i. weighs i + three i) N (λ i l. each_weighs n i most) in
    omega (arith, many, whole, each, below-times 4 one N, below-plus weighs three N, threes (choose 52 5) N)

-- in no deck are there more
pub few_classes : (n : ℕ) → IsDeck n → length (representatives n) ≤ 1213290
few_classes n is =
    let natural : choose 52 5 ≡ 2598960 = sym (ways_are 52 5 (lit≤ tt) (lit≤ tt)) in
    omega (arith, four_classes n is.0, natural, choose_five n is.1)
