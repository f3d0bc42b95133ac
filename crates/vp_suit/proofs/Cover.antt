-- Representatives that weigh as much as there are deals are all of them.
use Rattle.std.proofs.Common.{◌≡◌, inl, inr, ℕ, zero, suc, ◌+◌, ◌*◌, ◌<◌, ◌≤◌, Bool, true, cond, ◌==◌, List, [], ◌∷◌, map, get_or, refl, ap, sym, subst, ◌∙◌, arith, sum_by}
use Rattle.std.specs.List.{All, Contains}
use Rattle.std.specs.List.Sorted.{IsStrictlyIncreasing}
use Rattle.std.proofs.lemmas.Bool.{cases_eq, cases_lt, eq-eqb, ne_eqb}
use Rattle.std.proofs.lemmas.List.Elements.{All-head, All-tail, All-map}
use Rattle.std.proofs.lemmas.List.Sums.{sum_by-cons}
use Rattle.std.proofs.Math.Nat.{add-mul, mul-le-mul_right}
use Rattle.vp_card.specs.Rising.{times, IsRising}
use Rattle.vp_sets.specs.Sets.{deck, choose, combos, has}
use Rattle.vp_sets.specs.Index.{set_index}
use Rattle.vp_card.proofs.Rising.{rising_from, rising_same, times-rising, times-same}
use Rattle.vp_suit.specs.Turns.{turn}
use Rattle.vp_suit.specs.Classes.{IsDeal, IsKept, image_indexes, is_representative, representative, weight, representatives}
use Rattle.vp_suit.proofs.Below.{below, below-zero, below-suc, below-same, below-plus, below-none, below-one}
use Rattle.vp_suit.proofs.Members.{has_value}
use Rattle.vp_suit.proofs.Deals.{deal, deal_at, turned_deal, index_small, sum_by_classes, sum_of_deals}
use Rattle.vp_suit.proofs.Representatives.{weight_counts}
use Rattle.vp_suit.proofs.ClassLaws.{representatives_all, representatives_only, representatives_rise, representative_own}

-- ---- sums over lists of numbers, by how often each number stands in the list

counted : (w : ℕ → ℕ) (n : ℕ) (xs : List ℕ) → All (λ x. x < n) xs → sum_by w xs ≡ below (λ i. times i xs * w i) n
counted w n [] h = sym (below-none (λ i. 0 * w i) n (λ i l. omega arith))
counted w n (x ∷ xs) h =
    let rest : sum_by w xs ≡ below (λ i. times i xs * w i) n = counted w n xs (All-tail (λ y. y < n) x xs h) in
    let inside : x < n = All-head (λ y. y < n) x xs h in
    let one : below (λ i. cond (x == i) 1 0 * w i) n ≡ w x =
    below-one (λ i. cond (x == i) 1 0 * w i) n x inside (λ i l d. ap (λ b. cond b 1 0 * w i) (ne_eqb x i (λ e. d (sym e))) ∙ omega arith)
    ∙ ap (λ b. cond b 1 0 * w x) (eq-eqb x x refl) ∙ omega arith in
    let both : below (λ i. times i (x ∷ xs) * w i) n ≡ below (λ i. cond (x == i) 1 0 * w i + times i xs * w i) n =
    below-same (λ i. times i (x ∷ xs) * w i) (λ i. cond (x == i) 1 0 * w i + times i xs * w i) n (λ i l. add-mul (cond (x == i) 1 0) (times i xs) (w i)) in
    let split : below (λ i. cond (x == i) 1 0 * w i + times i xs * w i) n ≡ below (λ i. cond (x == i) 1 0 * w i) n + below (λ i. times i xs * w i) n = below-plus (λ i. cond (x == i) 1 0 * w i) (λ i. times i xs * w i) n in
    let front : sum_by w (x ∷ xs) ≡ w x + sum_by w xs = sum_by-cons w x xs in
    omega arith

below-le : (a b : ℕ → ℕ) (n : ℕ) → ((i : ℕ) → i < n → a i ≤ b i) → below a n ≤ below b n
below-le a b zero h = omega (arith, below-zero a, below-zero b)
below-le a b (suc n) h =
    let l : below a n ≤ below b n = below-le a b n (λ i k. h i (omega arith)) in
    let k : a n ≤ b n = h n (omega arith) in
    omega (arith, below-suc a n, below-suc b n)

-- where no term is greater and the sums are equal, the terms are
terms_equal : (a b : ℕ → ℕ) (n : ℕ) → ((i : ℕ) → i < n → a i ≤ b i) → below a n ≡ below b n → (i : ℕ) → i < n → a i ≡ b i
terms_equal a b zero h e i l = absurd (omega arith)
terms_equal a b (suc n) h e i l =
    let lower : below a n ≤ below b n = below-le a b n (λ j k. h j (omega arith)) in
    let last : a n ≤ b n = h n (omega arith) in
    let ea : below a (suc n) ≡ below a n + a n = below-suc a n in
    let eb : below b (suc n) ≡ below b n + b n = below-suc b n in
    elim (cases_eq i n) [
      | inl s ↦ rw s (omega arith)
      | inr d ↦ terms_equal a b n (λ j k. h j (omega arith)) (omega arith) i (omega arith)
    ]

-- ---- every class weighs something

term_le : (a : ℕ → ℕ) (n i : ℕ) → i < n → a i ≤ below a n
term_le a zero i l = absurd (omega arith)
term_le a (suc n) i l = elim (cases_eq i n) [
  | inl s ↦ rw s (omega (arith, below-suc a n))
  | inr d ↦ let k : a i ≤ below a n = term_le a n i (omega arith) in omega (arith, below-suc a n)
]

pub weighs : (n : ℕ) (cards : List ℕ) → 52 ≤ n → IsDeal n cards → 1 ≤ weight cards
unfolding image_indexes
weighs n cards big d =
    let i : ℕ = set_index (turn 0 cards) in
    let inside : i < choose n 5 = index_small n (turn 0 cards) (turned_deal n 0 cards big (omega arith) d) in
    let here : has (map (λ t. set_index (turn t cards)) (deck 24)) i ≡ true = has_value (λ t. set_index (turn t cards)) 24 0 (omega arith) in
    let term : cond (has (map (λ t. set_index (turn t cards)) (deck 24)) i) 1 0 ≤ below (λ j. cond (has (map (λ t. set_index (turn t cards)) (deck 24)) j) 1 0) (choose n 5) =
    term_le (λ j. cond (has (map (λ t. set_index (turn t cards)) (deck 24)) j) 1 0) (choose n 5) i inside in
    let one : cond {A = ℕ} (has (map (λ t. set_index (turn t cards)) (deck 24)) i) 1 0 ≡ 1 = ap (λ (b : Bool). cond {A = ℕ} b 1 0) here in
    let all : below (λ j. cond (has (map (λ t. set_index (turn t cards)) (deck 24)) j) 1 0) (choose n 5) ≡ weight cards = weight_counts n cards big d in
    omega arith

-- ---- lists of representatives

-- representatives of deals, each once
pub record AreRepresentatives (n : ℕ) (rs : List (List ℕ)) : Type 0 where
  pub each : All (λ r. IsDeal n r × (is_representative r ≡ true)) rs
  pub rise : IsStrictlyIncreasing (map set_index rs)

indexes_small : (n : ℕ) (rs : List (List ℕ)) → All (λ r. IsDeal n r × (is_representative r ≡ true)) rs → All (λ i. i < choose n 5) (map set_index rs)
indexes_small n rs h = All-map (λ i. i < choose n 5) set_index rs (λ k d l. index_small n (get_or rs k d) (h k d l).0)

-- the deals come back from their indexes
deals_back : (n : ℕ) (rs : List (List ℕ)) → All (λ r. IsDeal n r × (is_representative r ≡ true)) rs → map (λ i. deal n i) (map set_index rs) ≡ rs
deals_back n [] h = refl
deals_back n (r ∷ rs) h =
    let first = All-head (λ x. IsDeal n x × (is_representative x ≡ true)) r rs h in
    let rest : map (λ i. deal n i) (map set_index rs) ≡ rs = deals_back n rs (All-tail (λ x. IsDeal n x × (is_representative x ≡ true)) r rs h) in
    ap (λ (x : List ℕ). x ∷ map (λ i. deal n i) (map set_index rs)) (deal_at n r first.0) ∙ ap (λ (x : List (List ℕ)). r ∷ x) rest

sums_alike : (n : ℕ) (rs : List (List ℕ)) → All (λ r. IsDeal n r × (is_representative r ≡ true)) rs → sum_by (λ r. weight r) rs ≡ sum_by (λ i. weight (deal n i)) (map set_index rs)
sums_alike n [] h = refl
sums_alike n (r ∷ rs) h =
    let first = All-head (λ x. IsDeal n x × (is_representative x ≡ true)) r rs h in
    let rest : sum_by (λ x. weight x) rs ≡ sum_by (λ i. weight (deal n i)) (map set_index rs) = sums_alike n rs (All-tail (λ x. IsDeal n x × (is_representative x ≡ true)) r rs h) in
    let own : weight (deal n (set_index r)) ≡ weight r = ap (λ (x : List ℕ). weight x) (deal_at n r first.0) in
    let a : sum_by (λ x. weight x) (r ∷ rs) ≡ weight r + sum_by (λ x. weight x) rs = sum_by-cons (λ x. weight x) r rs in
    let b : sum_by (λ i. weight (deal n i)) (set_index r ∷ map set_index rs) ≡ weight (deal n (set_index r)) + sum_by (λ i. weight (deal n i)) (map set_index rs) = sum_by-cons (λ i. weight (deal n i)) (set_index r) (map set_index rs) in
    omega arith

-- a member's index stands in the list of the indexes
index_there : (rs : List (List ℕ)) (r : List ℕ) → Contains rs r → 0 < times (set_index r) (map set_index rs)
index_there [] r (k, l, e) = absurd (omega arith)
index_there (x ∷ rs) r (zero, l, e) = omega (arith, ap (λ i. times i (set_index x ∷ map set_index rs)) (ap (λ (y : List ℕ). set_index y) (sym e)), times-same (set_index x) (map set_index rs))
index_there (x ∷ rs) r (suc k, l, e) =
    let rest : 0 < times (set_index r) (map set_index rs) = index_there rs r (k, omega arith, e) in
    omega arith

-- the number at some place, where a number stands in a list
index_from_there : (n : ℕ) (rs : List (List ℕ)) (i : ℕ) → All (λ r. IsDeal n r × (is_representative r ≡ true)) rs → 0 < times i (map set_index rs) → IsDeal n (deal n i) × (is_representative (deal n i) ≡ true) × (set_index (deal n i) ≡ i)
index_from_there n [] i h l = absurd (omega arith)
index_from_there n (r ∷ rs) i h l = elim (cases_eq (set_index r) i) [
  | inl e ↦
      let first = All-head (λ x. IsDeal n x × (is_representative x ≡ true)) r rs h in
      let same : deal n i ≡ r = ap (λ j. deal n j) (sym e) ∙ deal_at n r first.0 in
      (subst (λ (x : List ℕ). IsDeal n x) (sym same) first.0, ap (λ (x : List ℕ). is_representative x) same ∙ first.1, ap (λ (x : List ℕ). set_index x) same ∙ e)
  | inr d ↦
      let skip : cond {A = ℕ} (set_index r == i) 1 0 ≡ 0 = ap (λ (b : Bool). cond {A = ℕ} b 1 0) (ne_eqb (set_index r) i d) in
      index_from_there n rs i (All-tail (λ x. IsDeal n x × (is_representative x ≡ true)) r rs h) (omega arith)
]

one_kept : (n : ℕ) → IsKept n (λ cards. 1)
one_kept n t cards l d = refl

-- all classes together have as many deals as there are
pub weights_of_all : (n : ℕ) → 52 ≤ n → sum_by (λ r. weight r) (representatives n) ≡ choose n 5
weights_of_all n big =
    let by_classes : sum_by (λ r. weight r * 1) (representatives n) ≡ sum_by (λ cards. 1) (combos 5 (deck n)) = sum_by_classes n big (λ cards. 1) (one_kept n) in
    let deals : sum_by (λ cards. 1) (combos 5 (deck n)) ≡ below (λ i. 1) (choose n 5) = sum_of_deals n (λ cards. 1) in
    sum_by-same (λ r. weight r) (λ r. weight r * 1) (representatives n) (λ r. omega arith) ∙ by_classes ∙ deals ∙ ones (choose n 5)
  where
    sum_by-same : (f g : List ℕ → ℕ) (xs : List (List ℕ)) → ((x : List ℕ) → f x ≡ g x) → sum_by f xs ≡ sum_by g xs
    sum_by-same f g [] h = refl
    sum_by-same f g (x ∷ xs) h =
        let rest : sum_by f xs ≡ sum_by g xs = sum_by-same f g xs h in
        let e : f x ≡ g x = h x in
        omega (arith, sum_by-cons f x xs, sum_by-cons g x xs)

    ones : (m : ℕ) → below (λ i. 1) m ≡ m
    ones zero = below-zero (λ i. 1)
    ones (suc m) = omega (arith, below-suc (λ i. 1) m, ones m)

-- representatives that have all deals together are all representatives
pub cover : (n : ℕ) (rs : List (List ℕ)) → 52 ≤ n → AreRepresentatives n rs → sum_by (λ r. weight r) rs ≡ choose n 5 → rs ≡ representatives n
cover n rs big are whole =
    let all : List (List ℕ) = representatives n in
    let each : All (λ r. IsDeal n r × (is_representative r ≡ true)) all = representatives_only n in
    let is : List ℕ = map set_index rs in
    let js : List ℕ = map set_index all in
    let w : ℕ → ℕ = λ i. weight (deal n i) in
    let N : ℕ = choose n 5 in
    let rise : IsRising is = rising_from is are.rise in
    let rise' : IsRising js = rising_from js (representatives_rise n) in
    let some : (i : ℕ) → times i is ≤ times i js = λ i. elim (cases_lt 0 (times i is)) [
      | inl l ↦
          let d = index_from_there n rs i are.each l in
          let own : representative (deal n i) ≡ deal n i = representative_own n (deal n i) big d.0 d.1 in
          let c : Contains all (deal n i) = subst (λ (x : List ℕ). Contains all x) own (representatives_all n (deal n i) big d.0) in
          let there : 0 < times (set_index (deal n i)) js = index_there all (deal n i) c in
          let there' : 0 < times i js = subst (λ j. 0 < times j js) d.2 there in
          let few : times i is ≤ 1 = times-rising i is rise in
          omega arith
      | inr l ↦ omega arith
    ] in
    let sum_is : below (λ i. times i is * w i) N ≡ N = sym (counted w N is (indexes_small n rs are.each)) ∙ sym (sums_alike n rs are.each) ∙ whole in
    let sum_js : below (λ i. times i js * w i) N ≡ N = sym (counted w N js (indexes_small n all each)) ∙ sym (sums_alike n all each) ∙ weights_of_all n big in
    let terms : (i : ℕ) → i < N → times i is * w i ≡ times i js * w i =
    terms_equal (λ i. times i is * w i) (λ i. times i js * w i) N (λ i l. mul-le-mul_right (w i) (some i)) (sum_is ∙ sym sum_js) in
    let same : (i : ℕ) → times i is ≡ times i js = λ i. elim (cases_lt 0 (times i js)) [
      | inl l ↦
          let d = index_from_there n all i each l in
          let inside : i < N = subst (λ j. j < N) d.2 (index_small n (deal n i) d.0) in
          let some_weight : 1 ≤ w i = weighs n (deal n i) big d.0 in
          cancel (times i is) (times i js) (w i) some_weight (some i) (terms i inside)
      | inr l ↦ let k : times i is ≤ times i js = some i in omega arith
    ] in
    sym (deals_back n rs are.each) ∙ ap (λ (x : List ℕ). map (λ i. deal n i) x) (rising_same is js rise rise' same) ∙ deals_back n all each
  where
    cancel : (a b w : ℕ) → 1 ≤ w → a ≤ b → a * w ≡ b * w → a ≡ b
    cancel a b w p l e = elim (cases_lt a b) [
      | inl k ↦
          let step : (a + 1) * w ≤ b * w = mul-le-mul_right w (omega arith) in
          let out : (a + 1) * w ≡ a * w + 1 * w = add-mul a 1 w in
          absurd (omega arith)
      | inr k ↦ omega arith
    ]
