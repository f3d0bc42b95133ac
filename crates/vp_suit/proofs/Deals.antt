-- Deals by their indexes, and the sum over all deals by classes.
use Rattle.std.proofs.Common.{◌≡◌, ℕ, zero, suc, ◌+◌, ◌*◌, ◌<◌, ◌≤◌, Bool, true, false, cond, List, [], ◌∷◌, length, map, filter, get_or, take, refl, ap, sym, subst, ◌∙◌, arith, add-one, sum_by}
use Rattle.std.proofs.lemmas.List.{take_all}
use Rattle.std.proofs.lemmas.List.Sums.{sum_by_more, sum_by-cons}
use Rattle.vp_card.specs.Cards.{joined}
use Rattle.vp_card.specs.Rising.{IsRising}
use Rattle.vp_sets.specs.Sets.{deck, choose, combos}
use Rattle.vp_sets.specs.Index.{set_index, index_from, colex}
use Rattle.vp_card.proofs.Rising.{rising_from}
use Rattle.vp_sets.proofs.Colex.{Below, set_rises, set_below, set_from, index_lt, colex_count, numbered, at_index, sum_of_sets, place_below, index_is}
use Rattle.vp_suit.specs.Turns.{turned, turn}
use Rattle.vp_suit.specs.Images.{different, is_least}
use Rattle.vp_suit.specs.Classes.{IsDeal, IsKept, image_indexes, is_representative, weight, representatives, listed}
use Rattle.vp_suit.proofs.Below.{below, below-same, below-zero, below-suc}
use Rattle.vp_suit.proofs.Group.{product, product_inside, inverse, inverse_inside}
use Rattle.vp_suit.proofs.Cards.{turned_below, turn-rising, turn-length, turn_joined, turn_back}
use Rattle.vp_suit.proofs.Action.{AreTurns, images, classes}

-- the cards of a deal rise
pub deal_rises : (n : ℕ) (cards : List ℕ) → IsDeal n cards → IsRising cards
deal_rises n cards deal = rising_from cards deal.set.rising

-- ---- a turned deal is a deal

turn_below : (n t : ℕ) (cards : List ℕ) → 52 ≤ n → t < 24 → Below n cards → Below n (turn t cards)
unfolding turn joined
turn_below n t [] big l b = tt
turn_below n t (c ∷ cards) big l b = place_below n (turned t c) (joined (map (λ card. turned t card) cards) []) (turned_below n t c big l b.0) (turn_below n t cards big l b.1)

pub turned_deal : (n t : ℕ) (cards : List ℕ) → 52 ≤ n → t < 24 → IsDeal n cards → IsDeal n (turn t cards)
turned_deal n t cards big l deal = record {
  five = turn-length t cards ∙ deal.five;
  set = set_from n (turn t cards) (turn-rising t cards l (deal_rises n cards deal)) (turn_below n t cards big l (set_below n cards deal.set));
}

-- ---- deals by their indexes

-- the deal with index i
unfoldable pub deal : ℕ → ℕ → List ℕ
deal n i = get_or (colex 5 n) i []

pub deal_is : (n i : ℕ) → i < choose n 5 → IsDeal n (deal n i) × (set_index (deal n i) ≡ i)
unfolding deal
deal_is n i l =
    let h = numbered 5 n i l in
    (record { five = h.many; set = set_from n (deal n i) h.rises h.below }, index_is (deal n i) ∙ h.index)

pub deal_at : (n : ℕ) (cards : List ℕ) → IsDeal n cards → deal n (set_index cards) ≡ cards
unfolding deal
deal_at n cards d =
    let at : get_or (colex (length cards) n) (index_from 0 cards) [] ≡ cards = at_index n cards (set_rises n cards d.set) (set_below n cards d.set) in
    ap (λ i. get_or (colex 5 n) i []) (index_is cards) ∙ subst (λ k. get_or (colex k n) (index_from 0 cards) [] ≡ cards) d.five at

pub index_small : (n : ℕ) (cards : List ℕ) → IsDeal n cards → set_index cards < choose n 5
index_small n cards d =
    let l : index_from 0 cards < choose n (length cards) = index_lt n cards (set_rises n cards d.set) (set_below n cards d.set) in
    rw (index_is cards) (subst (λ k. index_from 0 cards < choose n k) d.five l)

-- turns move the indexes of deals
pub act : ℕ → ℕ → ℕ → ℕ
act n t i = set_index (turn t (deal n i))

pub deals_turn : (n : ℕ) → 52 ≤ n → AreTurns (act n) 23 (choose n 5)
unfolding act
deals_turn n big = record {
  within = λ t i l small. index_small n (turn t (deal n i)) (turned_deal n t (deal n i) big l (deal_is n i small).0);
  product = product;
  product-inside = product_inside;
  joined = λ s t i ls lt small.
      let d = (deal_is n i small).0 in
      ap (λ (x : List ℕ). set_index (turn s x)) (deal_at n (turn t (deal n i)) (turned_deal n t (deal n i) big lt d)) ∙ ap set_index (turn_joined s t (deal n i) ls lt (deal_rises n (deal n i) d));
  inverse = inverse;
  inverse-inside = inverse_inside;
  back = λ t i l small.
      let d = deal_is n i small in
      ap (λ (x : List ℕ). set_index (turn (inverse t) x)) (deal_at n (turn t (deal n i)) (turned_deal n t (deal n i) big l d.0)) ∙ ap set_index (turn_back t (deal n i) l (deal_rises n (deal n i) d.0)) ∙ d.1;
}

-- ---- sums over lists by places

places_to : {A : Type 0} (f : A → ℕ) (d : A) (xs : List A) (k : ℕ) → k ≤ length xs → sum_by f (take k xs) ≡ below (λ i. f (get_or xs i d)) k
places_to f d xs zero l = sym (below-zero (λ i. f (get_or xs i d)))
places_to f d xs (suc k) l =
    let a : sum_by f (take k xs) ≡ below (λ i. f (get_or xs i d)) k = places_to f d xs k (omega arith) in
    let b : sum_by f (take (k + 1) xs) ≡ sum_by f (take k xs) + f (get_or xs k d) = sum_by_more f xs k d (omega arith) in
    let c : below (λ i. f (get_or xs i d)) (suc k) ≡ below (λ i. f (get_or xs i d)) k + f (get_or xs k d) = below-suc (λ i. f (get_or xs i d)) k in
    ap (λ (j : ℕ). sum_by f (take j xs)) (sym (add-one k)) ∙ (b ∙ ap (λ m. m + f (get_or xs k d)) a ∙ sym c)

sum_by-places : {A : Type 0} (f : A → ℕ) (d : A) (xs : List A) → sum_by f xs ≡ below (λ i. f (get_or xs i d)) (length xs)
sum_by-places f d xs = ap (λ ys. sum_by f ys) (sym (take_all (length xs) xs (omega arith))) ∙ places_to f d xs (length xs) (omega arith)

sum_by-filter : (f : List ℕ → ℕ) (p : List ℕ → Bool) (xs : List (List ℕ)) → sum_by f (filter p xs) ≡ sum_by (λ x. cond (p x) (f x) 0) xs
sum_by-filter f p [] = refl
sum_by-filter f p (x ∷ xs) =
    let rest : sum_by f (filter p xs) ≡ sum_by (λ y. cond (p y) (f y) 0) xs = sum_by-filter f p xs in
    let e : sum_by (λ y. cond (p y) (f y) 0) (x ∷ xs) ≡ cond (p x) (f x) 0 + sum_by (λ y. cond (p y) (f y) 0) xs = sum_by-cons (λ y. cond (p y) (f y) 0) x xs in
    sym (e ∙ elim (p x) as (λ v. cond v (f x) 0 + sum_by (λ y. cond (p y) (f y) 0) xs ≡ sum_by f (cond v (x ∷ filter p xs) (filter p xs))) [
      | true ↦ sym (sum_by-cons f x (filter p xs) ∙ ap (λ m. f x + m) rest)
      | false ↦ omega arith
    ])

-- the sum over all deals
pub sum_of_deals : (n : ℕ) (f : List ℕ → ℕ) → sum_by f (combos 5 (deck n)) ≡ below (λ i. f (deal n i)) (choose n 5)
unfolding deal
sum_of_deals n f = sum_of_sets f 5 n ∙ sum_by-places f [] (colex 5 n) ∙ ap (λ k. below (λ i. f (get_or (colex 5 n) i [])) k) (colex_count 5 n)

-- the sum over the representatives
pub sum_of_representatives : (n : ℕ) (f : List ℕ → ℕ) → sum_by f (representatives n) ≡ below (λ i. cond (is_representative (deal n i)) (f (deal n i)) 0) (choose n 5)
unfolding deal representatives
sum_of_representatives n f =
    sum_by-filter f (λ x. is_representative x) (colex 5 n) ∙ sum_by-places (λ x. cond (is_representative x) (f x) 0) [] (colex 5 n)
    ∙ ap (λ k. below (λ i. cond (is_representative (get_or (colex 5 n) i [])) (f (get_or (colex 5 n) i [])) 0) k) (colex_count 5 n)

-- the sum over all deals is the sum over the classes, each taken as often as it weighs
pub sum_by_classes : (n : ℕ) → 52 ≤ n → (f : List ℕ → ℕ) → IsKept n f
    → sum_by (λ cards. weight cards * f cards) (representatives n) ≡ sum_by f (combos 5 (deck n))
unfolding weight is_representative image_indexes act
sum_by_classes n big f kept =
    let x : ℕ → ℕ = λ i. f (deal n i) in
    let keeps : (t i : ℕ) → t < 24 → i < choose n 5 → x (act n t i) ≡ x i = λ t i l small.
    let d = (deal_is n i small).0 in
    ap f (deal_at n (turn t (deal n i)) (turned_deal n t (deal n i) big l d)) ∙ kept t (deal n i) l d in
    let main : below x (choose n 5) ≡ below (λ r. cond (is_least r (images (act n) 23 r)) (length (different (images (act n) 23 r)) * x r) 0) (choose n 5) = classes (act n) 23 (choose n 5) (deals_turn n big) x keeps in
    let same : below (λ i. cond (is_representative (deal n i)) (weight (deal n i) * x i) 0) (choose n 5) ≡ below (λ r. cond (is_least r (images (act n) 23 r)) (length (different (images (act n) 23 r)) * x r) 0) (choose n 5) =
    below-same (λ i. cond (is_representative (deal n i)) (weight (deal n i) * x i) 0) (λ r. cond (is_least r (images (act n) 23 r)) (length (different (images (act n) 23 r)) * x r) 0) (choose n 5) (λ i small.
    ap (λ r. cond (is_least r (image_indexes (deal n i))) (weight (deal n i) * x i) 0) (deal_is n i small).1) in
    sum_of_representatives n (λ cards. weight cards * f cards) ∙ same ∙ sym main ∙ sym (sum_of_deals n f)

-- the sum over all deals of their numbers in a list is the sum of the list
sum_of_listed : (n : ℕ) (w : List ℕ) → length w ≡ choose n 5 → sum_by (listed w) (combos 5 (deck n)) ≡ sum_by (λ x. x) w
sum_of_listed n w all =
    let same : below (λ i. listed w (deal n i)) (choose n 5) ≡ below (λ i. get_or w i 0) (choose n 5) =
    below-same (λ i. listed w (deal n i)) (λ i. get_or w i 0) (choose n 5) (λ i small. ap (λ j. get_or w j 0) (deal_is n i small).1) in
    sum_of_deals n (listed w) ∙ same ∙ ap (below (λ i. get_or w i 0)) (sym all) ∙ sym (sum_by-places (λ x. x) 0 w)

-- a list of one number for each deal, with equal numbers at all deals of a class, sums as its classes do
pub sum_of_list : (n : ℕ) (w : List ℕ) → 52 ≤ n → length w ≡ choose n 5 → IsKept n (listed w)
    → sum_by (λ cards. weight cards * listed w cards) (representatives n) ≡ sum_by (λ x. x) w
sum_of_list n w big all kept = sum_by_classes n big (listed w) kept ∙ sum_of_listed n w all
