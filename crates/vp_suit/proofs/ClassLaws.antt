-- The representatives of all deals: all of them, each once, by rising index, and how many deals each stands for.
use Rattle.std.proofs.Common.{◌≡◌, ℕ, zero, suc, ◌+◌, ◌<◌, ◌≤◌, Bool, true, false, cond, ◌==◌, List, [], ◌∷◌, length, map, filter, get_or, refl, ap, sym, subst, ◌∙◌, arith}
use Rattle.std.specs.List.{All, Contains, count_by}
use Rattle.std.specs.List.Sorted.{IsStrictlyIncreasing}
use Rattle.std.proofs.lemmas.Bool.{eq-eqb, eqb-true}
use Rattle.std.proofs.lemmas.Bool.Decides.{same_from_decides}
use Rattle.std.proofs.lemmas.List.{get_or-map, length-map, get_or_default}
use Rattle.std.proofs.lemmas.List.Elements.{All-nil, All-cons, All-head, All-tail, All-from_get_or}
use Rattle.vp_card.specs.Rising.{IsBelow, IsRising}
use Rattle.vp_sets.specs.Sets.{deck, choose, combos, has}
use Rattle.vp_sets.specs.Index.{set_index, colex}
use Rattle.vp_card.proofs.Rising.{rising_from}
use Rattle.vp_sets.proofs.Colex.{colex_count, increasing_from}
use Rattle.vp_suit.specs.Turns.{turn}
use Rattle.vp_suit.specs.Classes.{IsDeal, image_indexes, is_representative, least_turn, representative, weight, representatives}
use Rattle.vp_suit.proofs.Below.{below-same}
use Rattle.vp_suit.proofs.Group.{product, product_inside, inverse, inverse_inside}
use Rattle.vp_suit.proofs.Cards.{turn_joined, turn_back, turn_first}
use Rattle.vp_suit.proofs.Members.{has_value, value_of, least_at}
use Rattle.vp_suit.proofs.Deals.{deal, deal_is, deal_at, deal_rises, turned_deal, index_small, sum_of_deals}
use Rattle.vp_suit.proofs.Representatives.{represented, weight_counts}

-- ---- what a filter keeps

below_mapped : (f : List ℕ → ℕ) (p : List ℕ → Bool) (c : ℕ) (xs : List (List ℕ)) → IsBelow c (map f xs) → IsBelow c (map f (filter p xs))
below_mapped f p c [] b = tt
below_mapped f p c (x ∷ xs) b = elim (p x) as (λ v. IsBelow c (map f (cond v (x ∷ filter p xs) (filter p xs)))) [ true ↦ (b.0, below_mapped f p c xs b.1) | false ↦ below_mapped f p c xs b.1 ]

rising_mapped : (f : List ℕ → ℕ) (p : List ℕ → Bool) (xs : List (List ℕ)) → IsRising (map f xs) → IsRising (map f (filter p xs))
rising_mapped f p [] r = tt
rising_mapped f p (x ∷ xs) r = elim (p x) as (λ v. IsRising (map f (cond v (x ∷ filter p xs) (filter p xs)))) [ true ↦ (below_mapped f p (f x) xs r.0, rising_mapped f p xs r.1) | false ↦ rising_mapped f p xs r.1 ]

-- ---- by rising index

indexes_rise : (n : ℕ) → IsStrictlyIncreasing (map set_index (colex 5 n))
unfolding deal
indexes_rise n k l =
    let many : length (map set_index (colex 5 n)) ≡ choose n 5 = length-map (colex 5 n) set_index ∙ colex_count 5 n in
    let l1 : k + 1 < choose n 5 = omega arith in
    let l0 : k < choose n 5 = omega arith in
    let c : length (colex 5 n) ≡ choose n 5 = colex_count 5 n in
    let a : get_or (map set_index (colex 5 n)) k 0 ≡ k = get_or-map set_index (colex 5 n) k [] 0 (omega arith) ∙ (deal_is n k l0).1 in
    let b : get_or (map set_index (colex 5 n)) (k + 1) 0 ≡ k + 1 = get_or-map set_index (colex 5 n) (k + 1) [] 0 (omega arith) ∙ (deal_is n (k + 1) l1).1 in
    omega arith

pub representatives_rise : (n : ℕ) → IsStrictlyIncreasing (map set_index (representatives n))
unfolding representatives
representatives_rise n = increasing_from (map set_index (representatives n)) (rising_mapped set_index (λ x. is_representative x) (colex 5 n) (rising_from (map set_index (colex 5 n)) (indexes_rise n)))

-- ---- all, and only these

contains_filtered : (p : List ℕ → Bool) (xs : List (List ℕ)) (x : List ℕ) → Contains xs x → p x ≡ true → Contains (filter p xs) x
contains_filtered p [] x (k, l, e) hit = absurd (omega arith)
contains_filtered p (y ∷ ys) x (zero, l, e) hit =
    let h : p y ≡ true = ap p e ∙ hit in
    subst (λ b. Contains (cond b (y ∷ filter p ys) (filter p ys)) x) (sym h) (zero, omega arith, e)
contains_filtered p (y ∷ ys) x (suc k, l, e) hit =
    let rest = contains_filtered p ys x (k, omega arith, e) hit in
    elim (p y) as (λ b. Contains (cond b (y ∷ filter p ys) (filter p ys)) x) [
      | true ↦ (suc rest.0, omega (arith, rest.1), rest.2)
      | false ↦ rest
    ]

pub representatives_all : (n : ℕ) (cards : List ℕ) → 52 ≤ n → IsDeal n cards → Contains (representatives n) (representative cards)
unfolding representatives representative deal
representatives_all n cards big d =
    let r = represented cards (deal_rises n cards d) in
    let d' : IsDeal n (representative cards) = turned_deal n (least_turn cards) cards big r.inside d in
    let inside : set_index (representative cards) < length (colex 5 n) = subst (λ m. set_index (representative cards) < m) (sym (colex_count 5 n)) (index_small n (representative cards) d') in
    contains_filtered (λ x. is_representative x) (colex 5 n) (representative cards)
    (set_index (representative cards), inside, get_or_default (colex 5 n) (set_index (representative cards)) (representative cards) [] inside ∙ deal_at n (representative cards) d') r.stands

all_filtered : (P : List ℕ → Type 0) (p : List ℕ → Bool) (xs : List (List ℕ)) → All P xs → All (λ x. P x × (p x ≡ true)) (filter p xs)
all_filtered P p [] all = All-nil (λ x. P x × (p x ≡ true))
all_filtered P p (x ∷ xs) all =
    let rest : All (λ y. P y × (p y ≡ true)) (filter p xs) = all_filtered P p xs (All-tail P x xs all) in
    elim (p x) as (λ b. p x ≡ b → All (λ y. P y × (p y ≡ true)) (cond b (x ∷ filter p xs) (filter p xs))) [
      | true ↦ λ h. All-cons (λ y. P y × (p y ≡ true)) x (filter p xs) (All-head P x xs all, h) rest
      | false ↦ λ h. rest
    ] refl

pub representatives_only : (n : ℕ) → All (λ cards. IsDeal n cards × (is_representative cards ≡ true)) (representatives n)
unfolding representatives deal
representatives_only n = all_filtered (λ x. IsDeal n x) (λ x. is_representative x) (colex 5 n)
    (All-from_get_or (λ x. IsDeal n x) (colex 5 n) [] (λ i l. (deal_is n i (subst (λ m. i < m) (colex_count 5 n) l)).0))

-- ---- each deal has one representative

same_deal : (n : ℕ) (a b : List ℕ) → IsDeal n a → IsDeal n b → set_index a ≡ set_index b → a ≡ b
same_deal n a b da db e = sym (deal_at n a da) ∙ ap (λ i. deal n i) e ∙ deal_at n b db

pub representative_deal : (n : ℕ) (cards : List ℕ) → 52 ≤ n → IsDeal n cards → IsDeal n (representative cards)
unfolding representative
representative_deal n cards big d = turned_deal n (least_turn cards) cards big (represented cards (deal_rises n cards d)).inside d

-- a deal and its images have one representative
pub representative_kept : (n : ℕ) (cards : List ℕ) (t : ℕ) → 52 ≤ n → IsDeal n cards → t < 24 → representative (turn t cards) ≡ representative cards
unfolding representative
representative_kept n cards t big d l =
    let dt : IsDeal n (turn t cards) = turned_deal n t cards big l d in
    let rising : IsRising cards = deal_rises n cards d in
    let rising' : IsRising (turn t cards) = deal_rises n (turn t cards) dt in
    let r = represented cards rising in
    let r' = represented (turn t cards) rising' in
    let u : ℕ = least_turn cards in
    let s : ℕ = least_turn (turn t cards) in
    let there : turn (product u (inverse t)) (turn t cards) ≡ turn u cards =
    sym (turn_joined u (inverse t) (turn t cards) r.inside (inverse_inside t l) rising') ∙ ap (λ (x : List ℕ). turn u x) (turn_back t cards l rising) in
    let low : set_index (turn s (turn t cards)) ≤ set_index (turn u cards) =
    subst (λ (x : List ℕ). set_index (turn s (turn t cards)) ≤ set_index x) there (r'.least (product u (inverse t)) (product_inside u (inverse t) r.inside (inverse_inside t l))) in
    let high : set_index (turn u cards) ≤ set_index (turn s (turn t cards)) =
    subst (λ (x : List ℕ). set_index (turn u cards) ≤ set_index x) (sym (turn_joined s t cards r'.inside l rising)) (r.least (product s t) (product_inside s t r'.inside l)) in
    same_deal n (turn s (turn t cards)) (turn u cards) (turned_deal n s (turn t cards) big r'.inside dt) (turned_deal n u cards big r.inside d) (omega arith)

-- a representative stands for itself
pub representative_own : (n : ℕ) (cards : List ℕ) → 52 ≤ n → IsDeal n cards → is_representative cards ≡ true → representative cards ≡ cards
unfolding is_representative image_indexes representative
representative_own n cards big d stands =
    let rising : IsRising cards = deal_rises n cards d in
    let r = represented cards rising in
    let low : set_index (turn (least_turn cards) cards) ≤ set_index (turn 0 cards) = r.least 0 (omega arith) in
    let own : set_index (turn 0 cards) ≡ set_index cards = ap (λ (x : List ℕ). set_index x) (turn_first cards rising) in
    let high : set_index cards ≤ set_index (turn (least_turn cards) cards) = least_at (set_index cards) (λ t. set_index (turn t cards)) 24 (least_turn cards) stands r.inside in
    same_deal n (turn (least_turn cards) cards) cards (turned_deal n (least_turn cards) cards big r.inside d) d (omega arith)

-- a representative stands for its images and for no other deals
stands_for : (n : ℕ) (r cards : List ℕ) → 52 ≤ n → IsDeal n r → is_representative r ≡ true → IsDeal n cards → (set_index (representative cards) == set_index r) ≡ has (image_indexes r) (set_index cards)
unfolding image_indexes representative
stands_for n r cards big dr stands d =
    let rising : IsRising cards = deal_rises n cards d in
    let p = represented cards rising in
    let u : ℕ = least_turn cards in
    same_from_decides {P = representative cards ≡ r} (set_index (representative cards) == set_index r) (has (image_indexes r) (set_index cards)) (
      λ h. same_deal n (representative cards) r (representative_deal n cards big d) dr (eqb-true _ _ h),
      λ e. eq-eqb _ _ (ap (λ (x : List ℕ). set_index x) e),
    ) (
      λ h.
          let w = value_of (λ t. set_index (turn t r)) 24 (set_index cards) h in
          let same : turn w.at r ≡ cards = same_deal n (turn w.at r) cards (turned_deal n w.at r big w.inside dr) d w.is in
          ap (λ (x : List ℕ). representative x) (sym same) ∙ representative_kept n r w.at big dr w.inside ∙ representative_own n r big dr stands,
      λ e.
          let back : turn (inverse u) r ≡ cards = ap (λ (x : List ℕ). turn (inverse u) x) (sym e) ∙ turn_back u cards p.inside rising in
          subst (λ (x : List ℕ). has (map (λ t. set_index (turn t r)) (deck 24)) (set_index x) ≡ true) back (has_value (λ t. set_index (turn t r)) 24 (inverse u) (inverse_inside u p.inside)),
    )

-- so many deals have the representative as it weighs
pub weight_of_class : (n : ℕ) (r : List ℕ) → 52 ≤ n → IsDeal n r → is_representative r ≡ true
    → count_by (λ cards. set_index (representative cards) == set_index r) (combos 5 (deck n)) ≡ weight r
weight_of_class n r big dr stands =
    sum_of_deals n (λ cards. cond (set_index (representative cards) == set_index r) 1 0)
    ∙ below-same (λ i. cond (set_index (representative (deal n i)) == set_index r) 1 0) (λ i. cond (has (image_indexes r) i) 1 0) (choose n 5) (λ i l.
    let d = deal_is n i l in
    ap (λ b. cond b 1 0) (stands_for n r (deal n i) big dr stands d.0 ∙ ap (λ j. has (image_indexes r) j) d.1))
    ∙ weight_counts n r big dr
