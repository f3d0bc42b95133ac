-- The class of a deal: its least turn, its weight, and how the turned deal has the same.
use Rattle.std.proofs.Common.{◌≡◌, ◌⊎◌, inl, inr, ℕ, zero, suc, ◌+◌, ◌<◌, ◌≤◌, Bool, true, false, cond, ◌&&◌, ◌==◌, List, [], ◌∷◌, length, map, get_or, refl, ap, sym, subst, ◌∙◌, arith, lit≤, leb}
use Rattle.std.proofs.lemmas.Bool.{cases_lt, cases_eq, and_parts, and_from, eqb-true, eq-eqb, both_ways, cases_Bool}
use Rattle.std.proofs.lemmas.Bool.Decides.{same_from_decides}
use Rattle.std.proofs.lemmas.List.{length-map, get_or-map}
use Rattle.std.proofs.lemmas.List.Sums.{position_or_len_is}
use Rattle.vp_card.specs.Rising.{IsRising}
use Rattle.vp_sets.specs.Sets.{deck, choose, has}
use Rattle.vp_sets.specs.Index.{set_index}
use Rattle.vp_sets.proofs.Decks.{length-deck, get_or-deck, in_deck-deck}
use Rattle.vp_suit.specs.Turns.{turn}
use Rattle.vp_suit.specs.Images.{is_least}
use Rattle.vp_suit.specs.Heaps.{heap, suit_heaps}
use Rattle.vp_suit.specs.Classes.{IsDeal, image_indexes, is_representative, least_turn, representative, weight}
use Rattle.vp_suit.proofs.Below.{below, below-same}
use Rattle.vp_suit.proofs.Group.{product, product_inside, inverse, inverse_inside, origin, origin_is}
use Rattle.vp_suit.proofs.Cards.{turn_joined, turn_back, turn_first, turn-rising}
use Rattle.vp_suit.proofs.Members.{Value, has_value, value_of, least_at, least_from, least_of, count_different}
use Rattle.vp_suit.proofs.Deals.{deal, deal_at, deal_rises, turned_deal, index_small}
use Rattle.vp_suit.proofs.Score.{score, jokers, jokers_turned, heap_turned}
use Rattle.vp_suit.proofs.Falls.{Fall, fall_of, falls_tell, score_is, score_orders}
use Rattle.vp_suit.proofs.Weights.{run, run_tells, same_images, images_by, different_fresh}

-- ---- the least turn

image_at : (cards : List ℕ) (t : ℕ) → t < 24 → get_or (image_indexes cards) t 0 ≡ set_index (turn t cards)
unfolding image_indexes
image_at cards t l =
    let k : t < length (deck 24) = subst (λ m. t < m) (sym (length-deck 24)) l in
    get_or-map (λ s. set_index (turn s cards)) (deck 24) t 0 0 k ∙ ap (λ s. set_index (turn s cards)) (get_or-deck 24 t l)

image_many : (cards : List ℕ) → length (image_indexes cards) ≡ 24
unfolding image_indexes
image_many cards = length-map (deck 24) (λ s. set_index (turn s cards)) ∙ length-deck 24

-- an image is a representative where it is the least image of the deal
pub least_image_tells : (cards : List ℕ) (t : ℕ) → t < 24 → IsRising cards → is_least (set_index (turn t cards)) (image_indexes cards) ≡ is_representative (turn t cards)
unfolding is_representative image_indexes
least_image_tells cards t l r =
    same_from_decides {P = (s : ℕ) → s < 24 → set_index (turn t cards) ≤ set_index (turn s cards)} (is_least (set_index (turn t cards)) (image_indexes cards)) (is_representative (turn t cards))
    (λ h s k. least_at (set_index (turn t cards)) (λ u. set_index (turn u cards)) 24 s h k, λ h. least_from (set_index (turn t cards)) (λ u. set_index (turn u cards)) 24 h) (
      λ h s k.
          let e : turn (product s (inverse t)) (turn t cards) ≡ turn s cards =
          sym (turn_joined s (inverse t) (turn t cards) k (inverse_inside t l) (turn-rising t cards l r)) ∙ ap (λ (x : List ℕ). turn s x) (turn_back t cards l r) in
          subst (λ (x : List ℕ). set_index (turn t cards) ≤ set_index x) e (least_at (set_index (turn t cards)) (λ u. set_index (turn u (turn t cards))) 24 (product s (inverse t)) h (product_inside s (inverse t) k (inverse_inside t l))),
      λ h. least_from (set_index (turn t cards)) (λ u. set_index (turn u (turn t cards))) 24 (λ s k.
          subst (λ (x : List ℕ). set_index (turn t cards) ≤ set_index x) (sym (turn_joined s t cards k l r)) (h (product s t) (product_inside s t k l))),
    )

-- the first turn whose image is a representative is the least turn
pub least_turn_is : (cards : List ℕ) (t : ℕ) → t < 24 → IsRising cards → ((s : ℕ) → s < t → is_representative (turn s cards) ≡ false) → is_representative (turn t cards) ≡ true → least_turn cards ≡ t
unfolding least_turn
least_turn_is cards t l r before hit =
    position_or_len_is (λ index. is_least index (image_indexes cards)) (image_indexes cards) t 0 (let k : length (image_indexes cards) ≡ 24 = image_many cards in omega arith)
    (λ s k. ap (λ i. is_least i (image_indexes cards)) (image_at cards s (omega arith)) ∙ least_image_tells cards s (omega arith) r ∙ before s k)
    (λ _. ap (λ i. is_least i (image_indexes cards)) (image_at cards t l) ∙ least_image_tells cards t l r ∙ hit)

-- some turn gives a representative
pub some_least : (cards : List ℕ) → IsRising cards → ((s : ℕ) → s < 24 → is_representative (turn s cards) ≡ false) → ⊥
unfolding image_indexes
some_least cards r none =
    let w = least_of (λ t. set_index (turn t cards)) 23 in
    both_ways (is_representative (turn w.at cards)) (none w.at w.inside)
    (sym (least_image_tells cards w.at w.inside r) ∙ least_from (set_index (turn w.at cards)) (λ t. set_index (turn t cards)) 24 w.least)

-- what the representative of a deal is
pub record Represented (cards : List ℕ) : Type 0 where
  pub inside : least_turn cards < 24
  pub least : (t : ℕ) → t < 24 → set_index (representative cards) ≤ set_index (turn t cards)
  pub first : (t : ℕ) → t < least_turn cards → turn t cards ≡ representative cards → ⊥
  pub stands : is_representative (representative cards) ≡ true

record First (p : ℕ → Bool) (n : ℕ) : Type 0 where
  at : ℕ
  inside : at < n
  hit : p at ≡ true
  before : (s : ℕ) → s < at → p s ≡ false

first_of : (p : ℕ → Bool) (n : ℕ) → (First p n) ⊎ ((s : ℕ) → s < n → p s ≡ false)
first_of p zero = inr (λ s l. absurd (omega arith))
first_of p (suc n) = elim (first_of p n) [
  | inl f ↦ inl (record { at = f.at; inside = omega (arith, f.inside); hit = f.hit; before = f.before })
  | inr none ↦ elim (cases_Bool (p n)) [
    | inl hit ↦ inl (record { at = n; inside = omega arith; hit = hit; before = none })
    | inr miss ↦ inr (λ s l. elim (cases_eq s n) [ inl e ↦ rw e miss | inr d ↦ none s (omega arith) ])
  ]
]

pub represented : (cards : List ℕ) → IsRising cards → Represented cards
unfolding representative image_indexes
represented cards r = elim (first_of (λ s. is_representative (turn s cards)) 24) [
  | inl f ↦
      let e : least_turn cards ≡ f.at = least_turn_is cards f.at f.inside r f.before f.hit in
      record {
        inside = omega (arith, f.inside);
        least = λ t l. rw e (least_at (set_index (turn f.at cards)) (λ u. set_index (turn u cards)) 24 t (least_image_tells cards f.at f.inside r ∙ f.hit) l);
        first = λ t l same. both_ways (is_representative (turn t cards)) (f.before t (omega arith)) (ap (λ (x : List ℕ). is_representative x) same ∙ (rw e f.hit));
        stands = rw e f.hit;
      }
  | inr none ↦ absurd (some_least cards r none)
]

-- ---- the weight

-- the indexes of the images of a turned deal are those of the deal's images
pub images_kept : (cards : List ℕ) (t v : ℕ) → t < 24 → IsRising cards → has (image_indexes (turn t cards)) v ≡ has (image_indexes cards) v
unfolding image_indexes
images_kept cards t v l r =
    same_from_decides {P = Value (λ s. set_index (turn s cards)) 24 v} (has (image_indexes (turn t cards)) v) (has (image_indexes cards) v) (
      λ h.
          let w = value_of (λ s. set_index (turn s (turn t cards))) 24 v h in
          record { at = product w.at t; inside = product_inside w.at t w.inside l; is = ap (λ (x : List ℕ). set_index x) (sym (turn_joined w.at t cards w.inside l r)) ∙ w.is },
      λ w.
          let e : turn (product w.at (inverse t)) (turn t cards) ≡ turn w.at cards =
          sym (turn_joined w.at (inverse t) (turn t cards) w.inside (inverse_inside t l) (turn-rising t cards l r)) ∙ ap (λ (x : List ℕ). turn w.at x) (turn_back t cards l r) in
          let h : has (map (λ s. set_index (turn s (turn t cards))) (deck 24)) (set_index (turn (product w.at (inverse t)) (turn t cards))) ≡ true =
          has_value (λ s. set_index (turn s (turn t cards))) 24 (product w.at (inverse t)) (product_inside w.at (inverse t) w.inside (inverse_inside t l)) in
          subst (λ i. has (map (λ s. set_index (turn s (turn t cards))) (deck 24)) i ≡ true) (ap (λ (x : List ℕ). set_index x) e ∙ w.is) h,
    ) (
      λ h. value_of (λ s. set_index (turn s cards)) 24 v h,
      λ w. subst (λ i. has (map (λ s. set_index (turn s cards)) (deck 24)) i ≡ true) w.is (has_value (λ s. set_index (turn s cards)) 24 w.at w.inside),
    )

-- the weight of a deal, counted among the indexes of all deals
pub weight_counts : (n : ℕ) (cards : List ℕ) → 52 ≤ n → IsDeal n cards → below (λ i. cond (has (image_indexes cards) i) 1 0) (choose n 5) ≡ weight cards
unfolding weight image_indexes
weight_counts n cards big d = count_different (choose n 5) (image_indexes cards) (λ v h.
    let w = value_of (λ s. set_index (turn s cards)) 24 v h in
    subst (λ i. i < choose n 5) w.is (index_small n (turn w.at cards) (turned_deal n w.at cards big w.inside d)))

pub weight_kept : (n : ℕ) (cards : List ℕ) (t : ℕ) → 52 ≤ n → IsDeal n cards → t < 24 → weight (turn t cards) ≡ weight cards
weight_kept n cards t big d l =
    sym (weight_counts n (turn t cards) big (turned_deal n t cards big l d))
    ∙ below-same (λ i. cond (has (image_indexes (turn t cards)) i) 1 0) (λ i. cond (has (image_indexes cards) i) 1 0) (choose n 5) (λ i k. ap (λ b. cond b 1 0) (images_kept cards t i l (deal_rises n cards d)))
    ∙ weight_counts n cards big d

-- two images are equal where each suit has equal heaps
same_heaps : (n : ℕ) (cards : List ℕ) (i j : ℕ) → 52 ≤ n → IsDeal n cards → i < 24 → j < 24 → set_index (turn i cards) ≡ set_index (turn j cards) → (y : ℕ) → y < 4 → heap (origin i y) cards ≡ heap (origin j y) cards
same_heaps n cards i j big d li lj e y ly =
    let same : turn i cards ≡ turn j cards =
    sym (deal_at n (turn i cards) (turned_deal n i cards big li d)) ∙ ap (λ k. deal n k) e ∙ deal_at n (turn j cards) (turned_deal n j cards big lj d) in
    sym (heap_turned i y cards li ly) ∙ ap (λ (x : List ℕ). heap y x) same ∙ heap_turned j y cards lj ly

same_index : (n : ℕ) (cards : List ℕ) (i j : ℕ) → 52 ≤ n → IsDeal n cards → i < 24 → j < 24 → ((y : ℕ) → y < 4 → heap (origin i y) cards ≡ heap (origin j y) cards) → set_index (turn i cards) ≡ set_index (turn j cards)
same_index n cards i j big d li lj h =
    let di = turned_deal n i cards big li d in
    let dj = turned_deal n j cards big lj d in
    let each : (y : ℕ) → y < 4 → heap y (turn i cards) ≡ heap y (turn j cards) = λ y ly. heap_turned i y cards li ly ∙ h y ly ∙ sym (heap_turned j y cards lj ly) in
    let e0 : heap 0 (turn i cards) ≡ heap 0 (turn j cards) = each 0 (omega arith) in
    let e1 : heap 1 (turn i cards) ≡ heap 1 (turn j cards) = each 1 (omega arith) in
    let e2 : heap 2 (turn i cards) ≡ heap 2 (turn j cards) = each 2 (omega arith) in
    let e3 : heap 3 (turn i cards) ≡ heap 3 (turn j cards) = each 3 (omega arith) in
    let ji : jokers (turn i cards) ≡ jokers cards = jokers_turned i cards li in
    let jj : jokers (turn j cards) ≡ jokers cards = jokers_turned j cards lj in
    let si : score (turn i cards) ≡ _ = score_is (turn i cards) (deal_rises n (turn i cards) di) in
    let sj : score (turn j cards) ≡ _ = score_is (turn j cards) (deal_rises n (turn j cards) dj) in
    let a : set_index (turn i cards) ≤ set_index (turn j cards) = (score_orders n (turn i cards) (turn j cards) di dj).1 (omega arith) in
    let b : set_index (turn j cards) ≤ set_index (turn i cards) = (score_orders n (turn j cards) (turn i cards) dj di).1 (omega arith) in
    omega arith

images_tell : (n : ℕ) (cards : List ℕ) (i j : ℕ) → 52 ≤ n → IsDeal n cards → Fall cards → i < 24 → j < 24
    → (set_index (turn i cards) == set_index (turn j cards)) ≡ same_images (heap 0 cards == heap 1 cards) (heap 1 cards == heap 2 cards) (heap 2 cards == heap 3 cards) i j
unfolding same_images
images_tell n cards i j big d f li lj =
    let a : Bool = heap 0 cards == heap 1 cards in
    let b : Bool = heap 1 cards == heap 2 cards in
    let c : Bool = heap 2 cards == heap 3 cards in
    let tells : (y : ℕ) → y < 4 → (heap (origin i y) cards == heap (origin j y) cards) ≡ run a b c (origin i y) (origin j y) = λ y ly.
    run_tells (λ x. heap x cards) (origin i y) (origin j y) f.first f.middle f.last (origin_is i y li ly).0 (origin_is j y lj ly).0 in
    same_from_decides {P = (y : ℕ) → y < 4 → heap (origin i y) cards ≡ heap (origin j y) cards} (set_index (turn i cards) == set_index (turn j cards)) (same_images a b c i j)
    (λ h. same_heaps n cards i j big d li lj (eqb-true _ _ h), λ h. eq-eqb _ _ (same_index n cards i j big d li lj h)) (
      λ h y ly.
          let p = and_parts (run a b c (origin i 0) (origin j 0) && run a b c (origin i 1) (origin j 1)) (run a b c (origin i 2) (origin j 2) && run a b c (origin i 3) (origin j 3)) h in
          let q = and_parts (run a b c (origin i 0) (origin j 0)) (run a b c (origin i 1) (origin j 1)) p.0 in
          let r = and_parts (run a b c (origin i 2) (origin j 2)) (run a b c (origin i 3) (origin j 3)) p.1 in
          eqb-true _ _ (tells y ly ∙ place_of (λ x. run a b c (origin i x) (origin j x)) y ly q.0 q.1 r.0 r.1),
      λ h.
          let at : (y : ℕ) → y < 4 → run a b c (origin i y) (origin j y) ≡ true = λ y ly. sym (tells y ly) ∙ eq-eqb _ _ (h y ly) in
          and_from _ _ (and_from _ _ (at 0 (omega arith)) (at 1 (omega arith))) (and_from _ _ (at 2 (omega arith)) (at 3 (omega arith))),
    )
  where
    place_of : (p : ℕ → Bool) (y : ℕ) → y < 4 → p 0 ≡ true → p 1 ≡ true → p 2 ≡ true → p 3 ≡ true → p y ≡ true
    place_of p zero l h0 h1 h2 h3 = h0
    place_of p (suc zero) l h0 h1 h2 h3 = h1
    place_of p (suc (suc zero)) l h0 h1 h2 h3 = h2
    place_of p (suc (suc (suc zero))) l h0 h1 h2 h3 = h3
    place_of p (suc (suc (suc (suc y)))) l h0 h1 h2 h3 = absurd (omega arith)

-- the weight of a representative, by which neighbours' heaps are equal
pub weight_is : (n : ℕ) (cards : List ℕ) → 52 ≤ n → IsDeal n cards → is_representative cards ≡ true
    → weight cards ≡ images_by (heap 0 cards == heap 1 cards) (heap 1 cards == heap 2 cards) (heap 2 cards == heap 3 cards)
unfolding weight image_indexes images_by
weight_is n cards big d stands =
    let f = fall_of cards (falls_tell n cards big d ∙ stands) in
    different_fresh (λ t. set_index (turn t cards)) (λ i j. same_images (heap 0 cards == heap 1 cards) (heap 1 cards == heap 2 cards) (heap 2 cards == heap 3 cards) i j) 24 (deck 24)
    (λ i j li lj. images_tell n cards i j big d f li lj) (in_deck-deck 24)

-- the same, of heaps that were reckoned
pub weight_at : (cards heaps : List ℕ) (a b c : Bool) → IsDeal 54 cards → is_representative cards ≡ true
    → heaps ≡ suit_heaps cards → (get_or heaps 0 0 == get_or heaps 1 0) ≡ a → (get_or heaps 1 0 == get_or heaps 2 0) ≡ b → (get_or heaps 2 0 == get_or heaps 3 0) ≡ c
    → weight cards ≡ images_by a b c
unfolding suit_heaps
weight_at cards heaps a b c d stands e p q r =
    let p' : (heap 0 cards == heap 1 cards) ≡ a = rw e at p in
    let q' : (heap 1 cards == heap 2 cards) ≡ b = rw e at q in
    let r' : (heap 2 cards == heap 3 cards) ≡ c = rw e at r in
    weight_is 54 cards (lit≤ tt) d stands ∙ (rw (p', q', r') refl)

-- a deal and its representative have one weight
pub representative_weighs : (n : ℕ) (cards : List ℕ) → 52 ≤ n → IsDeal n cards → weight (representative cards) ≡ weight cards
unfolding representative
representative_weighs n cards big d = weight_kept n cards (least_turn cards) big d (represented cards (deal_rises n cards d)).inside

-- ---- a search of the least turn that has come to turn t

pub more_turns : (cards image : List ℕ) (t : ℕ) → IsRising cards → image ≡ turn t cards → t < 24 → ((s : ℕ) → s < t → is_representative (turn s cards) ≡ false) → is_representative image ≡ false → t + 1 < 24
more_turns cards image t r e l before miss = elim (cases_lt (t + 1) 24) [
  | inl k ↦ k
  | inr k ↦ absurd (some_least cards r (λ s j. elim (cases_eq s t) [
    | inl same ↦ ap (λ u. is_representative (turn u cards)) same ∙ ap (λ (x : List ℕ). is_representative x) (sym e) ∙ miss
    | inr other ↦ before s (omega arith)
  ]))
]

pub record Found (cards image : List ℕ) (t : ℕ) : Type 0 where
  pub image_is : image ≡ representative cards
  pub turn_is : t ≡ least_turn cards
  pub least : (s : ℕ) → s < 24 → set_index image ≤ set_index (turn s cards)

pub found : (cards image : List ℕ) (t : ℕ) → IsRising cards → image ≡ turn t cards → t < 24 → ((s : ℕ) → s < t → is_representative (turn s cards) ≡ false) → is_representative image ≡ true → Found cards image t
unfolding representative
found cards image t r e l before hit =
    let hit' : is_representative (turn t cards) ≡ true = rw e at hit in
    let same : least_turn cards ≡ t = least_turn_is cards t l r before hit' in
    let is : image ≡ representative cards = e ∙ ap (λ u. turn u cards) (sym same) in
    record { image_is = is; turn_is = sym same; least = λ s k. subst (λ (x : List ℕ). set_index x ≤ set_index (turn s cards)) (sym is) ((represented cards r).least s k) }

-- the first turn gives a representative itself
pub found_own : (cards : List ℕ) → IsRising cards → is_representative cards ≡ true → Found cards cards 0
found_own cards r stands = found cards cards 0 r (sym (turn_first cards r)) (omega arith) (λ s l. absurd (omega arith)) stands
