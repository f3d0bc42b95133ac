-- A walk over all deals by rising index, and the hand of a deal.
use Rattle.std.proofs.Common.{◌≡◌, ◌⊎◌, inl, inr, ℕ, ◌+◌, ◌<◌, ◌≤◌, Bool, true, false, cond, IsTrue, List, [], ◌∷◌, length, drop, refl, ap, sym, subst, ◌∙◌, arith, lit≤, filter}
use Rattle.std.specs.Prelude.{◌↔◌}
use Rattle.std.proofs.lemmas.List.{drop_more, drop_all}
use Rattle.std.proofs.lemmas.Bool.{cases_Bool, cases_lt, both_ways}
use Rattle.std.proofs.lemmas.List.Sums.{length-filter, count_by-le-length}
use Rattle.std.specs.List.{count_by}
use Rattle.vp_card.specs.Cards.{IsDeck, IsHand}
use Rattle.vp_sets.specs.Sets.{choose}
use Rattle.vp_sets.specs.Index.{HasIndex, set_index, index_from, colex}
use Rattle.vp_sets.proofs.Binomials.{choose_small}
use Rattle.vp_sets.proofs.Colex.{colex_count, hand_is_set}
use Rattle.vp_suit.specs.Classes.{IsDeal, is_representative, representatives}
use Rattle.vp_suit.proofs.Deals.{deal, deal_at, index_small}

-- a hand is a deal
pub hand_deal : (cards : List ℕ) → IsHand cards → IsDeal 54 cards
hand_deal cards hand = record { five = hand.five; set = hand_is_set 54 cards hand hand.below }

-- the deal with the index 0
pub first_deal : (n : ℕ) → drop (set_index (0 ∷ 1 ∷ 2 ∷ 3 ∷ 4 ∷ [])) (colex 5 n) ≡ colex 5 n
unfolding set_index index_from choose
first_deal n = refl

-- the deals from one on are this one and the deals from the next on
pub deals_from : (n : ℕ) (cards : List ℕ) → IsDeal n cards → drop (set_index cards) (colex 5 n) ≡ cards ∷ drop (set_index cards + 1) (colex 5 n)
unfolding deal
deals_from n cards d =
    let inside : set_index cards < length (colex 5 n) = subst (λ m. set_index cards < m) (sym (colex_count 5 n)) (index_small n cards d) in
    drop_more (colex 5 n) (set_index cards) [] inside ∙ ap (λ (x : List ℕ). x ∷ drop (set_index cards + 1) (colex 5 n)) (deal_at n cards d)

-- one step of the walk
pub step : (n : ℕ) (cards new : List ℕ) (old : List (List ℕ)) (left more : Bool) → IsDeal n cards → left ≡ true → old ≡ cond left (drop (set_index cards) (colex 5 n)) []
    → (IsTrue more ↔ (set_index cards + 1 < choose n 5)) → (more ≡ true → HasIndex n 5 (set_index cards + 1) new)
    → old ≡ cards ∷ cond more (drop (set_index new) (colex 5 n)) []
step n cards new old left more d on view tells next =
    let here : old ≡ drop (set_index cards) (colex 5 n) = rw on at view in
    here ∙ deals_from n cards d ∙ elim (cases_Bool more) [
      | inl yes' ↦ ap (λ (x : List (List ℕ)). cards ∷ x) (ap (λ k. drop k (colex 5 n)) (sym (next yes').index) ∙ sym (ap (λ b. cond b (drop (set_index new) (colex 5 n)) []) yes'))
      | inr no' ↦
          let past : length (colex 5 n) ≤ set_index cards + 1 = subst (λ m. m ≤ set_index cards + 1) (sym (colex_count 5 n)) (last no') in
          ap (λ (x : List (List ℕ)). cards ∷ x) (drop_all (set_index cards + 1) (colex 5 n) past ∙ sym (ap (λ b. cond b (drop (set_index new) (colex 5 n)) []) no'))
    ]
  where
    last : more ≡ false → choose n 5 ≤ set_index cards + 1
    last no' = elim (cases_lt (set_index cards + 1) (choose n 5)) [
      | inl l ↦ absurd (both_ways more no' (tells.1 l))
      | inr l ↦ omega arith
    ]

-- ---- the classes that are left

pub left_new : (n : ℕ) (deals : List (List ℕ)) → deals ≡ colex 5 n → filter (λ cards. is_representative cards) deals ≡ representatives n
unfolding representatives
left_new n deals e = ap (λ (x : List (List ℕ)). filter (λ cards. is_representative cards) x) e

-- there are at most as many classes as deals
pub few_classes : (n : ℕ) → IsDeck n → length (representatives n) ≤ 459165024
unfolding representatives
few_classes n e =
    let a : length (filter (λ cards. is_representative cards) (colex 5 n)) ≡ count_by (λ cards. is_representative cards) (colex 5 n) = length-filter (λ cards. is_representative cards) (colex 5 n) in
    let b : count_by (λ cards. is_representative cards) (colex 5 n) ≤ length (colex 5 n) = count_by-le-length (λ cards. is_representative cards) (colex 5 n) in
    let c : length (colex 5 n) ≡ choose n 5 = colex_count 5 n in
    let d : choose n 5 ≤ 459165024 = choose_small n 5 e.1 (lit≤ tt) in
    omega arith
