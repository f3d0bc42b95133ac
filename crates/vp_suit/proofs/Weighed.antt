-- Sums over all deals, and a number that all deals of a class have alike, summed over the classes: what was added up, and what is
-- left of them.
use Rattle.std.proofs.Common.{◌≡◌, ℕ, zero, suc, true, ◌+◌, ◌*◌, ◌<◌, ◌≤◌, List, [], ◌∷◌, refl, ap, sym, subst, ◌∙◌, arith, inl, inr}
use Rattle.std.specs.List.{All}
use Rattle.std.specs.Prelude.{sum_by}
use Rattle.std.proofs.Math.Nat.{mul-suc}
use Rattle.std.proofs.lemmas.Bool.{cases_lt}
use Rattle.std.proofs.lemmas.List.Sums.{sum_by-cons}
use Rattle.std.proofs.lemmas.List.Elements.{All-head, All-rest, All-same, All-tail}
use Rattle.vp_card.specs.Cards.{IsDeck, in_deck}
use Rattle.vp_sets.specs.Index.{set_index}
use Rattle.vp_sets.specs.Sets.{choose, combos, deck}
use Rattle.vp_suit.specs.Classes.{IsDeal, IsKept, is_representative, representative, representatives, weight}
use Rattle.vp_suit.proofs.Below.{below, below-zero, below-suc, below-same, below-none}
use Rattle.vp_suit.proofs.ClassLaws.{representative_own, representatives_only}
use Rattle.vp_suit.proofs.Deals.{deal, deal_at, deal_is, index_small, sum_by_classes, sum_of_deals}
use Rattle.vp_suit.proofs.TurnedDraws.{dealt_is}

-- ---- sums over all deals

-- functions that agree on deals have the same sum
pub deals_agree : (n : ℕ) (f g : List ℕ → ℕ) → ((cards : List ℕ) → IsDeal n cards → f cards ≡ g cards) → sum_by f (combos 5 (deck n)) ≡ sum_by g (combos 5 (deck n))
deals_agree n f g same =
    let each : below (λ i. f (deal n i)) (choose n 5) ≡ below (λ i. g (deal n i)) (choose n 5) =
    below-same (λ i. f (deal n i)) (λ i. g (deal n i)) (choose n 5) (λ i l. same (deal n i) (deal_is n i l).0) in
    let one = sum_of_deals n f in
    let two = sum_of_deals n g in
    omega arith

below_le : (x : ℕ → ℕ) (m n : ℕ) → ((i : ℕ) → i < n → x i ≤ m) → below x n ≤ m * n
below_le x m zero h = omega (arith, below-zero x)
below_le x m (suc n) h = omega (arith, below-suc x n, below_le x m n (λ i l. h i (omega arith)), h n (omega arith), mul-suc m n)

-- a bound on each bounds the sum
pub deals_le : (n m : ℕ) (f : List ℕ → ℕ) → ((cards : List ℕ) → IsDeal n cards → f cards ≤ m) → sum_by f (combos 5 (deck n)) ≤ m * choose n 5
deals_le n m f small =
    let each : below (λ i. f (deal n i)) (choose n 5) ≤ m * choose n 5 = below_le (λ i. f (deal n i)) m (choose n 5) (λ i l. small (deal n i) (deal_is n i l).0) in
    let whole = sum_of_deals n f in
    omega arith

each_none : (x : ℕ → ℕ) (n i : ℕ) → below x n ≡ 0 → i < n → x i ≡ 0
each_none x zero i e l = absurd (omega arith)
each_none x (suc n) i e l =
    let s = below-suc x n in
    elim (cases_lt i n) [
      | inl m ↦ each_none x n i (omega (arith, s, e)) m
      | inr m ↦ let q : i ≡ n = omega arith in ap x q ∙ omega (arith, s, e)
    ]

-- the sum over all deals of a number is 0 exactly where each deal's is
pub each_deal_none : (n : ℕ) (f : List ℕ → ℕ) → sum_by f (combos 5 (deck n)) ≡ 0 → (cards : List ℕ) → IsDeal n cards → f cards ≡ 0
each_deal_none n f e cards d =
    sym (ap f (deal_at n cards d)) ∙ each_none (λ i. f (deal n i)) (choose n 5) (set_index cards) (omega (arith, sum_of_deals n f, e)) (index_small n cards d)

pub deals_none : (n : ℕ) (f : List ℕ → ℕ) → ((cards : List ℕ) → IsDeal n cards → f cards ≡ 0) → sum_by f (combos 5 (deck n)) ≡ 0
deals_none n f h = sum_of_deals n f ∙ below-none (λ i. f (deal n i)) (choose n 5) (λ i l. h (deal n i) (deal_is n i l).0)

-- ---- class by class

-- weight times f, over some classes
abbrev pub weighed : (List ℕ → ℕ) → List (List ℕ) → ℕ
weighed f classes = sum_by (λ cards. weight cards * f cards) classes

-- the representative of a class of deals
abbrev pub IsClass : ℕ → List ℕ → Type 0
IsClass n cards = IsDeal n cards × (is_representative cards ≡ true)

-- what each class has, its weight times what f gives, sums to what f gives for all deals
pub by_classes : (n : ℕ) (f g : List ℕ → ℕ) → 52 ≤ n → IsKept n f → ((cards : List ℕ) → IsClass n cards → g cards ≡ weight cards * f cards) → sum_by g (representatives n) ≡ sum_by f (combos 5 (deck n))
by_classes n f g big kept is = same_on (representatives n) (representatives_only n) ∙ sum_by_classes n big f kept
  where
    same_on : (classes : List (List ℕ)) → All (IsClass n) classes → sum_by g classes ≡ weighed f classes
    same_on [] all = refl
    same_on (cards ∷ more) all =
        let here : g cards ≡ weight cards * f cards = is cards (All-head (IsClass n) cards more all) in
        let there : sum_by g more ≡ weighed f more = same_on more (All-tail (IsClass n) cards more all) in
        omega (arith, sum_by-cons g cards more, sum_by-cons (λ x. weight x * f x) cards more)

-- all classes but those that are left
pub record Added (n : ℕ) (f : List ℕ → ℕ) (left : List (List ℕ)) (sum : ℕ) : Type 0 where
  pub each : All (IsClass n) left
  pub added : sum + weighed f left ≡ sum_by f (combos 5 (deck n))

pub added_none : (n : ℕ) (f : List ℕ → ℕ) (left : List (List ℕ)) → IsDeck n → IsKept n f → left ≡ representatives n → Added n f left 0
added_none n f left known kept is = record {
  each = All-same (IsClass n) left (representatives n) is (representatives_only n);
  added = (let same : weighed f left ≡ weighed f (representatives n) = ap (weighed f) is in let all = sum_by_classes n known.0 f kept in omega arith);
}

module _ (n : ℕ) (f : List ℕ → ℕ) (cards : List ℕ) (left rest : List (List ℕ)) (is : left ≡ cards ∷ rest) where
  class : (sum : ℕ) → Added n f left sum → IsClass n cards
  class sum a = All-head (IsClass n) cards rest (subst (λ (l : List (List ℕ)). All (IsClass n) l) is a.each)

  -- the next class is one of a hand of the deck
  pub next_hand : (sum : ℕ) → Added n f left sum → in_deck n cards ≡ true
  next_hand sum a = (dealt_is n cards (class sum a).0).of_deck

  -- its representative stands for itself
  pub next_own : (sum : ℕ) → IsDeck n → Added n f left sum → representative cards ≡ cards
  next_own sum known a = let c = class sum a in representative_own n cards known.0 c.0 c.1

  weighed_left : weighed f left ≡ weight cards * f cards + weighed f rest
  weighed_left = ap (weighed f) is ∙ sum_by-cons (λ x. weight x * f x) cards rest

  pub added_more : (sum new : ℕ) → new ≡ sum + weight cards * f cards → Added n f left sum → Added n f rest new
  added_more sum new e a = record {
    each = All-rest (IsClass n) cards rest left is a.each;
    added = (let w = weighed_left in omega (arith, a.added));
  }

  -- with the next class the sum is still a part of the whole
  pub added_fits : (sum : ℕ) → Added n f left sum → sum + weight cards * f cards ≤ sum_by f (combos 5 (deck n))
  added_fits sum a = let w = weighed_left in omega (arith, a.added)

pub added_all : (n : ℕ) (f : List ℕ → ℕ) (left : List (List ℕ)) (sum : ℕ) → left ≡ [] → Added n f left sum → sum ≡ sum_by f (combos 5 (deck n))
added_all n f left sum none a = let e : weighed f left ≡ 0 = ap (weighed f) none in omega (arith, a.added)

-- what a class adds
pub weighed_is : {w v x y : ℕ} → w ≡ x → v ≡ y → w * v ≡ x * y
weighed_is e f = rw (e, f) refl
