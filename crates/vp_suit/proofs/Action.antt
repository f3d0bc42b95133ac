-- Numbers moved by turns: the images of a number, the least of them, and sums over all numbers by the least images.
use Rattle.std.proofs.Common.{◌≡◌, ℕ, suc, ◌*◌, ◌<◌, ◌≤◌, Bool, true, false, cond, ◌&&◌, List, length, map, ap, sym, ◌∙◌, arith}
use Rattle.std.proofs.lemmas.Bool.{and_parts, and_from, false_from_ne_true}
use Rattle.std.proofs.Math.Nat.{mul_comm}
use Rattle.vp_sets.specs.Sets.{deck, has}
use Rattle.vp_suit.specs.Images.{different, is_least}
use Rattle.vp_suit.proofs.Below.{below, below-same, below-exchange, below-times, below-one}
use Rattle.vp_suit.proofs.Members.{has_value, value_of, least_at, least_from, least_of, count_different}

-- m + 1 turns of the numbers below n: joined they are turns again, and each is turned back by one
pub record AreTurns (act : ℕ → ℕ → ℕ) (m n : ℕ) : Type 0 where
  pub within : (t i : ℕ) → t < suc m → i < n → act t i < n
  pub product : ℕ → ℕ → ℕ
  pub product-inside : (s t : ℕ) → s < suc m → t < suc m → product s t < suc m
  pub joined : (s t i : ℕ) → s < suc m → t < suc m → i < n → act s (act t i) ≡ act (product s t) i
  pub inverse : ℕ → ℕ
  pub inverse-inside : (t : ℕ) → t < suc m → inverse t < suc m
  pub back : (t i : ℕ) → t < suc m → i < n → act (inverse t) (act t i) ≡ i

-- the numbers that the turns make of i
abbrev pub images : (ℕ → ℕ → ℕ) → ℕ → ℕ → List ℕ
images act m i = map (λ t. act t i) (deck (suc m))

-- r stands for the class of i
abbrev pub stands : (ℕ → ℕ → ℕ) → ℕ → ℕ → ℕ → Bool
stands act m r i = is_least r (images act m r) && has (images act m r) i

-- the least image of a number stands for it, and nothing else does
pub stands_one : (act : ℕ → ℕ → ℕ) (m n : ℕ) → AreTurns act m n → (i t r : ℕ) → i < n → t < suc m → ((s : ℕ) → s < suc m → act t i ≤ act s i) → r < n
    → stands act m r i ≡ true → r ≡ act t i
stands_one act m n turns i t r inside it least small h =
    let two = and_parts _ _ h in
    let v = value_of (λ s. act s r) (suc m) i two.1 in
    let s' : ℕ = turns.inverse v.at in
    let is' : s' < suc m = turns.inverse-inside v.at v.inside in
    let from : act s' i ≡ r = ap (λ j. act s' j) (sym v.is) ∙ turns.back v.at r v.inside small in
    let above : act t i ≤ act s' i = least s' is' in
    let step : act t i ≡ act (turns.product t v.at) r = ap (λ j. act t j) (sym v.is) ∙ turns.joined t v.at r it v.inside small in
    let under : r ≤ act (turns.product t v.at) r = least_at r (λ u. act u r) (suc m) (turns.product t v.at) two.0 (turns.product-inside t v.at it v.inside) in
    omega arith

pub stands_least : (act : ℕ → ℕ → ℕ) (m n : ℕ) → AreTurns act m n → (i t : ℕ) → i < n → t < suc m → ((s : ℕ) → s < suc m → act t i ≤ act s i)
    → stands act m (act t i) i ≡ true
stands_least act m n turns i t inside it least =
    let first : is_least (act t i) (images act m (act t i)) ≡ true =
    least_from (act t i) (λ s. act s (act t i)) (suc m) (λ s is.
    let e : act s (act t i) ≡ act (turns.product s t) i = turns.joined s t i is it inside in
    let l : act t i ≤ act (turns.product s t) i = least (turns.product s t) (turns.product-inside s t is it) in
    omega arith) in
    let e : act (turns.inverse t) (act t i) ≡ i = turns.back t i it inside in
    let h : has (images act m (act t i)) (act (turns.inverse t) (act t i)) ≡ true = has_value (λ s. act s (act t i)) (suc m) (turns.inverse t) (turns.inverse-inside t it) in
    and_from _ _ first (rw e at h)

-- what stands for a number gives its value
pub one_class : (act : ℕ → ℕ → ℕ) (m n : ℕ) → AreTurns act m n → (x : ℕ → ℕ) → ((t i : ℕ) → t < suc m → i < n → x (act t i) ≡ x i) → (i : ℕ) → i < n
    → below (λ r. cond (stands act m r i) (x r) 0) n ≡ x i
one_class act m n turns x kept i inside =
    let w = least_of (λ t. act t i) m in
    let r : ℕ = act w.at i in
    let small : r < n = turns.within w.at i w.inside inside in
    let yes : stands act m r i ≡ true = stands_least act m n turns i w.at inside w.inside w.least in
    let others : (j : ℕ) → j < n → (j ≡ r → ⊥) → cond (stands act m j i) (x j) 0 ≡ 0 = λ j l d.
    let no : stands act m j i ≡ false = false_from_ne_true (stands act m j i) (λ h. d (stands_one act m n turns i w.at j inside w.inside w.least l h)) in
    ap (λ b. cond b (x j) 0) no in
    below-one (λ j. cond (stands act m j i) (x j) 0) n r small others ∙ ap (λ b. cond b (x r) 0) yes ∙ kept w.at i w.inside inside

parts : (a b : Bool) (x : ℕ) → cond (a && b) x 0 ≡ cond a x 0 * cond b 1 0
parts true true x = omega arith
parts true false x = omega arith
parts false true x = omega arith
parts false false x = omega arith

-- the sum over all numbers is the sum over the least images, each taken as often as it has different images
pub classes : (act : ℕ → ℕ → ℕ) (m n : ℕ) → AreTurns act m n → (x : ℕ → ℕ) → ((t i : ℕ) → t < suc m → i < n → x (act t i) ≡ x i)
    → below x n ≡ below (λ r. cond (is_least r (images act m r)) (length (different (images act m r)) * x r) 0) n
classes act m n turns x kept =
    let spread : below (λ i. below (λ r. cond (stands act m r i) (x r) 0) n) n ≡ below x n =
    below-same (λ i. below (λ r. cond (stands act m r i) (x r) 0) n) x n (one_class act m n turns x kept) in
    let turned : below (λ i. below (λ r. cond (stands act m r i) (x r) 0) n) n ≡ below (λ r. below (λ i. cond (stands act m r i) (x r) 0) n) n =
    below-exchange (λ i r. cond (stands act m r i) (x r) 0) n n in
    let each : (r : ℕ) → r < n → below (λ i. cond (stands act m r i) (x r) 0) n ≡ cond (is_least r (images act m r)) (length (different (images act m r)) * x r) 0 = λ r small.
    let least : Bool = is_least r (images act m r) in
    let k : ℕ = cond least (x r) 0 in
    let a : below (λ i. cond (stands act m r i) (x r) 0) n ≡ below (λ i. k * cond (has (images act m r) i) 1 0) n =
    below-same (λ i. cond (stands act m r i) (x r) 0) (λ i. k * cond (has (images act m r) i) 1 0) n (λ i l. parts least (has (images act m r) i) (x r)) in
    let b : below (λ i. k * cond (has (images act m r) i) 1 0) n ≡ k * below (λ i. cond (has (images act m r) i) 1 0) n = below-times k (λ i. cond (has (images act m r) i) 1 0) n in
    let c : below (λ i. cond (has (images act m r) i) 1 0) n ≡ length (different (images act m r)) =
    count_different n (images act m r) (λ v h. let w = value_of (λ t. act t r) (suc m) v h in let l : act w.at r < n = turns.within w.at r w.inside small in rw w.is at l) in
    let d : k * length (different (images act m r)) ≡ cond least (length (different (images act m r)) * x r) 0 = weighed least (x r) (length (different (images act m r))) in
    a ∙ b ∙ ap (λ y. k * y) c ∙ d in
    sym spread ∙ turned ∙ below-same (λ r. below (λ i. cond (stands act m r i) (x r) 0) n) (λ r. cond (is_least r (images act m r)) (length (different (images act m r)) * x r) 0) n each
  where
    weighed : (b : Bool) (x w : ℕ) → cond b x 0 * w ≡ cond b (w * x) 0
    weighed true x w = mul_comm x w
    weighed false x w = omega arith
