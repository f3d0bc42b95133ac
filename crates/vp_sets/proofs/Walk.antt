-- The steps of numbering a set, of making the set with an index, and of going to the next set.
use Rattle.std.proofs.Common.{◌≡◌, ◌⊎◌, inl, inr, ℕ, zero, suc, ◌+◌, ◌-◌, ◌<◌, ◌≤◌, refl, ap, sym, ◌∙◌, subst, arith, zero-add, add-one, List, [], ◌∷◌, ◌++◌, length, get_or, take, drop, set}
use Rattle.std.specs.List.Sorted.{IsStrictlyIncreasing}
use Rattle.std.proofs.Math.Nat.{le_trans}
use Rattle.std.proofs.Math.Seq.{take-suc}
use Rattle.std.proofs.lemmas.List.{length-take-le, take-append-drop, get_or-drop, drop-set}
use Rattle.std.proofs.lemmas.Bool.{cases_lt}
use Rattle.vp_card.specs.Rising.{IsBelow, IsRising}
use Rattle.vp_sets.specs.Sets.{choose}
use Rattle.vp_sets.specs.Index.{IsSet, HasIndex, index_from, set_index}
use Rattle.vp_sets.proofs.Binomials.{choose-zero, choose-none, choose-suc, choose-few, choose_small}
use Rattle.vp_card.proofs.Rising.{rising_from}
use Rattle.vp_sets.proofs.Colex.{Below, below_from, below_at, rises_at, set_rises, set_below, set_from, index-none, index-cons, index-append, index-push, index_lt}

pub above_take : (c i : ℕ) (s : List ℕ) → IsBelow c s → IsBelow c (take i s)
above_take c zero [] h = tt
above_take c zero (d ∷ s) h = tt
above_take c (suc i) [] h = tt
above_take c (suc i) (d ∷ s) h = (h.0, above_take c i s h.1)

pub rises_take : (i : ℕ) (s : List ℕ) → IsRising s → IsRising (take i s)
rises_take zero [] h = tt
rises_take zero (d ∷ s) h = tt
rises_take (suc i) [] h = tt
rises_take (suc i) (d ∷ s) h = (above_take d i s h.0, rises_take i s h.1)

pub below_take : (n i : ℕ) (s : List ℕ) → Below n s → Below n (take i s)
below_take n zero [] h = tt
below_take n zero (d ∷ s) h = tt
below_take n (suc i) [] h = tt
below_take n (suc i) (d ∷ s) h = (h.0, below_take n i s h.1)

-- one more member of a set counted
pub index_take : (s : List ℕ) (i : ℕ) → i < length s → index_from 0 (take (suc i) s) ≡ index_from 0 (take i s) + choose (get_or s i 0) (suc i)
index_take s i l =
    let a : index_from 0 (take (suc i) s) ≡ index_from 0 (take i s ++ get_or s i 0 ∷ []) = ap (λ z. index_from 0 z) (take-suc s i 0 l) in
    let b : length (take i s) ≡ i = length-take-le i s (omega arith) in
    a ∙ index-push (take i s) (get_or s i 0) ∙ ap (λ m. index_from 0 (take i s) + choose (get_or s i 0) (suc m)) b

-- no index of a set of the decks is large
pub index_small : (n : ℕ) (s : List ℕ) → n ≤ 54 → IsRising s → Below n s → length s ≤ 5 → index_from 0 s ≤ 459165024
index_small n s a r b l = omega (arith, index_lt n s r b, choose_small n (length s) a l)

pub index_take_small : (s : List ℕ) (i : ℕ) → IsSet 54 s → length s ≤ 5 → i < length s → index_from 0 (take i s) + choose (get_or s i 0) (suc i) ≤ 459165024
index_take_small s i h few l =
    let m : length (take (suc i) s) ≡ suc i = length-take-le (suc i) s (omega arith) in
    let k : index_from 0 (take (suc i) s) ≤ 459165024 = index_small 54 (take (suc i) s) (omega arith) (rises_take (suc i) s (set_rises 54 s h)) (below_take 54 (suc i) s (set_below 54 s h)) (omega arith) in
    omega (arith, index_take s i l)

pub index_cut : (i : ℕ) (s : List ℕ) → i ≤ length s → index_from 0 s ≡ index_from 0 (take i s) + index_from i (drop i s)
index_cut i s l =
    let a : length (take i s) ≡ i = length-take-le i s l in
    let e : 0 + length (take i s) ≡ i = omega arith in
    ap (λ z. index_from 0 z) (sym (take-append-drop i s)) ∙ index-append 0 (take i s) (drop i s) ∙ ap (λ j. index_from 0 (take i s) + index_from j (drop i s)) e

-- the run at the front of a set ends just below the next index
run_index : (s : List ℕ) (p : ℕ) → p < length s → ((k : ℕ) → k < p → get_or s k 0 + 1 ≡ get_or s (k + 1) 0) → index_from 0 (take (suc p) s) + 1 ≡ choose (suc (get_or s p 0)) (suc p)
run_index s zero l h =
    let z : index_from 0 (take 0 s) ≡ 0 = at_zero s in
    omega (arith, index_take s 0 l, choose-suc (get_or s 0 0) 0, choose-zero (get_or s 0 0))
  where
    at_zero : (s : List ℕ) → index_from 0 (take 0 s) ≡ 0
    at_zero [] = index-none 0
    at_zero (c ∷ s) = index-none 0
run_index s (suc p) l h =
    let ih : index_from 0 (take (suc p) s) + 1 ≡ choose (suc (get_or s p 0)) (suc p) = run_index s p (omega arith) (λ k m. h k (omega arith)) in
    let e : get_or s p 0 + 1 ≡ get_or s (suc p) 0 = h p (omega arith) ∙ ap (λ i. get_or s i 0) (add-one p) in
    let f : choose (suc (get_or s p 0)) (suc p) ≡ choose (get_or s (suc p) 0) (suc p) = ap (λ m. choose m (suc p)) (omega arith) in
    omega (arith, index_take s (suc p) l, choose-suc (get_or s (suc p) 0) (suc p))

-- the least members have the index 0
least_index : (t : List ℕ) (p : ℕ) → p ≤ length t → ((k : ℕ) → k < p → get_or t k 0 ≡ k) → index_from 0 (take p t) ≡ 0
least_index [] zero l h = index-none 0
least_index (c ∷ t) zero l h = index-none 0
least_index t (suc p) l h =
    let ih : index_from 0 (take p t) ≡ 0 = least_index t p (omega arith) (λ k m. h k (omega arith)) in
    let e : choose (get_or t p 0) (suc p) ≡ 0 = ap (λ m. choose m (suc p)) (h p (omega arith)) ∙ choose-few p (suc p) (omega arith) in
    omega (arith, index_take t p (omega arith))

-- the member at p is the first that can rise
pub record Free (n : ℕ) (s : List ℕ) (p : ℕ) : Type 0 where
  pub within : p < length s
  pub run : (k : ℕ) → k < p → get_or s k 0 + 1 ≡ get_or s (k + 1) 0
  pub free : suc p < length s → get_or s p 0 + 1 < get_or s (suc p) 0
  pub end : length s ≡ suc p → get_or s p 0 + 1 < n

-- t is s with the member at p raised by one, and the least members below it
pub record Raised (s : List ℕ) (p : ℕ) (t : List ℕ) : Type 0 where
  pub same : length t ≡ length s
  pub low : (k : ℕ) → k < p → get_or t k 0 ≡ k
  pub at : get_or t p 0 ≡ get_or s p 0 + 1
  pub rest : drop (suc p) t ≡ drop (suc p) s

raised_index : (n : ℕ) (s : List ℕ) (p : ℕ) (t : List ℕ) → Free n s p → Raised s p t → index_from 0 t ≡ index_from 0 s + 1
raised_index n s p t f r =
    let l : p < length s = f.within in
    let l' : p < length t = omega (arith, r.same) in
    let a : index_from 0 (take (suc p) s) + 1 ≡ choose (suc (get_or s p 0)) (suc p) = run_index s p l f.run in
    let b : index_from 0 (take p t) ≡ 0 = least_index t p (omega arith) r.low in
    let d : choose (get_or t p 0) (suc p) ≡ choose (suc (get_or s p 0)) (suc p) = ap (λ m. choose m (suc p)) (r.at ∙ add-one (get_or s p 0)) in
    let e : index_from (suc p) (drop (suc p) t) ≡ index_from (suc p) (drop (suc p) s) = ap (λ z. index_from (suc p) z) r.rest in
    omega (arith, index_take t p l', index_cut (suc p) s (omega arith), index_cut (suc p) t (omega arith))

member_ge : (s : List ℕ) (k : ℕ) → IsRising s → k < length s → k ≤ get_or s k 0
member_ge s zero r l = omega arith
member_ge s (suc k) r l = omega (arith, member_ge s k r (omega arith), rises_at s k r l)

rest_at : (s t : List ℕ) (p k : ℕ) → drop (suc p) t ≡ drop (suc p) s → p < k → get_or t k 0 ≡ get_or s k 0
rest_at s t p k e l =
    let m : suc p + (k - suc p) ≡ k = omega arith in
    let a : get_or t (suc p + (k - suc p)) 0 ≡ get_or s (suc p + (k - suc p)) 0 = sym (get_or-drop (suc p) t (k - suc p) 0) ∙ ap (λ z. get_or z (k - suc p) 0) e ∙ get_or-drop (suc p) s (k - suc p) 0 in
    subst (λ i. get_or t i 0 ≡ get_or s i 0) m a

raised_step : (n : ℕ) (s : List ℕ) (p : ℕ) (t : List ℕ) → IsRising s → Free n s p → Raised s p t → (k : ℕ) → suc k < length t → get_or t k 0 < get_or t (suc k) 0
raised_step n s p t g f r k l =
    let e : (suc k < p) ⊎ (p ≤ suc k) = cases_lt (suc k) p in
    elim e [
      | inl a ↦ omega (arith, r.low k (omega arith), r.low (suc k) a)
      | inr a ↦ upper a (cases_lt p (suc k))
    ]
  where
    long : suc k < length s
    long = omega (arith, r.same)

    top : k ≡ p → get_or t k 0 < get_or t (suc k) 0
    top q =
        let a : get_or t k 0 ≡ get_or s p 0 + 1 = ap (λ i. get_or t i 0) q ∙ r.at in
        let b : get_or t (suc k) 0 ≡ get_or s (suc p) 0 = rest_at s t p (suc k) r.rest (omega arith) ∙ ap (λ i. get_or s (suc i) 0) q in
        omega (arith, f.free (omega arith))

    over : p < k → get_or t k 0 < get_or t (suc k) 0
    over q = omega (arith, rest_at s t p k r.rest q, rest_at s t p (suc k) r.rest (omega arith), rises_at s k g long)

    upper : p ≤ suc k → (p < suc k) ⊎ (suc k ≤ p) → get_or t k 0 < get_or t (suc k) 0
    upper a (inr b) =
        let q : suc k ≡ p = omega arith in
        let u : get_or t (suc k) 0 ≡ get_or s p 0 + 1 = ap (λ i. get_or t i 0) q ∙ r.at in
        omega (arith, r.low k (omega arith), member_ge s p g f.within)
    upper a (inl b) = elim (cases_lt p k) [ inl q ↦ over q | inr q ↦ top (omega arith) ]

raised_below : (n : ℕ) (s : List ℕ) (p : ℕ) (t : List ℕ) → IsRising s → Below n s → Free n s p → Raised s p t → (k : ℕ) → k < length t → get_or t k 0 < n
raised_below n s p t g b f r k l =
    let e : (k < p) ⊎ (p ≤ k) = cases_lt k p in
    elim e [
      | inl a ↦ omega (arith, r.low k a, member_ge s p g f.within, below_at n s p b f.within)
      | inr a ↦ elim (cases_lt p k) [ inl q ↦ over q | inr q ↦ top (omega arith) (cases_lt (suc p) (length s)) ]
    ]
  where
    over : p < k → get_or t k 0 < n
    over q = omega (arith, rest_at s t p k r.rest q, below_at n s k b (omega (arith, r.same)))

    top : k ≡ p → (suc p < length s) ⊎ (length s ≤ suc p) → get_or t k 0 < n
    top q (inl m) =
        let u : get_or t k 0 ≡ get_or s p 0 + 1 = ap (λ i. get_or t i 0) q ∙ r.at in
        omega (arith, f.free m, below_at n s (suc p) b m)
    top q (inr m) =
        let u : get_or t k 0 ≡ get_or s p 0 + 1 = ap (λ i. get_or t i 0) q ∙ r.at in
        omega (arith, f.end (omega (arith, f.within)))

increasing_by : (t : List ℕ) → ((k : ℕ) → suc k < length t → get_or t k 0 < get_or t (suc k) 0) → IsStrictlyIncreasing t
increasing_by t h k l = let l' : suc k < length t = omega arith in rw add-one (h k l')

-- raising the first member that can rise gives the next set
pub raised_has_index : (n : ℕ) (s : List ℕ) (p : ℕ) (t : List ℕ) → IsSet n s → Free n s p → Raised s p t → HasIndex n (length s) (set_index s + 1) t
unfolding set_index
raised_has_index n s p t h f r =
    let g : IsRising s = set_rises n s h in
    let b : Below n s = set_below n s h in
    record {
      is_set = set_from n t (rising_from t (increasing_by t (raised_step n s p t g f r))) (below_from n t (raised_below n s p t g b f r));
      many = r.same;
      index = raised_index n s p t f r;
    }

-- an index is below the number of sets
pub has_index_lt : (n k i : ℕ) (t : List ℕ) → HasIndex n k i t → i < choose n k
unfolding set_index
has_index_lt n k i t h =
    let l : index_from 0 t < choose n (length t) = index_lt n t (set_rises n t h.is_set) (set_below n t h.is_set) in
    let e : choose n (length t) ≡ choose n k = ap (λ m. choose n m) h.many in
    omega (arith, h.index)

pub take_every : (s : List ℕ) (k : ℕ) → length s ≡ k → take k s ≡ s
take_every [] zero e = refl
take_every [] (suc k) e = refl
take_every (c ∷ s) zero e = absurd (omega arith)
take_every (c ∷ s) (suc k) e = ap (λ z. c ∷ z) (take_every s k (omega arith))

-- where no member can rise, the set is the last
pub last_index : (n : ℕ) (s : List ℕ) → ((k : ℕ) → k + 1 < length s → get_or s k 0 + 1 ≡ get_or s (k + 1) 0) → ((k : ℕ) → length s ≡ k + 1 → get_or s k 0 + 1 ≡ n) → set_index s + 1 ≡ choose n (length s)
unfolding set_index
last_index n [] run end = omega (arith, index-none 0, choose-zero n)
last_index n (c ∷ s) run end =
    let p : ℕ = length s in
    let a : index_from 0 (take (suc p) (c ∷ s)) + 1 ≡ choose (suc (get_or (c ∷ s) p 0)) (suc p) = run_index (c ∷ s) p (omega arith) (λ k l. run k (omega arith)) in
    let b : take (suc p) (c ∷ s) ≡ c ∷ s = take_every (c ∷ s) (suc p) refl in
    let d : index_from 0 (take (suc p) (c ∷ s)) ≡ index_from 0 (c ∷ s) = ap (λ z. index_from 0 z) b in
    let e : get_or (c ∷ s) p 0 + 1 ≡ n = end p (omega arith) in
    let f : choose (suc (get_or (c ∷ s) p 0)) (suc p) ≡ choose n (suc p) = ap (λ m. choose m (suc p)) (omega arith) in
    omega arith

-- no member is below n
abbrev pub AtLeast : ℕ → List ℕ → Type 0
AtLeast n [] = Unit {0}
AtLeast n (c ∷ s) = (n ≤ c) × AtLeast n s

at_least_above : (n : ℕ) (s : List ℕ) → AtLeast (suc n) s → IsBelow n s
at_least_above n [] h = tt
at_least_above n (c ∷ s) h = (let l : suc n ≤ c = h.0 in omega arith, at_least_above n s h.1)

at_least_less : (n : ℕ) (s : List ℕ) → AtLeast (suc n) s → AtLeast n s
at_least_less n [] h = tt
at_least_less n (c ∷ s) h = (let l : suc n ≤ c = h.0 in omega arith, at_least_less n s h.1)

-- the members from the place `left` on are found; the others are the set below `top` with index `rest`
pub record Filling (n k i : ℕ) (out : List ℕ) (top left rest : ℕ) : Type 0 where
  pub room : length out ≡ k
  pub left_le : left ≤ k
  pub top_le : top ≤ n
  pub rest_lt : rest < choose top left
  pub index : index_from left (drop left out) + rest ≡ i
  pub rises : IsRising (drop left out)
  pub below : Below n (drop left out)
  pub high : AtLeast top (drop left out)

drop_all : (s : List ℕ) (k : ℕ) → length s ≡ k → drop k s ≡ []
drop_all [] zero e = refl
drop_all [] (suc k) e = refl
drop_all (c ∷ s) zero e = absurd (omega arith)
drop_all (c ∷ s) (suc k) e = drop_all s k (omega arith)

pub filling_start : (n k i : ℕ) (out : List ℕ) (left : ℕ) → length out ≡ k → left ≡ k → i < choose n k → Filling n k i out n left i
filling_start n k i out left room e l =
    let d : drop left out ≡ [] = drop_all out left (room ∙ sym e) in
    record {
      room = room;
      left_le = omega arith;
      top_le = omega arith;
      rest_lt = subst (λ m. i < choose n m) (sym e) l;
      index = ap (λ z. index_from left z + i) d ∙ ap (λ m. m + i) (index-none left) ∙ zero-add i;
      rises = subst (λ z. IsRising z) (sym d) tt;
      below = subst (λ z. Below n z) (sym d) tt;
      high = subst (λ z. AtLeast n z) (sym d) tt;
    }

pub filling_top : (n k i : ℕ) (out : List ℕ) (top left rest : ℕ) → Filling n k i out top left rest → 0 < left → 0 < top
filling_top n k i out zero (suc left) rest h l = absurd (omega (arith, h.rest_lt, choose-none left))
filling_top n k i out zero zero rest h l = absurd (omega arith)
filling_top n k i out (suc top) left rest h l = omega arith

pub filling_skip : (n k i : ℕ) (out : List ℕ) (top low left rest : ℕ) → top ≡ suc low → Filling n k i out top left rest → rest < choose low left → Filling n k i out low left rest
filling_skip n k i out top low left rest e h l = record {
  room = h.room;
  left_le = h.left_le;
  top_le = omega (arith, h.top_le);
  rest_lt = l;
  index = h.index;
  rises = h.rises;
  below = h.below;
  high = at_least_less low (drop left out) (subst (λ m. AtLeast m (drop left out)) e h.high);
}

pub filling_take : (n k i : ℕ) (out : List ℕ) (top low left fewer rest : ℕ) → top ≡ suc low → left ≡ suc fewer → Filling n k i out top left rest → choose low left ≤ rest → Filling n k i (set out fewer low) low fewer (rest - choose low left)
filling_take n k i out top low left fewer rest e d h l =
    let l' : choose low (suc fewer) ≤ rest = subst (λ m. choose low m ≤ rest) d l in
    let m' : choose low left ≡ choose low (suc fewer) = ap (λ m. choose low m) d in
    let short : fewer < length out = omega (arith, h.room, h.left_le) in
    let cut : drop fewer (set out fewer low) ≡ low ∷ drop (suc fewer) out = rw (← add-one) (drop-set out fewer low short) in
    let same : drop left out ≡ drop (suc fewer) out = ap (λ m. drop m out) d in
    let r : IsRising (drop (suc fewer) out) = subst (λ z. IsRising z) same h.rises in
    let b : Below n (drop (suc fewer) out) = subst (λ z. Below n z) same h.below in
    let t : AtLeast (suc low) (drop (suc fewer) out) = subst (λ z. AtLeast (suc low) z) same (subst (λ m. AtLeast m (drop left out)) e h.high) in
    let x : choose top left ≡ choose (suc low) (suc fewer) = ap (λ m. choose m left) e ∙ ap (λ m. choose (suc low) m) d in
    let y : index_from left (drop left out) ≡ index_from (suc fewer) (drop (suc fewer) out) = ap (λ m. index_from m (drop m out)) d in
    let z : index_from fewer (drop fewer (set out fewer low)) ≡ choose low (suc fewer) + index_from (suc fewer) (drop (suc fewer) out) = ap (λ q. index_from fewer q) cut ∙ index-cons fewer low (drop (suc fewer) out) in
    record {
      room = kept out ∙ h.room;
      left_le = omega (arith, h.left_le);
      top_le = omega (arith, h.top_le);
      rest_lt = omega (arith, h.rest_lt, choose-suc low fewer);
      index = omega (arith, h.index);
      rises = subst (λ q. IsRising q) (sym cut) (at_least_above low (drop (suc fewer) out) t, r);
      below = subst (λ q. Below n q) (sym cut) (omega (arith, h.top_le), b);
      high = subst (λ q. AtLeast low q) (sym cut) (omega arith, at_least_less low (drop (suc fewer) out) t);
    }
  where
    kept : (out : List ℕ) → length (set out fewer low) ≡ length out
    kept out = Rattle.std.proofs.Math.ListN.length-set out fewer low

drop_none : (s : List ℕ) → drop 0 s ≡ s
drop_none [] = refl
drop_none (c ∷ s) = refl

pub filling_done : (n k i : ℕ) (out : List ℕ) (top left rest : ℕ) → left ≡ 0 → Filling n k i out top left rest → HasIndex n k i out
unfolding set_index
filling_done n k i out top left rest e h =
    let d : drop left out ≡ out = ap (λ m. drop m out) e ∙ drop_none out in
    let x : index_from left (drop left out) ≡ index_from 0 out = ap (λ m. index_from m (drop left out)) e ∙ ap (λ z. index_from 0 z) d in
    let y : choose top left ≡ 1 = ap (λ m. choose top m) e ∙ choose-zero top in
    record {
      is_set = set_from n out (subst (λ z. IsRising z) d h.rises) (subst (λ z. Below n z) d h.below);
      many = h.room;
      index = omega (arith, h.index, h.rest_lt);
    }
