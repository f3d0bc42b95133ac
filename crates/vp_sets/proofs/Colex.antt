-- The numbering of sets in colex order, and the list of all sets.
use Rattle.std.proofs.Common.{◌≡◌, ◌⊎◌, inl, inr, ℕ, zero, suc, ◌+◌, ◌-◌, ◌<◌, ◌≤◌, refl, ap, sym, ◌∙◌, subst, arith, zero-add, add-one, true, false, cond, nat_lt, List, [], ◌∷◌, ◌++◌, length, get_or, map}
use Rattle.std.specs.List.{sum_by}
use Rattle.std.specs.List.Sorted.{IsStrictlyIncreasing, IsPermutation}
use Rattle.std.proofs.lemmas.List.{length-append, length-map, get_or_append_left, get_or-append_right, get_or-map, append_assoc}
use Rattle.std.proofs.lemmas.List.Sorted.{IsPermutation-refl, IsPermutation-trans, IsPermutation-map, IsPermutation-append, IsPermutation-append_left, IsPermutation-append_right, IsPermutation-append_comm, sum_by-IsPermutation}
use Rattle.std.proofs.lemmas.Bool.{cases_lt}
use Rattle.vp_card.specs.Cards.{IsHand, in_deck, place}
use Rattle.vp_card.specs.Rising.{IsBelow, IsRising}
use Rattle.vp_sets.specs.Sets.{deck, combos, choose}
use Rattle.vp_sets.specs.Index.{IsSet, index_from, set_index, colex}
use Rattle.vp_card.proofs.InDeck.{in_deck-cons}
use Rattle.vp_card.proofs.Rising.{below_behind, rising_from}
use Rattle.vp_sets.proofs.Binomials.{choose-zero, choose-none, choose-suc}

-- every member is below n
abbrev pub Below : ℕ → List ℕ → Type 0
Below n [] = Unit {0}
Below n (c ∷ s) = (c < n) × Below n s

pub below_from : (n : ℕ) (s : List ℕ) → ((k : ℕ) → k < length s → get_or s k 0 < n) → Below n s
below_from n [] h = tt
below_from n (d ∷ s) h = (h 0 (omega arith), below_from n s (λ k l. h (suc k) (omega arith)))

pub above_at : (c : ℕ) (s : List ℕ) (k : ℕ) → IsBelow c s → k < length s → c < get_or s k 0
above_at c [] k h l = absurd (omega arith)
above_at c (d ∷ s) zero h l = h.0
above_at c (d ∷ s) (suc k) h l = above_at c s k h.1 (omega arith)

pub below_at : (n : ℕ) (s : List ℕ) (k : ℕ) → Below n s → k < length s → get_or s k 0 < n
below_at n [] k h l = absurd (omega arith)
below_at n (d ∷ s) zero h l = h.0
below_at n (d ∷ s) (suc k) h l = below_at n s k h.1 (omega arith)

pub rises_at : (s : List ℕ) (k : ℕ) → IsRising s → suc k < length s → get_or s k 0 < get_or s (suc k) 0
rises_at [] k h l = absurd (omega arith)
rises_at (c ∷ s) zero h l = above_at c s 0 h.0 (omega arith)
rises_at (c ∷ s) (suc k) h l = rises_at s k h.1 (omega arith)

pub increasing_from : (s : List ℕ) → IsRising s → IsStrictlyIncreasing s
increasing_from s h k l = let l' : suc k < length s = omega arith in rw add-one (rises_at s k h l')

get_or_any : (s : List ℕ) (k : ℕ) (d e : ℕ) → k < length s → get_or s k d ≡ get_or s k e
get_or_any [] k d e l = absurd (omega arith)
get_or_any (c ∷ s) zero d e l = refl
get_or_any (c ∷ s) (suc k) d e l = get_or_any s k d e (omega arith)

pub set_rises : (n : ℕ) (s : List ℕ) → IsSet n s → IsRising s
set_rises n s h = rising_from s h.rising

pub set_below : (n : ℕ) (s : List ℕ) → IsSet n s → Below n s
set_below n s h = below_from n s (λ k l. h.below k 0 l)

pub set_from : (n : ℕ) (s : List ℕ) → IsRising s → Below n s → IsSet n s
set_from n s r b = record { rising = increasing_from s r; below = λ k d l. rw (get_or_any s k d 0 l) (below_at n s k b l) }

pub below_in_deck : (n : ℕ) (s : List ℕ) → in_deck n s ≡ true → Below n s
below_in_deck n [] h = tt
below_in_deck n (c ∷ s) h = let r = in_deck-cons n c s h in (r.0, below_in_deck n s r.1)

-- a hand of the deck is a set of five
pub hand_is_set : (n : ℕ) (hand : List ℕ) → IsHand hand → in_deck n hand ≡ true → IsSet n hand
hand_is_set n hand h d = set_from n hand (rising_from hand h.rising) (below_in_deck n hand d)

pub place_below : (n c : ℕ) (s : List ℕ) → c < n → Below n s → Below n (place c s)
unfolding place
place_below n c [] l b = (l, tt)
place_below n c (d ∷ s) l b = elim (nat_lt c d) as (λ v. Below n (cond v (c ∷ d ∷ s) (d ∷ place c s))) [
  | true ↦ (l, b)
  | false ↦ (b.0, place_below n c s l b.1)
]

pub below_more : (n m : ℕ) (s : List ℕ) → n ≤ m → Below n s → Below m s
below_more n m [] l h = tt
below_more n m (c ∷ s) l h = (let a : c < n = h.0 in omega arith, below_more n m s l h.1)

above_pushed : (c d : ℕ) (y : List ℕ) → IsBelow c (y ++ d ∷ []) → IsBelow c y × (c < d)
above_pushed c d [] h = (tt, h.0)
above_pushed c d (x ∷ y) h = let r = above_pushed c d y h.1 in ((h.0, r.0), r.1)

pub below_push : (n d : ℕ) (y : List ℕ) → Below n y → d < n → Below n (y ++ d ∷ [])
below_push n d [] h l = (l, tt)
below_push n d (x ∷ y) h l = (h.0, below_push n d y h.1 l)

pub rises_push : (d : ℕ) (y : List ℕ) → IsRising y → Below d y → IsRising (y ++ d ∷ [])
rises_push d [] r b = (tt, tt)
rises_push d (c ∷ y) r b = (below_behind c d y r.0 b.0, rises_push d y r.1 b.1)

-- a set of numbers up to n that has n: the others, and n behind them
pub record Topped (n : ℕ) (s : List ℕ) : Type 0 where
  pub rest : List ℕ
  pub is : s ≡ rest ++ n ∷ []
  pub rises : IsRising rest
  pub below : Below n rest

top_first : (n c : ℕ) (s : List ℕ) → IsRising (c ∷ s) → c < suc n → Below n s → (Below n (c ∷ s)) ⊎ Topped n (c ∷ s)
top_first n c s r l b =
    let e : (c < n) ⊎ (n ≤ c) = cases_lt c n in
    elim e [
      | inl p ↦ inl (p, b)
      | inr p ↦ inr (at s r b (omega arith))
    ]
  where
    at : (s : List ℕ) → IsRising (c ∷ s) → Below n s → c ≡ n → Topped n (c ∷ s)
    at [] r b q = record { rest = []; is = ap (λ z. z ∷ []) q; rises = tt; below = tt }
    at (d ∷ s) r b q = absurd (let k : c < d = r.0.0 in let m : d < n = b.0 in omega arith)

pub top_cases : (n : ℕ) (s : List ℕ) → IsRising s → Below (suc n) s → (Below n s) ⊎ Topped n s
top_cases n [] r b = inl tt
top_cases n (c ∷ s) r b =
    let e : (Below n s) ⊎ Topped n s = top_cases n s r.1 b.1 in
    elim e [
      | inl h ↦ top_first n c s r b.0 h
      | inr t ↦ inr (longer t)
    ]
  where
    longer : Topped n s → Topped n (c ∷ s)
    longer t =
        let p : IsBelow c t.rest × (c < n) = above_pushed c n t.rest (subst (λ z. IsBelow c z) t.is r.0) in
        record { rest = c ∷ t.rest; is = ap (λ z. c ∷ z) t.is; rises = (p.0, t.rises); below = (p.1, t.below) }

pub index_is : (s : List ℕ) → set_index s ≡ index_from 0 s
unfolding set_index
index_is s = refl

pub index-none : (j : ℕ) → index_from j [] ≡ 0
unfolding index_from
index-none j = refl

pub index-cons : (j c : ℕ) (s : List ℕ) → index_from j (c ∷ s) ≡ choose c (suc j) + index_from (suc j) s
unfolding index_from
index-cons j c s = refl

pub index-append : (j : ℕ) (y z : List ℕ) → index_from j (y ++ z) ≡ index_from j y + index_from (j + length y) z
index-append j [] z =
    let e : j ≡ j + 0 = omega arith in
    let f : index_from j z ≡ index_from (j + 0) z = ap (λ i. index_from i z) e in
    omega (arith, index-none j)
index-append j (c ∷ y) z =
    let ih : index_from (suc j) (y ++ z) ≡ index_from (suc j) y + index_from (suc j + length y) z = index-append (suc j) y z in
    let e : index_from (j + suc (length y)) z ≡ index_from (suc j + length y) z = ap (λ i. index_from i z) (omega arith) in
    omega (arith, index-cons j c (y ++ z), index-cons j c y)

pub index-push : (y : List ℕ) (c : ℕ) → index_from 0 (y ++ c ∷ []) ≡ index_from 0 y + choose c (suc (length y))
index-push y c =
    let a : index_from 0 (y ++ c ∷ []) ≡ index_from 0 y + index_from (0 + length y) (c ∷ []) = index-append 0 y (c ∷ []) in
    let b : index_from (0 + length y) (c ∷ []) ≡ index_from (length y) (c ∷ []) = ap (λ i. index_from i (c ∷ [])) (zero-add (length y)) in
    omega (arith, index-cons (length y) c [], index-none (suc (length y)))

pub choose_up : (n k : ℕ) → choose n k ≤ choose (suc n) k
choose_up n zero = omega (arith, choose-zero n, choose-zero (suc n))
choose_up n (suc k) = omega (arith, choose-suc n k)

length-push : (y : List ℕ) (c : ℕ) → length (y ++ c ∷ []) ≡ suc (length y)
length-push y c = omega (arith, length-append y (c ∷ []))

-- an index is below the number of sets
pub index_lt : (n : ℕ) (s : List ℕ) → IsRising s → Below n s → index_from 0 s < choose n (length s)
index_lt zero [] r b = omega (arith, index-none 0, choose-zero 0)
index_lt zero (c ∷ s) r b = absurd (let l : c < 0 = b.0 in omega arith)
index_lt (suc n) s r b =
    let e : (Below n s) ⊎ Topped n s = top_cases n s r b in
    elim e [
      | inl h ↦ omega (arith, index_lt n s r h, choose_up n (length s))
      | inr t ↦ topped t (index_lt n t.rest t.rises t.below)
    ]
  where
    topped : (t : Topped n s) → index_from 0 t.rest < choose n (length t.rest) → index_from 0 s < choose (suc n) (length s)
    topped t ih =
        let a : index_from 0 s ≡ index_from 0 t.rest + choose n (suc (length t.rest)) = ap (λ z. index_from 0 z) t.is ∙ index-push t.rest n in
        let d : choose (suc n) (length s) ≡ choose (suc n) (suc (length t.rest)) = ap (λ z. choose (suc n) (length z)) t.is ∙ ap (λ m. choose (suc n) m) (length-push t.rest n) in
        omega (arith, choose-suc n (length t.rest))

pub colex-zero : (n : ℕ) → colex 0 n ≡ [] ∷ []
unfolding colex
colex-zero zero = refl
colex-zero (suc n) = refl

pub colex-none : (k : ℕ) → colex (suc k) 0 ≡ []
unfolding colex
colex-none k = refl

pub colex-suc : (k n : ℕ) → colex (suc k) (suc n) ≡ colex (suc k) n ++ map (λ s. s ++ n ∷ []) (colex k n)
unfolding colex
colex-suc k n = refl

-- there are as many sets as choices
pub colex_count : (k n : ℕ) → length (colex k n) ≡ choose n k
colex_count zero n = ap length (colex-zero n) ∙ sym (choose-zero n)
colex_count (suc k) zero = ap length (colex-none k) ∙ sym (choose-none k)
colex_count (suc k) (suc n) =
    let a : length (colex (suc k) n) ≡ choose n (suc k) = colex_count (suc k) n in
    let b : length (colex k n) ≡ choose n k = colex_count k n in
    omega (arith, ap length (colex-suc k n), length-append (colex (suc k) n) (map (λ s. s ++ n ∷ []) (colex k n)), length-map (colex k n) (λ s. s ++ n ∷ []), choose-suc n k)

-- what the set with index i is
pub record Numbered (k n i : ℕ) (s : List ℕ) : Type 0 where
  pub rises : IsRising s
  pub below : Below n s
  pub many : length s ≡ k
  pub index : index_from 0 s ≡ i

numbered_wider : (k n i : ℕ) (s : List ℕ) → Numbered k n i s → Numbered k (suc n) i s
numbered_wider k n i s h = record { rises = h.rises; below = below_more n (suc n) s (omega arith) h.below; many = h.many; index = h.index }

numbered_top : (k n i j : ℕ) (s : List ℕ) → Numbered k n j s → i ≡ j + choose n (suc k) → Numbered (suc k) (suc n) i (s ++ n ∷ [])
numbered_top k n i j s h e = record {
  rises = rises_push n s h.rises h.below;
  below = below_push (suc n) n s (below_more n (suc n) s (omega arith) h.below) (omega arith);
  many = length-push s n ∙ ap suc h.many;
  index = index-push s n ∙ ap (λ m. m + choose n (suc (length s))) h.index ∙ ap (λ m. j + choose n (suc m)) h.many ∙ sym e;
}

-- the entries of the list of all sets are numbered by their places
pub numbered : (k n i : ℕ) → i < choose n k → Numbered k n i (get_or (colex k n) i [])
numbered zero n i l =
    let z : i ≡ 0 = omega (arith, choose-zero n) in
    let e : get_or (colex 0 n) i [] ≡ [] = ap (λ c. get_or c i []) (colex-zero n) ∙ ap (λ j. get_or ([] ∷ []) j []) z in
    rw e (record { rises = tt; below = tt; many = refl; index = index-none 0 ∙ sym z })
numbered (suc k) zero i l = absurd (omega (arith, choose-none k))
numbered (suc k) (suc n) i l =
    let e : (i < choose n (suc k)) ⊎ (choose n (suc k) ≤ i) = cases_lt i (choose n (suc k)) in
    elim e [
      | inl p ↦ first p (numbered (suc k) n i p)
      | inr p ↦
          let q : i - choose n (suc k) < choose n k = omega (arith, choose-suc n k) in
          later p q (numbered k n (i - choose n (suc k)) q)
    ]
  where
    first : i < choose n (suc k) → Numbered (suc k) n i (get_or (colex (suc k) n) i []) → Numbered (suc k) (suc n) i (get_or (colex (suc k) (suc n)) i [])
    first p h =
        let short : i < length (colex (suc k) n) = omega (arith, colex_count (suc k) n) in
        let same : get_or (colex (suc k) (suc n)) i [] ≡ get_or (colex (suc k) n) i [] = ap (λ c. get_or c i []) (colex-suc k n) ∙ get_or_append_left (colex (suc k) n) (map (λ s. s ++ n ∷ []) (colex k n)) [] i short in
        rw same (numbered_wider (suc k) n i (get_or (colex (suc k) n) i []) h)

    later : choose n (suc k) ≤ i → (i - choose n (suc k) < choose n k) → Numbered k n (i - choose n (suc k)) (get_or (colex k n) (i - choose n (suc k)) []) → Numbered (suc k) (suc n) i (get_or (colex (suc k) (suc n)) i [])
    later p q h =
        let short : i - choose n (suc k) < length (colex k n) = omega (arith, colex_count k n) in
        let same : get_or (colex (suc k) (suc n)) i [] ≡ get_or (colex k n) (i - choose n (suc k)) [] ++ n ∷ [] = ap (λ c. get_or c i []) (colex-suc k n) ∙ get_or-append_right (colex (suc k) n) (map (λ s. s ++ n ∷ []) (colex k n)) (choose n (suc k)) i [] (colex_count (suc k) n) p ∙ get_or-map (λ s. s ++ n ∷ []) (colex k n) (i - choose n (suc k)) [] [] short in
        rw same (numbered_top k n i (i - choose n (suc k)) (get_or (colex k n) (i - choose n (suc k)) []) h (omega arith))

-- a set stands in the list of all sets at its index
pub at_index : (n : ℕ) (s : List ℕ) → IsRising s → Below n s → get_or (colex (length s) n) (index_from 0 s) [] ≡ s
at_index zero [] r b = ap (λ c. get_or c (index_from 0 []) []) (colex-zero 0) ∙ ap (λ i. get_or ([] ∷ []) i []) (index-none 0)
at_index zero (c ∷ s) r b = absurd (let l : c < 0 = b.0 in omega arith)
at_index (suc n) s r b =
    let e : (Below n s) ⊎ Topped n s = top_cases n s r b in
    elim e [
      | inl h ↦ below_case s (index_lt n s r h) (at_index n s r h)
      | inr t ↦ topped t (index_lt n t.rest t.rises t.below) (at_index n t.rest t.rises t.below)
    ]
  where
    below_case : (s : List ℕ) → index_from 0 s < choose n (length s) → get_or (colex (length s) n) (index_from 0 s) [] ≡ s → get_or (colex (length s) (suc n)) (index_from 0 s) [] ≡ s
    below_case [] l ih = ap (λ c. get_or c (index_from 0 []) []) (colex-zero (suc n)) ∙ ap (λ i. get_or ([] ∷ []) i []) (index-none 0)
    below_case (c ∷ s) l ih =
        let short : index_from 0 (c ∷ s) < length (colex (suc (length s)) n) = omega (arith, colex_count (suc (length s)) n) in
        ap (λ z. get_or z (index_from 0 (c ∷ s)) []) (colex-suc (length s) n) ∙ get_or_append_left (colex (suc (length s)) n) (map (λ y. y ++ n ∷ []) (colex (length s) n)) [] (index_from 0 (c ∷ s)) short ∙ ih

    topped : (t : Topped n s) → index_from 0 t.rest < choose n (length t.rest) → get_or (colex (length t.rest) n) (index_from 0 t.rest) [] ≡ t.rest → get_or (colex (length s) (suc n)) (index_from 0 s) [] ≡ s
    topped t l ih =
        let y = t.rest in
        let many : length s ≡ suc (length y) = ap length t.is ∙ length-push y n in
        let a : index_from 0 s ≡ index_from 0 y + choose n (suc (length y)) = ap (λ z. index_from 0 z) t.is ∙ index-push y n in
        let past : choose n (suc (length y)) ≤ index_from 0 s = omega arith in
        let less : index_from 0 s - choose n (suc (length y)) ≡ index_from 0 y = omega arith in
        let short : index_from 0 y < length (colex (length y) n) = omega (arith, colex_count (length y) n) in
        ap (λ m. get_or (colex m (suc n)) (index_from 0 s) []) many
        ∙ ap (λ z. get_or z (index_from 0 s) []) (colex-suc (length y) n)
        ∙ get_or-append_right (colex (suc (length y)) n) (map (λ z. z ++ n ∷ []) (colex (length y) n)) (choose n (suc (length y))) (index_from 0 s) [] (colex_count (suc (length y)) n) past
        ∙ ap (λ i. get_or (map (λ z. z ++ n ∷ []) (colex (length y) n)) i []) less
        ∙ get_or-map (λ z. z ++ n ∷ []) (colex (length y) n) (index_from 0 y) [] [] short
        ∙ ap (λ z. z ++ n ∷ []) ih
        ∙ sym t.is

combos-zero : (s : List ℕ) → combos 0 s ≡ [] ∷ []
unfolding combos
combos-zero [] = refl
combos-zero (x ∷ s) = refl

combos-none : (k : ℕ) → combos (suc k) [] ≡ []
unfolding combos
combos-none k = refl

map_append : (f : List ℕ → List ℕ) (a b : List (List ℕ)) → map f (a ++ b) ≡ map f a ++ map f b
map_append f [] b = refl
map_append f (x ∷ a) b = ap (λ z. f x ∷ z) (map_append f a b)

map_across : (c x : ℕ) (l : List (List ℕ)) → map (λ y. y ++ x ∷ []) (map (λ y. c ∷ y) l) ≡ map (λ y. c ∷ y) (map (λ y. y ++ x ∷ []) l)
map_across c x [] = refl
map_across c x (y ∷ l) = ap (λ z. (c ∷ (y ++ x ∷ [])) ∷ z) (map_across c x l)

exchange : (a b c d : List (List ℕ)) → IsPermutation ((a ++ b) ++ (c ++ d)) ((a ++ c) ++ (b ++ d))
exchange a b c d =
    let e1 : (a ++ b) ++ (c ++ d) ≡ a ++ ((b ++ c) ++ d) = simp append_assoc in
    let e2 : (a ++ c) ++ (b ++ d) ≡ a ++ ((c ++ b) ++ d) = simp append_assoc in
    rw (e1, e2) (IsPermutation-append_right a ((b ++ c) ++ d) ((c ++ b) ++ d) (IsPermutation-append_left d (b ++ c) (c ++ b) (IsPermutation-append_comm b c)))

-- the sublists of a list with x behind it: those without x, and those with it
combos_push : (k x : ℕ) (s : List ℕ) → IsPermutation (combos (suc k) (s ++ x ∷ [])) (combos (suc k) s ++ map (λ y. y ++ x ∷ []) (combos k s))
unfolding combos
combos_push zero x [] = IsPermutation-refl ((x ∷ []) ∷ [])
combos_push (suc k) x [] = IsPermutation-refl []
combos_push zero x (c ∷ s) =
    let one : List (List ℕ) = (c ∷ []) ∷ [] in
    let a : map (λ y. c ∷ y) (combos 0 (s ++ x ∷ [])) ≡ one = ap (λ z. map (λ y. c ∷ y) z) (combos-zero (s ++ x ∷ [])) in
    let b : map (λ y. c ∷ y) (combos 0 s) ≡ one = ap (λ z. map (λ y. c ∷ y) z) (combos-zero s) in
    let w : map (λ y. y ++ x ∷ []) (combos 0 s) ≡ (x ∷ []) ∷ [] = ap (λ z. map (λ y. y ++ x ∷ []) z) (combos-zero s) in
    let ih : IsPermutation (combos 1 (s ++ x ∷ [])) (combos 1 s ++ map (λ y. y ++ x ∷ []) (combos 0 s)) = combos_push zero x s in
    let ih' : IsPermutation (combos 1 (s ++ x ∷ [])) (combos 1 s ++ (x ∷ []) ∷ []) = subst (λ z. IsPermutation (combos 1 (s ++ x ∷ [])) (combos 1 s ++ z)) w ih in
    let p : IsPermutation (one ++ combos 1 (s ++ x ∷ [])) (one ++ (combos 1 s ++ (x ∷ []) ∷ [])) = IsPermutation-append_right one (combos 1 (s ++ x ∷ [])) (combos 1 s ++ (x ∷ []) ∷ []) ih' in
    let q : IsPermutation (map (λ y. c ∷ y) (combos 0 (s ++ x ∷ [])) ++ combos 1 (s ++ x ∷ [])) (one ++ (combos 1 s ++ (x ∷ []) ∷ [])) = subst (λ z. IsPermutation (z ++ combos 1 (s ++ x ∷ [])) (one ++ (combos 1 s ++ (x ∷ []) ∷ []))) (sym a) p in
    subst (λ z. IsPermutation (map (λ y. c ∷ y) (combos 0 (s ++ x ∷ [])) ++ combos 1 (s ++ x ∷ [])) ((z ++ combos 1 s) ++ (x ∷ []) ∷ [])) (sym b) q
combos_push (suc k) x (c ∷ s) =
    let h : List ℕ → List ℕ = λ y. c ∷ y in
    let g : List ℕ → List ℕ = λ y. y ++ x ∷ [] in
    let u : List (List ℕ) = combos (suc k) s in
    let v : List (List ℕ) = map g (combos k s) in
    let w : List (List ℕ) = combos (suc (suc k)) s in
    let z : List (List ℕ) = map g (combos (suc k) s) in
    let ih1 : IsPermutation (combos (suc k) (s ++ x ∷ [])) (u ++ v) = combos_push k x s in
    let ih2 : IsPermutation (combos (suc (suc k)) (s ++ x ∷ [])) (w ++ z) = combos_push (suc k) x s in
    let m1 : IsPermutation (map h (combos (suc k) (s ++ x ∷ []))) (map h (u ++ v)) = IsPermutation-map h (combos (suc k) (s ++ x ∷ [])) (u ++ v) ih1 in
    let m2 : IsPermutation (map h (combos (suc k) (s ++ x ∷ []))) (map h u ++ map h v) = subst (λ t. IsPermutation (map h (combos (suc k) (s ++ x ∷ []))) t) (map_append h u v) m1 in
    let p : IsPermutation (map h (combos (suc k) (s ++ x ∷ [])) ++ combos (suc (suc k)) (s ++ x ∷ [])) ((map h u ++ map h v) ++ (w ++ z)) = IsPermutation-append (map h (combos (suc k) (s ++ x ∷ []))) (map h u ++ map h v) (combos (suc (suc k)) (s ++ x ∷ [])) (w ++ z) m2 ih2 in
    let q : IsPermutation (map h (combos (suc k) (s ++ x ∷ [])) ++ combos (suc (suc k)) (s ++ x ∷ [])) ((map h u ++ w) ++ (map h v ++ z)) = IsPermutation-trans (map h (combos (suc k) (s ++ x ∷ [])) ++ combos (suc (suc k)) (s ++ x ∷ [])) ((map h u ++ map h v) ++ (w ++ z)) ((map h u ++ w) ++ (map h v ++ z)) p (exchange (map h u) (map h v) w z) in
    let e : map g (map h (combos k s) ++ combos (suc k) s) ≡ map h v ++ z = map_append g (map h (combos k s)) (combos (suc k) s) ∙ ap (λ t. t ++ z) (map_across c x (combos k s)) in
    subst (λ t. IsPermutation (map h (combos (suc k) (s ++ x ∷ [])) ++ combos (suc (suc k)) (s ++ x ∷ [])) ((map h u ++ w) ++ t)) (sym e) q

-- the list of all sets is, up to order, that of the sublists of the deck
pub combos_colex : (k n : ℕ) → IsPermutation (combos k (deck n)) (colex k n)
unfolding deck
combos_colex zero n = rw (combos-zero (deck n), colex-zero n) (IsPermutation-refl ([] ∷ []))
combos_colex (suc k) zero = rw (combos-none k, colex-none k) (IsPermutation-refl [])
combos_colex (suc k) (suc n) =
    let g : List ℕ → List ℕ = λ y. y ++ n ∷ [] in
    let a : IsPermutation (combos (suc k) (deck n ++ n ∷ [])) (combos (suc k) (deck n) ++ map g (combos k (deck n))) = combos_push k n (deck n) in
    let b : IsPermutation (combos (suc k) (deck n) ++ map g (combos k (deck n))) (colex (suc k) n ++ map g (colex k n)) = IsPermutation-append (combos (suc k) (deck n)) (colex (suc k) n) (map g (combos k (deck n))) (map g (colex k n)) (combos_colex (suc k) n) (IsPermutation-map g (combos k (deck n)) (colex k n) (combos_colex k n)) in
    rw (colex-suc k n) (IsPermutation-trans (combos (suc k) (deck n ++ n ∷ [])) (combos (suc k) (deck n) ++ map g (combos k (deck n))) (colex (suc k) n ++ map g (colex k n)) a b)

-- a sum over the sublists of the deck goes by the list of all sets
pub sum_of_sets : (f : List ℕ → ℕ) (k n : ℕ) → sum_by f (combos k (deck n)) ≡ sum_by f (colex k n)
sum_of_sets f k n = sym (sum_by-IsPermutation f (combos k (deck n)) (colex k n) (combos_colex k n))
