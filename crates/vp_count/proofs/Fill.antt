-- Level after level the words become the sums of their sets.
use Rattle.std.proofs.Common.{◌≡◌, ◌⊎◌, inl, inr, ℕ, zero, suc, ◌+◌, ◌-◌, ◌*◌, ◌/◌, ◌^◌, ◌<◌, ◌≤◌, ◌↔◌, IsTrue, refl, ap, sym, ◌∙◌, subst, arith, add-one, Bool, true, false, ◌||◌, List, [], ◌∷◌, ◌++◌, length, get_or, drop, set, get_or-set_same, get_or-set_other, lit<}
use Rattle.std.specs.List.{All}
use Rattle.std.proofs.Math.ListN.{length-set}
use Rattle.std.proofs.Math.Nat.{mul-div_cancel_left, mul-le-mul}
use Rattle.std.proofs.lemmas.List.{get_or-drop, drop-set-lt, length-drop}
use Rattle.std.proofs.lemmas.List.Folds.{list_any-append}
use Rattle.std.proofs.lemmas.Bool.{cases_eq, or_cases, false≢true}
use Rattle.vp_card.specs.Cards.{place}
use Rattle.vp_sets.specs.Sets.{deck, choose, has, without}
use Rattle.vp_sets.specs.Index.{IsSet, HasIndex, set_index, index_from, colex}
use Rattle.vp_sets.proofs.Pascal.{choose_five}
use Rattle.vp_sets.proofs.Spread.{has-none, has-later}
use Rattle.vp_sets.proofs.Colex.{set_rises, set_below, index_lt, at_index, index_is}
use Rattle.vp_count.specs.Sums.{number, containing}
use Rattle.vp_count.specs.Table.{HasSums, above_sum, first_word, five_numbers}
use Rattle.vp_count.proofs.Levels.{level_sum, sum_agree, containing_le, containing_five, without_has}
use Rattle.vp_card.proofs.Rising.{length-place}
use Rattle.vp_count.proofs.Scan.{index_below, word, set_place, above_is, word_is}
use Rattle.vp_count.proofs.Words.{first_word-suc, first_word_next, first_word_mono}

has_append : (a b : List ℕ) (c : ℕ) → has (a ++ b) c ≡ (has a c || has b c)
unfolding has
has_append a b c = list_any-append (λ d. Rattle.std.proofs.Common.◌==◌ d c) a b

deck_below : (n c : ℕ) → has (deck n) c ≡ true → c < n
unfolding deck
deck_below zero c h = absurd (false≢true (sym (has-none c) ∙ h))
deck_below (suc n) c h =
    let e : (has (deck n) c ≡ true) ⊎ (has (n ∷ []) c ≡ true) = or_cases (has (deck n) c) (has (n ∷ []) c) (sym (has_append (deck n) (n ∷ []) c) ∙ h) in
    elim e [
      | inl k ↦ omega (arith, deck_below n c k)
      | inr k ↦ one k (cases_eq n c)
    ]
  where
    one : has (n ∷ []) c ≡ true → (n ≡ c) ⊎ (n ≡ c → ⊥) → c < suc n
    one k (inl e) = omega arith
    one k (inr ne) = absurd (false≢true (sym (has-later n [] c ne ∙ has-none c) ∙ k))

-- the words above a set add up to a multiple of its own sum
pub above_word : (n j : ℕ) (w words s : List ℕ) → IsSet n s → length s + suc j ≡ 5 → HasSums n (length s + 1) w words → above_sum n words (first_word n (length s + 1)) s ≡ suc j * containing n w s
above_word n j w words s g five h =
    above_is n words (first_word n (length s + 1)) s
    ∙ sum_agree (word words (first_word n (length s + 1)) s) (λ c. containing n w (place c s)) (without (deck n) s) each
    ∙ level_sum n j w s g five
  where
    each : (c : ℕ) → has (without (deck n) s) c ≡ true → word words (first_word n (length s + 1)) s c ≡ containing n w (place c s)
    each c k =
        let m : (has (deck n) c ≡ true) × (has s c ≡ false) = without_has (deck n) s c k in
        let t : IsSet n (place c s) = set_place n c s g (deck_below n c m.0) m.1 in
        let l : length (place c s) ≡ length s + 1 = length-place c s ∙ sym (add-one (length s)) in
        let x : get_or words (first_word n (length (place c s)) + set_index (place c s)) 0 ≡ containing n w (place c s) = h.sums (place c s) t (omega arith) (omega arith) in
        word_is s words (first_word n (length s + 1)) c ∙ ap (λ i. get_or words (first_word n i + set_index (place c s)) 0) (sym l) ∙ x

pub above_small : (n j : ℕ) (w s : List ℕ) → n ≤ 54 → suc j ≤ 5 → All (λ x. x ≤ 250000000000) w → suc j * containing n w s < 2 ^ 64
above_small n j w s l m b =
    let p : choose n 5 * 250000000000 ≤ 3162510 * 250000000000 = mul-le-mul {n₂ = 3162510} {m₂ = 250000000000} (choose_five n l) (omega arith) in
    let q : suc j * containing n w s ≤ 5 * (3162510 * 250000000000) = mul-le-mul {n₂ = 5} {m₂ = 3162510 * 250000000000} m (omega (arith, containing_le n w s 250000000000 b)) in
    omega arith

pub exact : (j x : ℕ) → suc j * x / suc j ≡ x
exact j x = mul-div_cancel_left x (omega arith)

same_set : (n : ℕ) (s t : List ℕ) → IsSet n s → IsSet n t → length s ≡ length t → set_index s ≡ set_index t → s ≡ t
same_set n s t g h l e =
    sym (at_index n s (set_rises n s g) (set_below n s g))
    ∙ ap (λ k. get_or (colex k n) (index_from 0 s) []) l
    ∙ ap (λ i. get_or (colex (length t) n) i []) (sym (index_is s) ∙ e ∙ index_is t)
    ∙ at_index n t (set_rises n t h) (set_below n t h)

-- the sets of k members with indexes below i have their sums; `now` is the set with the index i
pub record Filled (n k : ℕ) (w words now : List ℕ) (i : ℕ) : Type 0 where
  pub sums : HasSums n (k + 1) w words
  pub same : five_numbers n words ≡ w
  pub done : (s : List ℕ) → IsSet n s → length s ≡ k → set_index s < i → get_or words (first_word n k + set_index s) 0 ≡ containing n w s
  pub is_set : IsSet n now
  pub many : length now ≡ k
  pub index : i < choose n k → set_index now ≡ i

pub filled_start : (n k : ℕ) (words now : List ℕ) → HasSums n (k + 1) (five_numbers n words) words → HasIndex n k 0 now → Filled n k (five_numbers n words) words now 0
filled_start n k words now h g = record {
  sums = h;
  same = refl;
  done = λ s a b l. absurd (omega arith);
  is_set = g.is_set;
  many = g.many;
  index = λ l. g.index;
}

five_is : (n : ℕ) (words : List ℕ) → five_numbers n words ≡ drop (first_word n 5) words
unfolding five_numbers
five_is n words = refl

-- what next_set says of the set behind
pub record Stepped (n k i : ℕ) (old new : List ℕ) (more : Bool) : Type 0 where
  pub more_is : IsTrue more ↔ (set_index old + 1 < choose n k)
  pub next : more ≡ true → HasIndex n k (set_index old + 1) new
  pub last : more ≡ false → new ≡ old

pub filled_more : (n k : ℕ) (w words now : List ℕ) (i v : ℕ) (new : List ℕ) (more : Bool) → k ≤ 4 → i < choose n k → Filled n k w words now i → v ≡ containing n w now →
    Stepped n k i now new more → Filled n k w (set words (first_word n k + i) v) new (i + 1)
filled_more n k w words now i v new more few l h e t = record {
  sums = record { long = length-set words (first_word n k + i) v ∙ h.sums.long; sums = λ s g a b. above s a ∙ h.sums.sums s g a b };
  same = five_is n (set words (first_word n k + i) v) ∙ drop-set-lt (first_word n 5) words (first_word n k + i) v below_five ∙ sym (five_is n words) ∙ h.same;
  done = λ s g m b. one s g m b (cases_eq (set_index s) i);
  is_set = by_more_set more refl;
  many = by_more_many more refl;
  index = λ b. by_more_index b more refl;
}
  where
    here : set_index now ≡ i
    here = h.index l

    next_level : first_word n (k + 1) ≡ first_word n k + choose n k
    next_level = first_word_next n k

    below_five : first_word n k + i < first_word n 5
    below_five = omega (arith, next_level, first_word_mono n (k + 1) 5 (omega arith))

    inside : first_word n k + i < length words
    inside = omega (arith, h.sums.long, below_five, first_word_mono n 5 6 (omega arith))

    above : (s : List ℕ) → k + 1 ≤ length s → get_or (set words (first_word n k + i) v) (first_word n (length s) + set_index s) 0 ≡ get_or words (first_word n (length s) + set_index s) 0
    above s a = get_or-set_other words (first_word n k + i) (first_word n (length s) + set_index s) v 0 (λ q. omega (arith, next_level, first_word_mono n (k + 1) (length s) a))

    one : (s : List ℕ) → IsSet n s → length s ≡ k → set_index s < i + 1 → (set_index s ≡ i) ⊎ (set_index s ≡ i → ⊥) → get_or (set words (first_word n k + i) v) (first_word n k + set_index s) 0 ≡ containing n w s
    one s g m b (inl q) =
        let x : s ≡ now = same_set n s now g h.is_set (m ∙ sym h.many) (q ∙ sym here) in
        ap (λ z. get_or (set words (first_word n k + i) v) (first_word n k + z) 0) q ∙ get_or-set_same words (first_word n k + i) v 0 inside ∙ e ∙ ap (λ z. containing n w z) (sym x)
    one s g m b (inr ne) =
        get_or-set_other words (first_word n k + i) (first_word n k + set_index s) v 0 (λ q. ne (omega arith)) ∙ h.done s g m (omega arith)

    by_more_set : (b : Bool) → more ≡ b → IsSet n new
    by_more_set true q = (t.next q).is_set
    by_more_set false q = subst (λ z. IsSet n z) (sym (t.last q)) h.is_set

    by_more_many : (b : Bool) → more ≡ b → length new ≡ k
    by_more_many true q = (t.next q).many
    by_more_many false q = ap length (t.last q) ∙ h.many

    by_more_index : i + 1 < choose n k → (b : Bool) → more ≡ b → set_index new ≡ i + 1
    by_more_index b true q = (t.next q).index ∙ ap (λ z. z + 1) here
    by_more_index b false q = absurd (false≢true (sym q ∙ t.more_is.1 (subst (λ z. z + 1 < choose n k) (sym here) b)))

pub filled_done : (n k : ℕ) (w words now : List ℕ) (i : ℕ) → i ≡ choose n k → Filled n k w words now i → HasSums n k w words
filled_done n k w words now i e h = record {
  long = h.sums.long;
  sums = λ s g a b. one s g a b (cases_eq (length s) k);
}
  where
    one : (s : List ℕ) → IsSet n s → k ≤ length s → length s ≤ 5 → (length s ≡ k) ⊎ (length s ≡ k → ⊥) → get_or words (first_word n (length s) + set_index s) 0 ≡ containing n w s
    one s g a b (inl q) =
        let m : choose n (length s) ≡ choose n k = ap (λ z. choose n z) q in
        ap (λ z. get_or words (first_word n z + set_index s) 0) q ∙ h.done s g q (omega (arith, index_below n s g))
    one s g a b (inr ne) = h.sums.sums s g (omega arith) b

number_at : (w s : List ℕ) → number w s ≡ get_or w (set_index s) 0
unfolding number
number_at w s = refl

-- the words of the sets of five are their numbers
pub five_start : (n : ℕ) (words : List ℕ) → length words ≡ first_word n 6 → HasSums n 5 (five_numbers n words) words
five_start n words long = record { long = long; sums = λ s g a b. one s g (omega arith) }
  where
    one : (s : List ℕ) → IsSet n s → length s ≡ 5 → get_or words (first_word n (length s) + set_index s) 0 ≡ containing n (five_numbers n words) s
    one s g m =
        ap (λ z. get_or words (first_word n z + set_index s) 0) m
        ∙ sym (get_or-drop (first_word n 5) words (set_index s) 0)
        ∙ ap (λ z. get_or z (set_index s) 0) (sym (five_is n words))
        ∙ sym (number_at (five_numbers n words) s)
        ∙ sym (containing_five n (five_numbers n words) s g m)

-- the place of a set's word is within the words
pub word_within : (n : ℕ) (w words s : List ℕ) → HasSums n 0 w words → IsSet n s → length s ≤ 5 → first_word n (length s) + set_index s < length words
word_within n w words s h g l = omega (arith, h.long, index_below n s g, first_word_next n (length s), first_word_mono n (length s + 1) 6 (omega arith))

pub filled_room : (n k : ℕ) (w words now : List ℕ) (i above : ℕ) → k ≤ 4 → above ≡ first_word n (k + 1) → Filled n k w words now i → above + choose n (length now + 1) ≤ length words
filled_room n k w words now i above few e h =
    let m : choose n (length now + 1) ≡ choose n (k + 1) = ap (λ z. choose n (z + 1)) h.many in
    omega (arith, h.sums.long, first_word_next n (k + 1), first_word_mono n (k + 1 + 1) 6 (omega arith))

above_at : (n k j : ℕ) (w words now : List ℕ) (i above : ℕ) → k + suc j ≡ 5 → above ≡ first_word n (k + 1) → Filled n k w words now i → above_sum n words above now ≡ suc j * containing n w now
above_at n k j w words now i above five e h =
    let sums : HasSums n (length now + 1) w words = subst (λ z. HasSums n (z + 1) w words) (sym h.many) h.sums in
    let q : above ≡ first_word n (length now + 1) = e ∙ ap (λ z. first_word n (z + 1)) (sym h.many) in
    ap (λ z. above_sum n words z now) q ∙ above_word n j w words now h.is_set (omega (arith, h.many)) sums

pub filled_small : (n k : ℕ) (w words now : List ℕ) (i above : ℕ) → n ≤ 54 → k ≤ 4 → above ≡ first_word n (k + 1) → All (λ x. x ≤ 250000000000) w → Filled n k w words now i → above_sum n words above now < 2 ^ 64
filled_small n k w words now i above deck few e b h =
    let j : ℕ = 4 - k in
    omega (arith, above_at n k (4 - k) w words now i above (omega arith) e h, above_small n (4 - k) w now deck (omega arith) b)

pub filled_next : (n k : ℕ) (w words now : List ℕ) (i start above total others : ℕ) (new : List ℕ) (more : Bool) → k ≤ 4 → i < choose n k → start ≡ first_word n k → above ≡ first_word n (k + 1) → total ≡ above_sum n words above now → others ≡ k →
    Filled n k w words now i → Stepped n (length now) i now new more → Filled n k w (set words (start + i) (total / (5 - others))) new (i + 1)
filled_next n k w words now i start above total others new more few l s a t o h x =
    let five : k + suc (4 - k) ≡ 5 = omega arith in
    let d : 5 - others ≡ suc (4 - k) = omega arith in
    let v : total / (5 - others) ≡ containing n w now = ap (λ z. z / (5 - others)) (t ∙ above_at n k (4 - k) w words now i above five a h) ∙ ap (λ z. suc (4 - k) * containing n w now / z) d ∙ exact (4 - k) (containing n w now) in
    subst (λ z. Filled n k w (set words (z + i) (total / (5 - others))) new (i + 1)) (sym s)
    (filled_more n k w words now i (total / (5 - others)) new more few l h v (subst (λ z. Stepped n z i now new more) h.many x))

pub filled_place : (n k : ℕ) (w words now : List ℕ) (i start : ℕ) → k ≤ 4 → i < choose n k → start ≡ first_word n k → Filled n k w words now i → start + i < length words
filled_place n k w words now i start few l s h = omega (arith, h.sums.long, first_word_next n k, first_word_mono n (k + 1) 6 (omega arith))

-- every set of five has a number
pub numbers_count : (n : ℕ) (words : List ℕ) → length words ≡ first_word n 6 → length (five_numbers n words) ≡ choose n 5
numbers_count n words long =
    let a : length (five_numbers n words) ≡ length words - first_word n 5 = ap length (five_is n words) ∙ length-drop (first_word n 5) words in
    omega (arith, first_word-suc n 5)
