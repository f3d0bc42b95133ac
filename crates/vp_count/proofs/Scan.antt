-- One pass over the cards of the deck, from a set to the sets with one member more.
use Rattle.std.proofs.Common.{◌≡◌, ◌⊎◌, inl, inr, ℕ, zero, suc, ◌+◌, ◌-◌, ◌*◌, ◌^◌, ◌<◌, ◌≤◌, refl, ap, sym, ◌∙◌, subst, arith, add-one, Bool, true, false, cond, not, ◌==◌, List, [], ◌∷◌, ◌++◌, length, filter, get_or, take, drop, append-nil, zero-add}
use Rattle.std.specs.List.{sum, sum_by, range_with_len}
use Rattle.std.proofs.Math.Seq.{take-suc, take-length, drop-cons}
use Rattle.std.proofs.lemmas.List.{length-append, length-take-le, length-drop, get_or-take, get_or-drop, take-append-drop}
use Rattle.std.proofs.lemmas.List.Sums.{sum_by-cons, sum_by_push}
use Rattle.std.proofs.lemmas.Bool.{cases_lt, cases_eq, cases_Bool, false≢true}
use Rattle.vp_card.specs.Cards.{place}
use Rattle.vp_card.specs.Rising.{IsBelow, IsRising}
use Rattle.vp_sets.specs.Sets.{deck, choose, has, without}
use Rattle.vp_sets.specs.Index.{IsSet, index_from, set_index}
use Rattle.vp_card.proofs.Rising.{rising-place, place-none, place-here, place-later, length-place}
use Rattle.vp_sets.proofs.Decks.{deck-suc}
use Rattle.vp_sets.proofs.Binomials.{choose-zero, choose-none, choose-suc, choose_small}
use Rattle.vp_sets.proofs.Spread.{has-none, has-here, has-later, has-cons}
use Rattle.vp_sets.proofs.Colex.{Below, Topped, top_cases, above_at, below_at, choose_up, below_more, below_push, set_rises, set_below, set_from, index-none, index-cons, index-append, index_lt, place_below, index_is}
use Rattle.vp_sets.proofs.Walk.{AtLeast, index_take, below_take}
use Rattle.vp_count.specs.Table.{above_sum, words_of_cards}

rises_drop : (i : ℕ) (s : List ℕ) → IsRising s → IsRising (drop i s)
rises_drop zero [] h = tt
rises_drop zero (c ∷ s) h = h
rises_drop (suc i) [] h = tt
rises_drop (suc i) (c ∷ s) h = rises_drop i s h.1

above_at_least : (c : ℕ) (s : List ℕ) → IsBelow c s → AtLeast (suc c) s
above_at_least c [] h = tt
above_at_least c (d ∷ s) h = (let l : c < d = h.0 in omega arith, above_at_least c s h.1)

at_least_absent : (c : ℕ) (s : List ℕ) → AtLeast (suc c) s → has s c ≡ false
at_least_absent c [] h = has-none c
at_least_absent c (d ∷ s) h = has-later d s c (λ e. let l : suc c ≤ d = h.0 in omega arith) ∙ at_least_absent c s h.1

below_absent : (c : ℕ) (s t : List ℕ) → Below c s → has (s ++ t) c ≡ has t c
below_absent c [] t h = refl
below_absent c (d ∷ s) t h = has-later d (s ++ t) c (λ e. let l : d < c = h.0 in omega arith) ∙ below_absent c s t h.1

place_between : (c : ℕ) (a b : List ℕ) → Below c a → AtLeast (suc c) b → place c (a ++ b) ≡ a ++ c ∷ b
place_between c [] [] h k = place-none c
place_between c [] (d ∷ b) h k = place-here c d b (let l : suc c ≤ d = k.0 in omega arith)
place_between c (d ∷ a) b h k = place-later c d (a ++ b) (let l : d < c = h.0 in omega arith) ∙ ap (λ z. d ∷ z) (place_between c a b h.1 k)

-- a set with one card more
pub set_place : (n c : ℕ) (s : List ℕ) → IsSet n s → c < n → has s c ≡ false → IsSet n (place c s)
set_place n c s h l k = set_from n (place c s) (rising-place c s (Rattle.vp_sets.proofs.Decks.has-none s c k) (set_rises n s h)) (place_below n c s l (set_below n s h))

pub index_below : (n : ℕ) (s : List ℕ) → IsSet n s → set_index s < choose n (length s)
index_below n s g = omega (arith, index_lt n s (set_rises n s g) (set_below n s g), index_is s)

without-append : (a b s : List ℕ) → without (a ++ b) s ≡ without a s ++ without b s
unfolding without
without-append [] b s = refl
without-append (d ∷ a) b s = by_test (not (has s d)) (without-append a b s)
  where
    by_test : (t : Bool) → without (a ++ b) s ≡ without a s ++ without b s → cond t (d ∷ without (a ++ b) s) (without (a ++ b) s) ≡ cond t (d ∷ without a s) (without a s) ++ without b s
    by_test true ih = ap (λ z. d ∷ z) ih
    by_test false ih = ih

without_one_has : (c : ℕ) (s : List ℕ) → has s c ≡ true → without (c ∷ []) s ≡ []
unfolding without
without_one_has c s h = ap (λ b. cond (not b) (c ∷ []) []) h

without_one_not : (c : ℕ) (s : List ℕ) → has s c ≡ false → without (c ∷ []) s ≡ c ∷ []
unfolding without
without_one_not c s h = ap (λ b. cond (not b) (c ∷ []) []) h

without_member : (c : ℕ) (s : List ℕ) → has s c ≡ true → without (deck (suc c)) s ≡ without (deck c) s
without_member c s h = ap (λ z. without z s) (deck-suc c) ∙ without-append (deck c) (c ∷ []) s ∙ ap (λ z. without (deck c) s ++ z) (without_one_has c s h) ∙ append-nil (without (deck c) s)

without_free : (c : ℕ) (s : List ℕ) → has s c ≡ false → without (deck (suc c)) s ≡ without (deck c) s ++ c ∷ []
without_free c s h = ap (λ z. without z s) (deck-suc c) ∙ without-append (deck c) (c ∷ []) s ∙ ap (λ z. without (deck c) s ++ z) (without_one_not c s h)

-- the word of a set with one card more
unfoldable pub word : List ℕ → ℕ → List ℕ → ℕ → ℕ
word words start s c = get_or words (start + set_index (place c s)) 0

drop_nothing : (s : List ℕ) → drop 0 s ≡ s
drop_nothing [] = refl
drop_nothing (c ∷ s) = refl

take_nothing : (s : List ℕ) → take 0 s ≡ []
take_nothing [] = refl
take_nothing (c ∷ s) = refl

drop_past : (i : ℕ) (s : List ℕ) → length s ≤ i → drop i s ≡ []
drop_past zero [] l = refl
drop_past zero (c ∷ s) l = absurd (omega arith)
drop_past (suc i) [] l = refl
drop_past (suc i) (c ∷ s) l = drop_past i s (omega arith)

member_at : (s : List ℕ) (i : ℕ) → i < length s → has s (get_or s i 0) ≡ true
member_at [] i l = absurd (omega arith)
member_at (c ∷ s) zero l = has-here c s
member_at (c ∷ s) (suc i) l = has-cons c s (get_or s i 0) ∙ Rattle.std.proofs.lemmas.Bool.or_right (c == get_or s i 0) (has s (get_or s i 0)) (member_at s i (omega arith))

pub word_is : (s words : List ℕ) (start c : ℕ) → word words start s c ≡ get_or words (start + set_index (place c s)) 0
unfolding word
word_is s words start c = refl

pub above_is : (n : ℕ) (words : List ℕ) (start : ℕ) (s : List ℕ) → above_sum n words start s ≡ sum_by (word words start s) (without (deck n) s)
unfolding above_sum word
above_is n words start s = refl

index_bound : (j : ℕ) (s : List ℕ) → Below 54 s → j + length s ≤ 5 → index_from j s ≤ length s * 459165024
index_bound j [] b l = omega (arith, index-none j)
index_bound j (c ∷ s) b l =
    let k : c < 54 = b.0 in
    let ih : index_from (suc j) s ≤ length s * 459165024 = index_bound (suc j) s b.1 (omega arith) in
    omega (arith, index-cons j c s, choose_small c (suc j) (omega arith) (omega arith))

below_drop : (n i : ℕ) (s : List ℕ) → Below n s → Below n (drop i s)
below_drop n zero [] h = tt
below_drop n zero (c ∷ s) h = h
below_drop n (suc i) [] h = tt
below_drop n (suc i) (c ∷ s) h = below_drop n i s h.1

-- a set of a deck is a set of a larger one
pub set_wider : (n m : ℕ) (s : List ℕ) → n ≤ m → IsSet n s → IsSet m s
set_wider n m s l h = set_from m s (set_rises n s h) (below_more n m s l (set_below n s h))

-- ---- the index of a set with one card more

-- the card stands between the first `at` members and the others
pub record Between (s : List ℕ) (at c : ℕ) : Type 0 where
  pub at_le : at ≤ length s
  pub low : Below c (take at s)
  pub high : AtLeast (suc c) (drop at s)

between_absent : (s : List ℕ) (at c : ℕ) → Between s at c → has s c ≡ false
between_absent s at c h = ap (λ z. has z c) (sym (take-append-drop at s)) ∙ below_absent c (take at s) (drop at s) h.low ∙ at_least_absent c (drop at s) h.high

-- where the set with one card more stands, but for what that card adds to the index
pub base_of : ℕ → List ℕ → ℕ → ℕ
base_of start s at = start + (index_from 0 (take at s) + index_from (suc at) (drop at s))

base_small : (start : ℕ) (s : List ℕ) (at : ℕ) → Below 54 s → length s ≤ 4 → at ≤ length s → base_of start s at ≤ start + 4591650240
unfolding base_of
base_small start s at b few l = omega (
  arith,
  length-take-le at s l,
  length-drop at s,
  index_bound 0 (take at s) (below_take 54 at s b) (omega (arith, length-take-le at s l)),
  index_bound (suc at) (drop at s) (below_drop 54 at s b) (omega (arith, length-drop at s)),
)

between_index : (start : ℕ) (s : List ℕ) (at c : ℕ) → Between s at c → start + set_index (place c s) ≡ base_of start s at + choose c (at + 1)
unfolding base_of set_index
between_index start s at c h =
    let a : List ℕ = take at s in
    let b : List ℕ = drop at s in
    let p : place c s ≡ a ++ c ∷ b = ap (λ z. place c z) (sym (take-append-drop at s)) ∙ place_between c a b h.low h.high in
    let m : length a ≡ at = length-take-le at s h.at_le in
    let x : index_from 0 (a ++ c ∷ b) ≡ index_from 0 a + index_from (0 + length a) (c ∷ b) = index-append 0 a (c ∷ b) in
    let q : 0 + length a ≡ at = omega arith in
    let y : index_from (0 + length a) (c ∷ b) ≡ index_from at (c ∷ b) = ap (λ i. index_from i (c ∷ b)) q in
    let w : choose c (at + 1) ≡ choose c (suc at) = ap (λ i. choose c i) (add-one at) in
    let v : index_from 0 (place c s) ≡ index_from 0 (a ++ c ∷ b) = ap (λ z. index_from 0 z) p in
    omega (arith, index-cons at c b)

-- the word of the set with a card more stands within the words
between_room : (n : ℕ) (s words : List ℕ) (start at c : ℕ) → IsSet n s → c < n → start + choose n (length s + 1) ≤ length words → Between s at c → base_of start s at + choose c (at + 1) < length words
between_room n s words start at c g l room h =
    let k : has s c ≡ false = between_absent s at c h in
    let t : IsSet n (place c s) = set_place n c s g l k in
    let a : index_from 0 (place c s) < choose n (length (place c s)) = index_lt n (place c s) (set_rises n (place c s) t) (set_below n (place c s) t) in
    let b : choose n (length (place c s)) ≡ choose n (length s + 1) = ap (λ i. choose n i) (length-place c s ∙ sym (add-one (length s))) in
    let i : set_index (place c s) ≡ index_from 0 (place c s) = index_is (place c s) in
    omega (arith, between_index start s at c h)

-- ---- runs of cards that are not in the set

range_push : (low count : ℕ) → range_with_len low (suc count) ≡ range_with_len low count ++ (low + count) ∷ []
range_push low zero = ap (λ c. c ∷ []) (omega arith)
range_push low (suc count) =
    let q : low + 1 + count ≡ low + suc count = omega arith in
    ap (λ z. low ∷ z) (range_push (low + 1) count) ∙ ap (λ c. low ∷ (range_with_len (low + 1) count ++ c ∷ [])) q

-- the sum over the cards below the end, where none of the last `count` is in the set
run_splits : (f : ℕ → ℕ) (s : List ℕ) (low count : ℕ) → ((c : ℕ) → low ≤ c → c < low + count → has s c ≡ false) → sum_by f (without (deck (low + count)) s) ≡ sum_by f (without (deck low) s) + sum_by f (range_with_len low count)
run_splits f s low zero h =
    let e : sum_by f (without (deck (low + 0)) s) ≡ sum_by f (without (deck low) s) = ap (λ i. sum_by f (without (deck i) s)) (omega arith) in
    omega arith
run_splits f s low (suc count) h =
    let ih : sum_by f (without (deck (low + count)) s) ≡ sum_by f (without (deck low) s) + sum_by f (range_with_len low count) = run_splits f s low count (λ c a b. h c a (omega arith)) in
    let q : low + suc count ≡ suc (low + count) = omega arith in
    let a : sum_by f (without (deck (low + suc count)) s) ≡ sum_by f (without (deck (suc (low + count))) s) = ap (λ i. sum_by f (without (deck i) s)) q in
    let b : sum_by f (without (deck (suc (low + count))) s) ≡ sum_by f (without (deck (low + count)) s) + f (low + count) = ap (λ z. sum_by f z) (without_free (low + count) s (h (low + count) (omega arith) (omega arith))) ∙ sum_by_push f (without (deck (low + count)) s) (low + count) in
    let d : sum_by f (range_with_len low (suc count)) ≡ sum_by f (range_with_len low count) + f (low + count) = ap (λ z. sum_by f z) (range_push low count) ∙ sum_by_push f (range_with_len low count) (low + count) in
    omega arith

run_agrees : (f g : ℕ → ℕ) (low count : ℕ) → ((c : ℕ) → low ≤ c → c < low + count → f c ≡ g c) → sum_by f (range_with_len low count) ≡ sum_by g (range_with_len low count)
run_agrees f g low zero h = refl
run_agrees f g low (suc count) h =
    let ih : sum_by f (range_with_len (low + 1) count) ≡ sum_by g (range_with_len (low + 1) count) = run_agrees f g (low + 1) count (λ c a b. h c (omega arith) (omega arith)) in
    omega (arith, sum_by-cons f low (range_with_len (low + 1) count), sum_by-cons g low (range_with_len (low + 1) count), h low (omega arith) (omega arith))

-- their words
pub cards_are : (words : List ℕ) (first size low count : ℕ) → words_of_cards words first size low count ≡ sum_by (λ c. get_or words (first + choose c size) 0) (range_with_len low count)
unfolding words_of_cards
cards_are words first size low count = refl

pub cards_none : (words : List ℕ) (first size low : ℕ) → words_of_cards words first size low 0 ≡ 0
unfolding words_of_cards
cards_none words first size low = refl

pub cards_more : (words : List ℕ) (first size low count : ℕ) → words_of_cards words first size low (count + 1) ≡ words_of_cards words first size low count + get_or words (first + choose (low + count) size) 0
unfolding words_of_cards
cards_more words first size low count =
    let f : ℕ → ℕ = λ c. get_or words (first + choose c size) 0 in
    ap (λ k. sum_by f (range_with_len low k)) (add-one count) ∙ ap (λ z. sum_by f z) (range_push low count) ∙ sum_by_push f (range_with_len low count) (low + count)

cards_more_le : (words : List ℕ) (first size low count d : ℕ) → words_of_cards words first size low count ≤ words_of_cards words first size low (count + d)
cards_more_le words first size low count zero =
    let e : words_of_cards words first size low (count + 0) ≡ words_of_cards words first size low count = ap (λ k. words_of_cards words first size low k) (omega arith) in
    omega arith
cards_more_le words first size low count (suc d) =
    let e : words_of_cards words first size low (count + suc d) ≡ words_of_cards words first size low (count + d + 1) = ap (λ k. words_of_cards words first size low k) (omega arith) in
    omega (arith, cards_more_le words first size low count d, cards_more words first size low (count + d))

-- a part of the sum, with its next word, is no greater than the whole
pub cards_fit : (words : List ℕ) (first size low count many : ℕ) → count < many → words_of_cards words first size low count + get_or words (first + choose (low + count) size) 0 ≤ words_of_cards words first size low many
cards_fit words first size low count many l =
    let q : count + 1 + (many - (count + 1)) ≡ many = omega arith in
    let e : words_of_cards words first size low (count + 1 + (many - (count + 1))) ≡ words_of_cards words first size low many = ap (λ k. words_of_cards words first size low k) q in
    omega (arith, cards_more words first size low count, cards_more_le words first size low (count + 1) (many - (count + 1)))

-- ---- from the highest card down

-- the cards from `end` on are passed; `left` members are below them
pub record Above (n : ℕ) (s words : List ℕ) (start left end first total : ℕ) : Type 0 where
  pub left_le : left ≤ length s
  pub end_le : end ≤ n
  pub low : Below end (take left s)
  pub high : AtLeast end (drop left s)
  pub first_is : first ≡ base_of start s left
  pub total_is : total + sum_by (word words start s) (without (deck end) s) ≡ above_sum n words start s

pub above_start : (n : ℕ) (s words : List ℕ) (start index : ℕ) → IsSet n s → index ≡ set_index s → Above n s words start (length s) n (start + index) 0
unfolding base_of
above_start n s words start index g e =
    let all : take (length s) s ≡ s = take-length s in
    let none : drop (length s) s ≡ [] = drop_past (length s) s (omega arith) in
    record {
      left_le = omega arith;
      end_le = omega arith;
      low = subst (λ z. Below n z) (sym all) (set_below n s g);
      high = subst (λ z. AtLeast n z) (sym none) tt;
      first_is =
          let a : index_from 0 (take (length s) s) ≡ index_from 0 s = ap (λ z. index_from 0 z) all in
          let b : index_from (suc (length s)) (drop (length s) s) ≡ 0 = ap (λ z. index_from (suc (length s)) z) none ∙ index-none (suc (length s)) in
          omega (arith, index_is s);
      total_is = omega (arith, above_is n words start s);
    }

below_member : (s : List ℕ) (i : ℕ) → IsRising s → i < length s → Below (get_or s i 0) (take i s)
below_member [] i r l = absurd (omega arith)
below_member (c ∷ s) zero r l = tt
below_member (c ∷ s) (suc i) r l = (above_at c s i r.0 (omega arith), below_member s i r.1 (omega arith))

at_least_le : (a b : ℕ) (s : List ℕ) → a ≤ b → AtLeast b s → AtLeast a s
at_least_le a b [] l h = tt
at_least_le a b (c ∷ s) l h = (let m : b ≤ c = h.0 in omega arith, at_least_le a b s l h.1)

-- where the next set stands, by other names
pub above_as : (n : ℕ) (s words : List ℕ) (start left end first total first' total' : ℕ) → first' ≡ first → total' ≡ total → Above n s words start left end first total → Above n s words start left end first' total'
above_as n s words start left end first total first' total' p q h = record {
  left_le = h.left_le;
  end_le = h.end_le;
  low = h.low;
  high = h.high;
  first_is = p ∙ h.first_is;
  total_is = omega (arith, h.total_is);
}

-- what is known of the cards between a member and the end
pub record Piece (n : ℕ) (s words : List ℕ) (start left fewer end first total member : ℕ) : Type 0 where
  pub member_lt : member < end
  pub within : (c : ℕ) → member + 1 ≤ c → c < end → first + choose c (left + 1) < length words
  pub fits : total + words_of_cards words first (left + 1) (member + 1) (end - (member + 1)) ≤ above_sum n words start s
  pub enough : choose member left ≤ first
  pub next_small : base_of start s fewer ≤ start + 4591650240
  pub first_is : first - choose member left + choose member (left + 1) ≡ base_of start s fewer
  pub next : Above n s words start fewer member (base_of start s fewer) (total + words_of_cards words first (left + 1) (member + 1) (end - (member + 1)))

pub piece : (n : ℕ) (s words : List ℕ) (start left fewer end first total : ℕ) → n ≤ 54 → length s ≤ 4 → IsSet n s → start + choose n (length s + 1) ≤ length words → left ≡ fewer + 1
    → Above n s words start left end first total → Piece n s words start left fewer end first total (get_or s fewer 0)
unfolding base_of
piece n s words start left fewer end first total narrow few g room one h = record {
  member_lt = member_lt;
  within = λ c a b. subst (λ i. i + choose c (left + 1) < length words) (sym h.first_is) (between_room n s words start left c g (omega (arith, h.end_le)) room (between c a b));
  fits = omega (arith, whole);
  enough = omega (arith, here, ways, h.first_is);
  next_small = base_small start s fewer (below_more n 54 s narrow (set_below n s g)) few (omega (arith, h.left_le));
  first_is = omega (arith, here, there, ways, more_ways, h.first_is);
  next = record {
    left_le = omega (arith, h.left_le);
    end_le = omega (arith, member_lt, h.end_le);
    low = below_member s fewer rising inside;
    high = subst (λ z. AtLeast m z) (sym cut) (omega arith, at_least_le m end (drop (suc fewer) s) (omega (arith, member_lt)) (subst (λ i. AtLeast end (drop i s)) is_suc h.high));
    first_is = refl;
    total_is = omega (arith, whole);
  };
}
  where
    m : ℕ
    m = get_or s fewer 0

    is_suc : left ≡ suc fewer
    is_suc = one ∙ add-one fewer

    inside : fewer < length s
    inside = omega (arith, h.left_le)

    rising : IsRising s
    rising = set_rises n s g

    longer : take left s ≡ take fewer s ++ m ∷ []
    longer = ap (λ i. take i s) is_suc ∙ take-suc s fewer 0 inside

    cut : drop fewer s ≡ m ∷ drop (suc fewer) s
    cut = drop-cons s fewer 0 inside

    member_lt : m < end
    member_lt = subst (λ x. x < end) (get_or-take left s fewer 0 (omega arith)) (below_at end (take left s) fewer h.low (omega (arith, length-take-le left s h.left_le)))

    between : (c : ℕ) → m + 1 ≤ c → c < end → Between s left c
    between c a b = record {
      at_le = h.left_le;
      low = subst (λ z. Below c z) (sym longer) (below_push c m (take fewer s) (below_more m c (take fewer s) (omega arith) (below_member s fewer rising inside)) (omega arith));
      high = at_least_le (suc c) end (drop left s) (omega arith) h.high;
    }

    count : ℕ
    count = end - (m + 1)

    to_end : m + 1 + count ≡ end
    to_end = omega (arith, member_lt)

    word_here : (c : ℕ) → m + 1 ≤ c → c < m + 1 + count → word words start s c ≡ get_or words (first + choose c (left + 1)) 0
    word_here c a b =
        word_is s words start c
        ∙ ap (λ i. get_or words i 0) (between_index start s left c (between c a (omega (arith, to_end))))
        ∙ ap (λ i. get_or words (i + choose c (left + 1)) 0) (sym h.first_is)

    splits : sum_by (word words start s) (without (deck end) s) ≡ sum_by (word words start s) (without (deck m) s) + words_of_cards words first (left + 1) (m + 1) count
    splits =
        ap (λ i. sum_by (word words start s) (without (deck i) s)) (sym to_end)
        ∙ run_splits (word words start s) s (m + 1) count (λ c a b. between_absent s left c (between c a (omega (arith, to_end))))
        ∙ ap (λ x. x + sum_by (word words start s) (range_with_len (m + 1) count)) (ap (λ i. sum_by (word words start s) (without (deck i) s)) (add-one m) ∙ ap (λ z. sum_by (word words start s) z) (without_member m s (member_at s fewer inside)))
        ∙ ap (λ x. sum_by (word words start s) (without (deck m) s) + x) (run_agrees (word words start s) (λ c. get_or words (first + choose c (left + 1)) 0) (m + 1) count word_here ∙ sym (cards_are words first (left + 1) (m + 1) count))

    whole : (total + words_of_cards words first (left + 1) (m + 1) count) + sum_by (word words start s) (without (deck m) s) ≡ above_sum n words start s
    whole = omega (arith, h.total_is, splits)

    here : index_from 0 (take left s) ≡ index_from 0 (take fewer s) + choose m (suc fewer)
    here = ap (λ i. index_from 0 (take i s)) is_suc ∙ index_take s fewer inside

    there : index_from (suc fewer) (drop fewer s) ≡ choose m (suc (suc fewer)) + index_from (suc left) (drop left s)
    there = ap (λ z. index_from (suc fewer) z) cut ∙ index-cons (suc fewer) m (drop (suc fewer) s) ∙ ap (λ i. choose m (suc (suc fewer)) + index_from (suc i) (drop i s)) (sym is_suc)

    ways : choose m left ≡ choose m (suc fewer)
    ways = ap (λ i. choose m i) is_suc

    more_ways : choose m (left + 1) ≡ choose m (suc (suc fewer))
    more_ways = ap (λ i. choose m i) (omega (arith, is_suc))

-- ---- below the first member

-- an index with later columns is no greater than the number of sets
index_le : (j n : ℕ) (s : List ℕ) → IsRising s → Below n s → index_from j s ≤ choose n (j + length s)
index_le j zero [] r b = omega (arith, index-none j)
index_le j zero (c ∷ s) r b = absurd (let l : c < 0 = b.0 in omega arith)
index_le j (suc n) s r b =
    let e : (Below n s) ⊎ Topped n s = top_cases n s r b in
    elim e [
      | inl h ↦ omega (arith, index_le j n s r h, choose_up n (j + length s))
      | inr t ↦ topped t (index_le j n t.rest t.rises t.below)
    ]
  where
    topped : (t : Topped n s) → index_from j t.rest ≤ choose n (j + length t.rest) → index_from j s ≤ choose (suc n) (j + length s)
    topped t ih =
        let k : ℕ = j + length t.rest in
        let a : index_from j s ≡ index_from j t.rest + index_from k (n ∷ []) = ap (λ z. index_from j z) t.is ∙ index-append j t.rest (n ∷ []) in
        let b : index_from k (n ∷ []) ≡ choose n (suc k) = omega (arith, index-cons k n [], index-none (suc k)) in
        let long : length s ≡ length t.rest + 1 = ap length t.is ∙ length-append t.rest (n ∷ []) in
        let d : choose (suc n) (j + length s) ≡ choose (suc n) (suc k) = ap (λ i. choose (suc n) i) (omega arith) in
        omega (arith, choose-suc n k)

one_way : (c : ℕ) → choose c 1 ≡ c
one_way zero = choose-none 0
one_way (suc c) = omega (arith, choose-suc c 0, choose-zero c, one_way c)

sum_of_run : (words : List ℕ) (first k : ℕ) → first + k ≤ length words → sum_by (λ c. get_or words (first + choose c 1) 0) (range_with_len 0 k) ≡ sum (take k (drop first words))
sum_of_run words first zero l = refl
sum_of_run words first (suc k) l =
    let f : ℕ → ℕ = λ c. get_or words (first + choose c 1) 0 in
    let a : sum_by f (range_with_len 0 (suc k)) ≡ sum_by f (range_with_len 0 k) + f (0 + k) = ap (λ z. sum_by f z) (range_push 0 k) ∙ sum_by_push f (range_with_len 0 k) (0 + k) in
    let b : f (0 + k) ≡ get_or (drop first words) k 0 = ap (λ i. get_or words (first + i) 0) (one_way (0 + k) ∙ omega arith) ∙ sym (get_or-drop first words k 0) in
    let d : sum (take (suc k) (drop first words)) ≡ sum (take k (drop first words)) + get_or (drop first words) k 0 =
    ap (λ z. sum z) (take-suc (drop first words) k 0 (omega (arith, length-drop first words))) ∙ sum_by_push (λ x. x) (take k (drop first words)) (get_or (drop first words) k 0) in
    omega (arith, sum_of_run words first k (omega arith))

no_cards : (f : ℕ → ℕ) (s : List ℕ) → sum_by f (without (deck 0) s) ≡ 0
unfolding deck without
no_cards f s = refl

-- what is known of the cards below the first member
pub record Rest (n : ℕ) (s words : List ℕ) (start end first total : ℕ) : Type 0 where
  pub room : first + end ≤ length words
  pub whole : total + sum (take end (drop first words)) ≡ above_sum n words start s

pub rest : (n : ℕ) (s words : List ℕ) (start left end first total : ℕ) → IsSet n s → start + choose n (length s + 1) ≤ length words → left ≡ 0 → Above n s words start left end first total → Rest n s words start end first total
unfolding base_of
rest n s words start left end first total g room none h = record { room = fits; whole = omega (arith, h.total_is, all) }
  where
    at : first ≡ base_of start s 0
    at = h.first_is ∙ ap (λ i. base_of start s i) none

    between : (c : ℕ) → c < end → Between s 0 c
    between c l = record {
      at_le = omega arith;
      low = subst (λ z. Below c z) (sym (take_nothing s)) tt;
      high = at_least_le (suc c) end (drop 0 s) (omega arith) (subst (λ i. AtLeast end (drop i s)) none h.high);
    }

    by_end : (end ≡ 0) ⊎ (end ≡ 0 → ⊥) → first + end ≤ length words
    by_end (inl e) =
        let a : index_from 1 s ≤ choose n (1 + length s) = index_le 1 n s (set_rises n s g) (set_below n s g) in
        let b : choose n (1 + length s) ≡ choose n (length s + 1) = ap (λ i. choose n i) (omega arith) in
        let d : index_from 0 (take 0 s) ≡ 0 = ap (λ z. index_from 0 z) (take_nothing s) ∙ index-none 0 in
        let e2 : index_from 1 (drop 0 s) ≡ index_from 1 s = ap (λ z. index_from 1 z) (drop_nothing s) in
        omega (arith, at)
    by_end (inr ne) =
        let last : base_of start s 0 + choose (end - 1) (0 + 1) < length words = between_room n s words start 0 (end - 1) g (omega (arith, h.end_le)) room (between (end - 1) (omega arith)) in
        let one : choose (end - 1) (0 + 1) ≡ end - 1 = one_way (end - 1) in
        omega (arith, at)

    fits : first + end ≤ length words
    fits = by_end (cases_eq end 0)

    word_here : (c : ℕ) → 0 ≤ c → c < 0 + end → word words start s c ≡ get_or words (first + choose c 1) 0
    word_here c a b =
        word_is s words start c
        ∙ ap (λ i. get_or words i 0) (between_index start s 0 c (between c (omega arith)))
        ∙ ap (λ i. get_or words (i + choose c 1) 0) (sym at)

    nothing : sum_by (word words start s) (without (deck 0) s) ≡ 0
    nothing = no_cards (word words start s) s

    all : sum_by (word words start s) (without (deck end) s) ≡ sum (take end (drop first words))
    all =
        ap (λ i. sum_by (word words start s) (without (deck i) s)) (sym (zero-add end))
        ∙ run_splits (word words start s) s 0 end (λ c a b. between_absent s 0 c (between c (omega arith)))
        ∙ ap (λ x. x + sum_by (word words start s) (range_with_len 0 end)) nothing
        ∙ zero-add (sum_by (word words start s) (range_with_len 0 end))
        ∙ run_agrees (word words start s) (λ c. get_or words (first + choose c 1) 0) 0 end word_here
        ∙ sum_of_run words first end fits
