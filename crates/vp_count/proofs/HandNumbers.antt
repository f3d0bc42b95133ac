-- The numbers that a function gives to all sets of five cards, by index, written run after run: the sets with the same upper four cards stand one after another, by rising lowest card.
use Rattle.std.proofs.Common.{◌≡◌, ◌⊎◌, inl, inr, ℕ, zero, suc, ◌+◌, ◌-◌, ◌<◌, ◌≤◌, ◌↔◌, IsTrue, Bool, true, false, List, [], ◌∷◌, ◌++◌, length, get_or, take, drop, set, map, refl, ap, sym, subst, ◌∙◌, arith, add-one, lit<, append_assoc, append-nil}
use Rattle.std.specs.List.{All, flat_map}
use Rattle.std.proofs.Math.Seq.{take-suc, take-suc-set, take-length, take-append-add, take-append_seam}
use Rattle.std.proofs.lemmas.Bool.{false≢true}
use Rattle.std.proofs.lemmas.Grind.{flat_map-append}
use Rattle.std.proofs.lemmas.List.{get_or-map, length-set, length-map, length-append, length-drop, length-take-le, map-append, take-append-le, drop_all, take-append-drop}
use Rattle.std.proofs.lemmas.List.Elements.{All-map, All-from_get_or, All-same}
use Rattle.std.proofs.lemmas.List.Folds.{flat_map-map}
use lib.Seq.{drop_at}
use borrow.Rule.Slice.PartMut.{put_mid}
use Rattle.vp_card.specs.Cards.{in_deck}
use Rattle.vp_card.specs.Rising.{IsBelow, IsRising}
use Rattle.vp_card.proofs.InDeck.{in_deck-put}
use Rattle.vp_sets.specs.Sets.{deck, choose}
use Rattle.vp_sets.specs.Index.{IsSet, HasIndex, set_index, index_from, colex}
use Rattle.vp_sets.specs.Draws.{sum_over_draws}
use Rattle.vp_sets.proofs.Decks.{deck-suc, length-deck}
use Rattle.vp_sets.proofs.Colex.{Below, Numbered, colex-zero, colex-none, colex-suc, colex_count, at_index, numbered, set_rises, set_below, set_from, index_is}
use Rattle.vp_sets.proofs.Holds.{Dealt, draws_agree, dealt_is_set}
use Rattle.vp_count.specs.Runs.{run}
use Rattle.vp_count.specs.Sums.{number, hand_numbers, spread}
use Rattle.vp_count.specs.Table.{first_word, five_numbers}
use Rattle.vp_count.proofs.Scan.{index_below}
use Rattle.vp_count.proofs.Words.{first_word_next}

-- ---- the list of all numbers

-- a set stands at its index
set_of : (n k : ℕ) (s : List ℕ) → IsSet n s → length s ≡ k → get_or (colex k n) (set_index s) [] ≡ s
set_of n k s h many =
    ap (λ i. get_or (colex k n) i []) (index_is s)
    ∙ ap (λ j. get_or (colex j n) (index_from 0 s) []) (sym many)
    ∙ at_index n s (set_rises n s h) (set_below n s h)

-- the number of a set of five is what f gives
pub number_is : (n : ℕ) (f : List ℕ → ℕ) (hand : List ℕ) → IsSet n hand → length hand ≡ 5 → number (hand_numbers n f) hand ≡ f hand
unfolding number hand_numbers
number_is n f hand h five =
    let below : set_index hand < choose n 5 = subst (λ k. set_index hand < choose n k) five (index_below n hand h) in
    let inside : set_index hand < length (colex 5 n) = omega (arith, colex_count 5 n) in
    get_or-map f (colex 5 n) (set_index hand) [] 0 inside ∙ ap f (set_of n 5 hand h five)

pub numbers_count : (n : ℕ) (f : List ℕ → ℕ) → length (hand_numbers n f) ≡ choose n 5
unfolding hand_numbers
numbers_count n f = length-map (colex 5 n) f ∙ colex_count 5 n

-- a bound on what f gives bounds the numbers
pub numbers_small : (m n : ℕ) (f : List ℕ → ℕ) → ((hand : List ℕ) → f hand ≤ m) → All (λ x. x ≤ m) (hand_numbers n f)
unfolding hand_numbers
numbers_small m n f h = All-map (λ x. x ≤ m) f (colex 5 n) (All-from_get_or (λ hand. f hand ≤ m) (colex 5 n) [] (λ i l. h (get_or (colex 5 n) i [])))

in_deck_from : (n : ℕ) (s : List ℕ) → Below n s → in_deck n s ≡ true
in_deck_from n [] b = refl
in_deck_from n (c ∷ s) b = in_deck-put n c s b.0 (in_deck_from n s b.1)

dealt : (n : ℕ) (hand : List ℕ) → IsSet n hand → length hand ≡ 5 → Dealt n hand
dealt n hand h five = record { rising = set_rises n hand h; of_deck = in_deck_from n hand (set_below n hand h); five = five }

-- the sum over all draws of the number at the final hand's index is the sum over all draws of what f gives
pub spread_of : (n : ℕ) (f : List ℕ → ℕ) (hand : List ℕ) (mask : ℕ) → IsSet n hand → length hand ≡ 5 → spread n (hand_numbers n f) hand mask ≡ sum_over_draws f n hand mask
unfolding spread
spread_of n f hand mask h five = draws_agree (number (hand_numbers n f)) f n hand mask (dealt n hand h five) (λ d e. number_is n f d (dealt_is_set n d e) e.five)

-- ---- runs

pub length-run : (upper : List ℕ) → length (run upper) ≡ get_or upper 0 0
unfolding run
length-run upper = length-map (deck (get_or upper 0 0)) (λ low. low ∷ upper) ∙ length-deck (get_or upper 0 0)

-- all runs of sets of k + 1, one after another
abbrev pub runs : ℕ → ℕ → List (List ℕ)
runs k n = flat_map run (colex k n)

flat_map_agree : (f g : List ℕ → List (List ℕ)) (xs : List (List ℕ)) → ((i : ℕ) → i < length xs → f (get_or xs i []) ≡ g (get_or xs i [])) → flat_map f xs ≡ flat_map g xs
flat_map_agree f g [] h = refl
flat_map_agree f g (x ∷ xs) h = ap (λ z. z ++ flat_map f xs) (h 0 (omega arith)) ∙ ap (λ z. g x ++ z) (flat_map_agree f g xs (λ i l. h (suc i) (omega arith)))

map-flat_map : (g : List ℕ → List ℕ) (f : List ℕ → List (List ℕ)) (xs : List (List ℕ)) → map g (flat_map f xs) ≡ flat_map (λ x. map g (f x)) xs
map-flat_map g f [] = refl
map-flat_map g f (x ∷ xs) = map-append g (f x) (flat_map f xs) ∙ ap (λ z. map g (f x) ++ z) (map-flat_map g f xs)

map_after : (c : List ℕ) (top : ℕ) (xs : List ℕ) → map (λ s. s ++ top ∷ []) (map (λ low. low ∷ c) xs) ≡ map (λ low. low ∷ (c ++ top ∷ [])) xs
map_after c top [] = refl
map_after c top (x ∷ xs) = ap (λ z. (x ∷ (c ++ top ∷ [])) ∷ z) (map_after c top xs)

-- a run with one more card on top
run_top : (top : ℕ) (s : List ℕ) → 0 < length s → map (λ t. t ++ top ∷ []) (run s) ≡ run (s ++ top ∷ [])
unfolding run
run_top top [] l = absurd (omega arith)
run_top top (c ∷ s) l = map_after (c ∷ s) top (deck c)

singles : (n : ℕ) → colex 1 n ≡ map (λ c. c ∷ []) (deck n)
unfolding deck
singles zero = colex-none 0
singles (suc n) =
    colex-suc 0 n
    ∙ ap (λ z. z ++ map (λ s. s ++ n ∷ []) (colex 0 n)) (singles n)
    ∙ ap (λ z. map (λ c. c ∷ []) (deck n) ++ map (λ s. s ++ n ∷ []) z) (colex-zero n)
    ∙ sym (map-append (λ c. c ∷ []) (deck n) (n ∷ []))

-- the sets that have n on top, in runs
tops : (k n : ℕ) → ((j : ℕ) → colex (suc (suc j)) n ≡ flat_map run (colex (suc j) n)) → map (λ s. s ++ n ∷ []) (colex (suc k) n) ≡ flat_map run (map (λ s. s ++ n ∷ []) (colex k n))
unfolding run
tops zero n fewer =
    ap (λ z. map (λ s. s ++ n ∷ []) z) (singles n)
    ∙ map_after [] n (deck n)
    ∙ sym (append-nil (run (n ∷ [])))
    ∙ ap (λ z. flat_map run (map (λ s. s ++ n ∷ []) z)) (sym (colex-zero n))
tops (suc k) n fewer =
    ap (λ z. map (λ s. s ++ n ∷ []) z) (fewer k)
    ∙ map-flat_map (λ s. s ++ n ∷ []) run (colex (suc k) n)
    ∙ flat_map_agree (λ s. map (λ t. t ++ n ∷ []) (run s)) (λ s. run (s ++ n ∷ [])) (colex (suc k) n) (λ i l. run_top n (get_or (colex (suc k) n) i []) (long i l))
    ∙ sym (flat_map-map run (λ s. s ++ n ∷ []) (colex (suc k) n))
  where
    long : (i : ℕ) → i < length (colex (suc k) n) → 0 < length (get_or (colex (suc k) n) i [])
    long i l = omega (arith, (numbered (suc k) n i (omega (arith, colex_count (suc k) n))).many)

-- all sets of two members or more are those of the runs
pub colex_runs : (k n : ℕ) → colex (suc (suc k)) n ≡ runs (suc k) n
colex_runs k zero = colex-none (suc k) ∙ sym (ap (λ z. flat_map run z) (colex-none k))
colex_runs k (suc n) =
    colex-suc (suc k) n
    ∙ ap (λ z. z ++ map (λ s. s ++ n ∷ []) (colex (suc k) n)) (colex_runs k n)
    ∙ ap (λ z. flat_map run (colex (suc k) n) ++ z) (tops k n (λ j. colex_runs j n))
    ∙ sym (flat_map-append run (colex (suc k) n) (map (λ s. s ++ n ∷ []) (colex k n)))
    ∙ ap (λ z. flat_map run z) (sym (colex-suc k n))

-- ---- one run written

-- the numbers of the sets with a lowest card below `low` stand in front
pub record RunBelow (f : List ℕ → ℕ) (upper numbers : List ℕ) (low : ℕ) : Type 0 where
  pub long : length numbers ≡ get_or upper 0 0
  pub done : take low numbers ≡ map (λ c. f (c ∷ upper)) (deck low)

pub run_start : (f : List ℕ → ℕ) (upper numbers : List ℕ) → length numbers ≡ get_or upper 0 0 → RunBelow f upper numbers 0
unfolding deck
run_start f upper numbers long = record { long = long; done = refl }

pub run_more : (f : List ℕ → ℕ) (upper numbers : List ℕ) (low v : ℕ) → low < get_or upper 0 0 → v ≡ f (low ∷ upper) → RunBelow f upper numbers low → RunBelow f upper (set numbers low v) (low + 1)
run_more f upper numbers low v l is h = record {
  long = length-set numbers low v ∙ h.long;
  done =
      ap (λ k. take k (set numbers low v)) (add-one low)
      ∙ take-suc-set numbers low v (omega (arith, h.long))
      ∙ ap (λ z. z ++ v ∷ []) h.done
      ∙ ap (λ x. map (λ c. f (c ∷ upper)) (deck low) ++ x ∷ []) is
      ∙ sym (map-append (λ c. f (c ∷ upper)) (deck low) (low ∷ []))
      ∙ ap (λ z. map (λ c. f (c ∷ upper)) z) (sym (deck-suc low) ∙ ap deck (sym (add-one low)));
}

map_put : (f : List ℕ → ℕ) (upper xs : List ℕ) → map f (map (λ low. low ∷ upper) xs) ≡ map (λ low. f (low ∷ upper)) xs
map_put f upper [] = refl
map_put f upper (x ∷ xs) = ap (λ z. f (x ∷ upper) ∷ z) (map_put f upper xs)

pub run_done : (f : List ℕ → ℕ) (upper numbers : List ℕ) (low : ℕ) → low ≡ get_or upper 0 0 → RunBelow f upper numbers low → numbers ≡ map f (run upper)
unfolding run
run_done f upper numbers low e h =
    sym (take-length numbers)
    ∙ ap (λ k. take k numbers) (h.long ∙ sym e)
    ∙ h.done
    ∙ ap (λ k. map (λ c. f (c ∷ upper)) (deck k)) e
    ∙ sym (map_put f upper (deck (get_or upper 0 0)))

-- a card below four others, as they are named one by one
pub four_upper : (upper : List ℕ) → length upper ≡ 4 → get_or upper 0 0 ∷ get_or upper 1 0 ∷ get_or upper 2 0 ∷ get_or upper 3 0 ∷ [] ≡ upper
four_upper [] l = absurd (omega arith)
four_upper (b ∷ []) l = absurd (omega arith)
four_upper (b ∷ c ∷ []) l = absurd (omega arith)
four_upper (b ∷ c ∷ d ∷ []) l = absurd (omega arith)
four_upper (b ∷ c ∷ d ∷ e ∷ []) l = refl
four_upper (b ∷ c ∷ d ∷ e ∷ x ∷ upper) l = absurd (omega arith)

below_lower : (low b : ℕ) (s : List ℕ) → low < b → IsBelow b s → IsBelow low s
below_lower low b [] l h = tt
below_lower low b (c ∷ s) l h = (let k : b < c = h.0 in omega arith, below_lower low b s l h.1)

-- a set with a lower card in front is a set
pub lower_is_set : (n low : ℕ) (upper : List ℕ) → low < get_or upper 0 0 → IsSet n upper → IsSet n (low ∷ upper)
lower_is_set n low [] l h = absurd (omega arith)
lower_is_set n low (b ∷ upper) l h =
    let r : IsRising (b ∷ upper) = set_rises n (b ∷ upper) h in
    let s : Below n (b ∷ upper) = set_below n (b ∷ upper) h in
    set_from n (low ∷ b ∷ upper) ((l, below_lower low b upper l r.0), r) (omega (arith, s.0), s)

-- ---- written run after run

-- the sets of the runs of the first j sets of four upper cards
abbrev pub before : ℕ → ℕ → List (List ℕ)
before n j = flat_map run (take j (colex 4 n))

before_more : (n j : ℕ) (upper : List ℕ) → j < choose n 4 → HasIndex n 4 j upper → before n (j + 1) ≡ before n j ++ run upper
before_more n j upper l h =
    let inside : j < length (colex 4 n) = omega (arith, colex_count 4 n) in
    let here : get_or (colex 4 n) j [] ≡ upper = ap (λ i. get_or (colex 4 n) i []) (sym h.index) ∙ set_of n 4 upper h.is_set h.many in
    ap (λ i. flat_map run (take i (colex 4 n))) (add-one j)
    ∙ ap (λ z. flat_map run z) (take-suc (colex 4 n) j [] inside)
    ∙ flat_map-append run (take j (colex 4 n)) (get_or (colex 4 n) j [] ∷ [])
    ∙ ap (λ z. before n j ++ z) (append-nil (run (get_or (colex 4 n) j [])) ∙ ap run here)

before_all : (n j : ℕ) → j ≡ choose n 4 → before n j ≡ colex 5 n
before_all n j e =
    ap (λ i. flat_map run (take i (colex 4 n))) (e ∙ sym (colex_count 4 n))
    ∙ ap (λ z. flat_map run z) (take-length (colex 4 n))
    ∙ sym (colex_runs 3 n)

before_few : (n j : ℕ) → length (before n j) ≤ choose n 5
before_few n j =
    let all : before n j ++ flat_map run (drop j (colex 4 n)) ≡ colex 5 n =
    sym (flat_map-append run (take j (colex 4 n)) (drop j (colex 4 n))) ∙ ap (λ z. flat_map run z) (take-append-drop j (colex 4 n)) ∙ sym (colex_runs 3 n) in
    omega (arith, ap length all, length-append (before n j) (flat_map run (drop j (colex 4 n))), colex_count 5 n)

-- the numbers of the runs of the first j sets of upper cards stand in front, i of them; `upper` is the next such set
pub record Written (n : ℕ) (f : List ℕ → ℕ) (numbers upper : List ℕ) (j i : ℕ) : Type 0 where
  pub long : length numbers ≡ choose n 5
  pub end : i ≡ length (before n j)
  pub done : take i numbers ≡ map f (before n j)
  pub next : j < choose n 4 → HasIndex n 4 j upper

first_upper : (n : ℕ) → 5 ≤ n → IsSet n (0 ∷ 1 ∷ 2 ∷ 3 ∷ [])
first_upper n l = set_from n (0 ∷ 1 ∷ 2 ∷ 3 ∷ [])
    ((lit< tt, (lit< tt, (lit< tt, tt))), ((lit< tt, (lit< tt, tt)), ((lit< tt, tt), (tt, tt))))
    (omega arith, (omega arith, (omega arith, (omega arith, tt))))

first_index : set_index (0 ∷ 1 ∷ 2 ∷ 3 ∷ []) ≡ 0
unfolding set_index index_from choose
first_index = refl

pub written_start : (n : ℕ) (f : List ℕ → ℕ) (numbers : List ℕ) → 5 ≤ n → length numbers ≡ choose n 5 → Written n f numbers (0 ∷ 1 ∷ 2 ∷ 3 ∷ []) 0 0
written_start n f numbers l e = record {
  long = e;
  end = ap (λ z. length (flat_map run z)) (sym (take_none (colex 4 n)));
  done = take_none numbers ∙ ap (λ z. map f (flat_map run z)) (sym (take_none (colex 4 n)));
  next = λ _. record { is_set = first_upper n l; many = refl; index = first_index };
}
  where
    take_none : {A : Type 0} (xs : List A) → take 0 xs ≡ []
    take_none xs = refl

-- the next run ends within the numbers
pub written_room : (n : ℕ) (f : List ℕ → ℕ) (numbers upper : List ℕ) (j i : ℕ) → j < choose n 4 → Written n f numbers upper j i → i + get_or upper 0 0 ≤ length numbers
written_room n f numbers upper j i l h =
    let more : length (before n (j + 1)) ≡ length (before n j) + get_or upper 0 0 = ap length (before_more n j upper l (h.next l)) ∙ length-append (before n j) (run upper) ∙ ap (λ k. length (before n j) + k) (length-run upper) in
    omega (arith, before_few n (j + 1), h.long, h.end)

-- what next_set says of the upper cards
pub record Moved (n : ℕ) (old new : List ℕ) (more : Bool) : Type 0 where
  pub more_is : IsTrue more ↔ (set_index old + 1 < choose n (length old))
  pub next : more ≡ true → HasIndex n (length old) (set_index old + 1) new

-- a run more
pub written_more : (n : ℕ) (f : List ℕ → ℕ) (numbers upper new written : List ℕ) (j i k : ℕ) (more : Bool) → j < choose n 4 → Written n f numbers upper j i → k ≡ get_or upper 0 0
    → written ≡ map f (run upper) → Moved n upper new more → Written n f (put_mid i k numbers written) new (j + 1) (i + k)
written_more n f numbers upper new written j i k more l h first is m = record {
  long = length_put ∙ h.long;
  end = omega (arith, h.end, longer);
  done =
      ap (λ z. take z (put_mid i k numbers written)) (ap (λ z. i + z) (sym many))
      ∙ ap (λ z. take (z + length written) (put_mid i k numbers written)) (sym front)
      ∙ take-append-add (take i numbers) (written ++ drop k (drop i numbers)) (length written)
      ∙ ap (λ z. take i numbers ++ z) (take-append_seam written (drop k (drop i numbers)))
      ∙ ap (λ z. z ++ written) h.done
      ∙ ap (λ z. map f (before n j) ++ z) is
      ∙ sym (map-append f (before n j) (run upper))
      ∙ ap (λ z. map f z) (sym (before_more n j upper l here));
  next = λ b. later b more refl;
}
  where
    here : HasIndex n 4 j upper
    here = h.next l

    room : i + k ≤ length numbers
    room = omega (arith, written_room n f numbers upper j i l h)

    front : length (take i numbers) ≡ i
    front = length-take-le i numbers (omega (arith, room))

    many : length written ≡ k
    many = ap length is ∙ length-map (run upper) f ∙ length-run upper ∙ sym first

    longer : length (before n (j + 1)) ≡ length (before n j) + k
    longer = ap length (before_more n j upper l here) ∙ length-append (before n j) (run upper) ∙ ap (λ z. length (before n j) + z) (length-run upper ∙ sym first)

    length_put : length (put_mid i k numbers written) ≡ length numbers
    length_put = omega (
      arith,
      length-append (take i numbers) (written ++ drop k (drop i numbers)),
      length-append written (drop k (drop i numbers)),
      length-drop k (drop i numbers),
      length-drop i numbers,
      front,
      many,
      room,
    )

    later : j + 1 < choose n 4 → (b : Bool) → more ≡ b → HasIndex n 4 (j + 1) new
    later b true q =
        let at = m.next q in
        record { is_set = at.is_set; many = at.many ∙ here.many; index = at.index ∙ ap (λ z. z + 1) here.index }
    later b false q =
        let room : set_index upper + 1 < choose n (length upper) = subst (λ z. z + 1 < choose n (length upper)) (sym here.index) (subst (λ z. j + 1 < choose n z) (sym here.many) b) in
        absurd (false≢true (sym q ∙ m.more_is.1 room))

pub written_done : (n : ℕ) (f : List ℕ → ℕ) (numbers upper : List ℕ) (j i : ℕ) → j ≡ choose n 4 → Written n f numbers upper j i → numbers ≡ hand_numbers n f
unfolding hand_numbers
written_done n f numbers upper j i e h =
    let all : i ≡ length numbers = h.end ∙ ap length (before_all n j e) ∙ colex_count 5 n ∙ sym h.long in
    sym (take-length numbers) ∙ ap (λ k. take k numbers) (sym all) ∙ h.done ∙ ap (λ z. map f z) (before_all n j e)

-- all numbers are written
pub written_whole : (n : ℕ) (f : List ℕ → ℕ) (numbers upper : List ℕ) (j i : ℕ) → j ≡ choose n 4 → Written n f numbers upper j i → i ≡ choose n 5
written_whole n f numbers upper j i e h = h.end ∙ ap length (before_all n j e) ∙ colex_count 5 n

-- ---- the last words of a table are those that were written

put_last : (xs ys : List ℕ) (a k : ℕ) → a ≤ length xs → length xs ≤ a + k → drop a (put_mid a k xs ys) ≡ ys
put_last xs ys a k l m =
    drop_at (take a xs) (ys ++ drop k (drop a xs)) a (length-take-le a xs l)
    ∙ ap (λ z. ys ++ z) (drop_all k (drop a xs) (omega (arith, length-drop a xs)))
    ∙ append-nil ys

-- the words of a table in front of the sets of five
pub words_before : (n hands : ℕ) (words : List ℕ) → length words ≡ first_word n 6 → hands ≡ choose n 5 → length words ≡ first_word n 5 + hands
words_before n hands words e f = omega (arith, first_word_next n 5)

pub five_written : (n hands : ℕ) (words ys : List ℕ) → length words ≡ first_word n 6 → hands ≡ choose n 5
    → five_numbers n (put_mid (length words - hands) (length words - (length words - hands)) words ys) ≡ ys
unfolding five_numbers
five_written n hands words ys e f =
    let long = words_before n hands words e f in
    let a : first_word n 5 ≡ length words - hands = omega arith in
    ap (λ z. drop z (put_mid (length words - hands) (length words - (length words - hands)) words ys)) a
    ∙ put_last words ys (length words - hands) (length words - (length words - hands)) (omega arith) (omega arith)

-- numbers that were written last are no larger than a table of sums may have them
pub written_small : (n hands : ℕ) (words ys : List ℕ) (f : List ℕ → ℕ) → length words ≡ first_word n 6 → hands ≡ choose n 5 → ys ≡ hand_numbers n f → ((hand : List ℕ) → f hand ≤ 250000000000)
    → All (λ x. x ≤ 250000000000) (five_numbers n (put_mid (length words - hands) (length words - (length words - hands)) words ys))
written_small n hands words ys f e g is small = All-same (λ x. x ≤ 250000000000) _ (hand_numbers n f) (five_written n hands words ys e g ∙ is) (numbers_small 250000000000 n f small)
