-- The held cards of a mask and of the mask with one higher bit.
use Rattle.std.proofs.Common.{◌≡◌, ◌⊎◌, inl, inr, ℕ, zero, suc, ◌+◌, ◌*◌, ◌/◌, ◌%◌, ◌^◌, ◌<◌, ◌≤◌, Bool, true, false, cond, ◌==◌, List, [], ◌∷◌, ◌++◌, length, map, get_or, set, refl, ap, sym, subst, ◌∙◌, arith, length-append, length-set, get_or-set_same, get_or-set_other}
use lib.Count.{ones}
use Rattle.std.specs.Prelude.{count_ones}
use Rattle.std.specs.List.{range_with_len}
use Rattle.std.proofs.Math.Nat.{pow-suc}
use Rattle.std.proofs.lemmas.List.FromFn.{get_or-map-range_with_len}
use Rattle.std.proofs.lemmas.Bool.{cases_eq, cases_Bool}
use Rattle.vp_card.specs.Cards.{held}
use Rattle.vp_sets.specs.Sets.{choose}
use Rattle.vp_sets.specs.Index.{IsSet, set_index, index_from}
use Rattle.vp_sets.proofs.Binomials.{choose_small}
use Rattle.vp_sets.proofs.Bridge.{held-held, held-discarded}
use Rattle.vp_sets.proofs.Colex.{index-append, index-cons, index-none, index_is}
use Rattle.vp_sets.proofs.Holds.{length-held}
use Rattle.vp_count.specs.HeldMasks.{HoldsMany, Indexed}
use Rattle.vp_count.specs.Sums.{containing}
use Rattle.vp_count.specs.Table.{AreStarts, IsSumTable, five_numbers, first_word}
use Rattle.vp_count.proofs.Fill.{word_within}
use Rattle.vp_count.proofs.Scan.{index_below}
use Rattle.vp_count.proofs.Passes.{held_is_set}

-- no bit, no card
pub held_none : (hand : List ℕ) → held 0 hand ≡ []
held_none [] = refl
held_none (c ∷ hand) = held_none hand

-- the card of a higher bit stands behind the others
pub held_high : (p low : ℕ) (hand : List ℕ) → p < length hand → low < 2 ^ p → held (2 ^ p + low) hand ≡ held low hand ++ get_or hand p 0 ∷ []
held_high p low [] l h = absurd (omega arith)
held_high zero low (c ∷ hand) l h =
    let none : low ≡ 0 = omega arith in
    let one : held (2 ^ 0 + low) (c ∷ hand) ≡ held 1 (c ∷ hand) = ap (λ m. held (2 ^ 0 + m) (c ∷ hand)) none in
    let card : held 1 (c ∷ hand) ≡ c ∷ [] = ap (λ (s : List ℕ). c ∷ s) (held_none hand) in
    let before : held low (c ∷ hand) ≡ [] = ap (λ m. held m (c ∷ hand)) none ∙ held_none (c ∷ hand) in
    one ∙ (card ∙ ap (λ (s : List ℕ). s ++ c ∷ []) (sym before))
held_high (suc p) low (c ∷ hand) l h =
    let double : 2 ^ suc p ≡ 2 ^ p * 2 = pow-suc 2 p in
    let half : (2 ^ suc p + low) / 2 ≡ 2 ^ p + low / 2 = omega arith in
    let rest : (2 ^ suc p + low) % 2 ≡ low % 2 = omega arith in
    let ih : held (2 ^ p + low / 2) hand ≡ held (low / 2) hand ++ get_or hand p 0 ∷ [] = held_high p (low / 2) hand (omega arith) (omega arith) in
    let deep : held ((2 ^ suc p + low) / 2) hand ≡ held (low / 2) hand ++ get_or hand p 0 ∷ [] = ap (λ m. held m hand) half ∙ ih in
    let t : ((low % 2 == 1) ≡ true) ⊎ ((low % 2 == 1) ≡ false) = cases_Bool (low % 2 == 1) in
    elim t [
      | inl y ↦ held-held (2 ^ suc p + low) c hand (ap (λ r. r == 1) rest ∙ y) ∙ (ap (λ (s : List ℕ). c ∷ s) deep ∙ ap (λ (s : List ℕ). s ++ get_or hand p 0 ∷ []) (sym (held-held low c hand y)))
      | inr y ↦ held-discarded (2 ^ suc p + low) c hand (ap (λ r. r == 1) rest ∙ y) ∙ (deep ∙ ap (λ (s : List ℕ). s ++ get_or hand p 0 ∷ []) (sym (held-discarded low c hand y)))
    ]

-- what the card behind adds to the index
pub index_behind_all : (s : List ℕ) (c : ℕ) → set_index (s ++ c ∷ []) ≡ set_index s + choose c (length s + 1)
index_behind_all s c =
    let one : length s + 1 ≡ suc (length s) = omega arith in
    let w : choose c (length s + 1) ≡ choose c (suc (length s)) = ap (λ k. choose c k) one in
    let z : 0 + length s ≡ length s = omega arith in
    let y : index_from (0 + length s) (c ∷ []) ≡ index_from (length s) (c ∷ []) = ap (λ j. index_from j (c ∷ [])) z in
    omega (arith, index_is (s ++ c ∷ []), index_is s, index-append 0 s (c ∷ []), index-cons (length s) c [], index-none (suc (length s)))

-- ---- how many cards a mask holds

-- the number of held cards does not depend on which cards they are
held_alike : (m : ℕ) (xs ys : List ℕ) → length xs ≡ length ys → length (held m xs) ≡ length (held m ys)
held_alike m [] [] e = refl
held_alike m [] (y ∷ ys) e = absurd (omega arith)
held_alike m (x ∷ xs) [] e = absurd (omega arith)
held_alike m (x ∷ xs) (y ∷ ys) e = at (m % 2 == 1) (held_alike (m / 2) xs ys (omega arith))
  where
    at : (b : Bool) → length (held (m / 2) xs) ≡ length (held (m / 2) ys) → length (cond b (x ∷ held (m / 2) xs) (held (m / 2) xs)) ≡ length (cond b (y ∷ held (m / 2) ys) (held (m / 2) ys))
    at true ih = ap suc ih
    at false ih = ih

abbrev five_cards : List ℕ
five_cards = 0 ∷ 1 ∷ 2 ∷ 3 ∷ 4 ∷ []

ones_table : map (λ m. count_ones m) (range_with_len 0 32) ≡ map (λ m. length (held m five_cards)) (range_with_len 0 32)
unfolding lib.Count.ones
ones_table = refl

-- a mask holds as many cards as it has bits
pub holds_many : (mask : ℕ) → mask < 32 → HoldsMany mask (count_ones mask)
holds_many mask l hand five =
    let ones : get_or (map (λ m. count_ones m) (range_with_len 0 32)) mask 0 ≡ count_ones mask = get_or-map-range_with_len (λ m. count_ones m) 0 32 mask mask 0 (omega arith) (omega arith) in
    let many : get_or (map (λ m. length (held m five_cards)) (range_with_len 0 32)) mask 0 ≡ length (held mask five_cards) = get_or-map-range_with_len (λ m. length (held m five_cards)) 0 32 mask mask 0 (omega arith) (omega arith) in
    sym ones ∙ ap (λ t. get_or t mask 0) ones_table ∙ many ∙ held_alike mask five_cards hand (long ∙ sym five)
  where
    long : length five_cards ≡ 5
    long = refl

pub holds_few : (mask many : ℕ) → HoldsMany mask many → many ≤ 5
holds_few mask many h = omega (arith, h (0 ∷ 1 ∷ 2 ∷ 3 ∷ 4 ∷ []) refl, length-held mask (0 ∷ 1 ∷ 2 ∷ 3 ∷ 4 ∷ []))

-- ---- their indexes

-- what is reckoned for one mask more
pub record OneMore (hand indexes : List ℕ) (p bit low many : ℕ) : Type 0 where
  pub few : many + 1 ≤ 5
  pub fits : get_or indexes low 0 + choose (get_or hand p 0) (many + 1) ≤ 459165024
  pub index : get_or indexes low 0 + choose (get_or hand p 0) (many + 1) ≡ set_index (held (bit + low) hand)

pub one_mask_more : (hand indexes : List ℕ) (p bit low many : ℕ) → IsSet 54 hand → length hand ≡ 5 → p < 5 → bit ≡ 2 ^ p → low < bit → HoldsMany low many → Indexed hand indexes (bit + low) → OneMore hand indexes p bit low many
one_mask_more hand indexes p bit low many is five l power h size so =
    let high : held (bit + low) hand ≡ held low hand ++ get_or hand p 0 ∷ [] = ap (λ b. held (b + low) hand) power ∙ held_high p low hand (omega arith) (omega arith) in
    let size_is : many ≡ length (held low hand) = size hand five in
    let index_is : get_or indexes low 0 ≡ set_index (held low hand) = so.told low (omega arith) in
    let longer : length (held (bit + low) hand) ≡ length (held low hand) + 1 = ap length high ∙ length-append (held low hand) (get_or hand p 0 ∷ []) in
    let more : set_index (held (bit + low) hand) ≡ set_index (held low hand) + choose (get_or hand p 0) (length (held low hand) + 1) = ap set_index high ∙ index_behind_all (held low hand) (get_or hand p 0) in
    let way : choose (get_or hand p 0) (many + 1) ≡ choose (get_or hand p 0) (length (held low hand) + 1) = ap (λ k. choose (get_or hand p 0) (k + 1)) size_is in
    let few : length (held (bit + low) hand) ≤ 5 = omega (arith, length-held (bit + low) hand) in
    record {
      few = omega arith;
      fits = omega (arith, index_below 54 (held (bit + low) hand) (held_is_set 54 (bit + low) hand is), choose_small 54 (length (held (bit + low) hand)) (omega arith) few);
      index = omega arith;
    }

-- one mask more
pub indexed_more : (hand indexes : List ℕ) (p bit low many index : ℕ) → bit + low < 32 → index ≡ get_or indexes low 0 + choose (get_or hand p 0) (many + 1)
    → OneMore hand indexes p bit low many → Indexed hand indexes (bit + low) → Indexed hand (set indexes (bit + low) index) (bit + (low + 1))
indexed_more hand indexes p bit low many index room is_index one so = record {
  long = length-set indexes (bit + low) index ∙ so.long;
  told = λ mask l. at mask l (cases_eq mask (bit + low));
}
  where
    at : (mask : ℕ) → mask < bit + (low + 1) → (mask ≡ bit + low) ⊎ (mask ≡ bit + low → ⊥) → get_or (set indexes (bit + low) index) mask 0 ≡ set_index (held mask hand)
    at mask l (inl same) =
        ap (λ m. get_or (set indexes (bit + low) index) m 0) same
        ∙ (get_or-set_same indexes (bit + low) index 0 (omega (arith, so.long)) ∙ (is_index ∙ one.index ∙ ap (λ m. set_index (held m hand)) (sym same)))
    at mask l (inr ne) = get_or-set_other indexes (bit + low) mask index 0 ne ∙ so.told mask (omega arith)

-- no mask but that of no card
pub indexed_start : (hand indexes : List ℕ) → length indexes ≡ 32 → get_or indexes 0 0 ≡ 0 → Indexed hand indexes 1
unfolding set_index
indexed_start hand indexes long i = record {
  long = long;
  told = λ mask l. let none : mask ≡ 0 = omega arith in ap (λ m. get_or indexes m 0) none ∙ (i ∙ (sym (ap (index_from 0) (held_none hand) ∙ index-none 0) ∙ ap (λ m. index_from 0 (held m hand)) (sym none)));
}

-- the word of the held cards of a mask
pub record HeldWord (n : ℕ) (words hand indexes : List ℕ) (mask start : ℕ) : Type 0 where
  pub within : start + get_or indexes mask 0 < length words
  pub word : get_or words (start + get_or indexes mask 0) 0 ≡ containing n (five_numbers n words) (held mask hand)

pub held_word : (n : ℕ) (starts words hand indexes : List ℕ) (mask many : ℕ) → IsSumTable n words → AreStarts n starts → IsSet n hand → length hand ≡ 5 → HoldsMany mask many → Indexed hand indexes 32 → mask < 32
    → HeldWord n words hand indexes mask (get_or starts many 0)
held_word n starts words hand indexes mask many table are is five size so l =
    let s : List ℕ = held mask hand in
    let set : IsSet n s = held_is_set n mask hand is in
    let few : length s ≤ 5 = omega (arith, length-held mask hand) in
    let index : get_or indexes mask 0 ≡ set_index s = so.told mask l in
    let first : get_or starts many 0 ≡ first_word n (length s) = ap (λ k. get_or starts k 0) (size hand five) ∙ are.told (length s) few in
    let at : get_or starts many 0 + get_or indexes mask 0 ≡ first_word n (length s) + set_index s = omega arith in
    record {
      within = omega (arith, word_within n (five_numbers n words) words s table.sums set few);
      word = ap (λ i. get_or words i 0) at ∙ table.sums.sums s set (omega arith) few;
    }

-- one sum more
pub found_more : (n n' : ℕ) (w w' hand found : List ℕ) (i v : ℕ) → i < length found → n' ≡ n → w' ≡ w → ((k : ℕ) → k < i → get_or found k 0 ≡ containing n w (held k hand)) → v ≡ containing n' w' (held i hand) → (k : ℕ) → k < i + 1 → get_or (set found i v) k 0 ≡ containing n w (held k hand)
found_more n n' w w' hand found i v l a b h e k m =
    let t : (k ≡ i) ⊎ (k ≡ i → ⊥) = cases_eq k i in
    elim t [
      | inl q ↦ subst (λ j. get_or (set found i v) j 0 ≡ containing n w (held j hand)) (sym q) (get_or-set_same found i v 0 l ∙ e ∙ ap (λ z. containing z w' (held i hand)) a ∙ ap (λ z. containing n z (held i hand)) b)
      | inr ne ↦ get_or-set_other found i k v 0 ne ∙ h k (omega arith)
    ]
