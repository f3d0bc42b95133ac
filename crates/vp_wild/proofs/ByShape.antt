-- A hand's shape tells which pay lines it hits.
use Rattle.std.proofs.Common.{◌≡◌, ℕ, ◌+◌, ◌-◌, ◌<◌, ◌≤◌, Bool, true, false, cond, not, eqb, ltb, leb, ◌&&◌, List, [], ◌∷◌, length, get_or, refl, sym, ap, ◌∙◌, inl, inr, arith, suc, zero, Option, Some, None}
use Rattle.std.proofs.Math.Path.{fun_ext}
use Rattle.std.specs.Int.{bit_at}
use Rattle.std.specs.Prelude.{slice_index, position, find}
use Rattle.std.specs.Option.{option_map_or}
use Rattle.std.specs.List.{position_or_len}
use Rattle.std.proofs.lemmas.Bool.{agree_below_at, leb-true, le-leb, cases_Bool, cases_lt, eqb-true, eq-eqb, ne_eqb, ltb-true, ltb-false, lt-ltb, le-ltb, and_parts, false≢true, not_from_false}
use Rattle.std.proofs.lemmas.List.{get_or_past}
use Rattle.std.proofs.lemmas.List.Folds.{find_at}
use Rattle.std.proofs.lemmas.Option.{slice_get-get_or, slice_get_past, cond_some, none-some}
use Rattle.std.proofs.lemmas.Nat.Bits.{same_from_bits_below, bit_at-zero}
use Rattle.vp_card.specs.Cards.{rank, suit}
use Rattle.vp_rank.specs.Counts.{ranked, suited, one_suit, fits_window}
use Rattle.vp_rank.specs.Shapes.{IsShape, IsSuitMask, bit_of, count_of}
use Rattle.vp_rank.specs.Wilds.{wilds, naturals}
use Rattle.vp_rank.specs.declared.shape.Shape.{Shape}
use Rattle.vp_rank.proofs.BoundedTests.{same_tests, Below}
use Rattle.vp_rank.proofs.CountLemmas.{tally, count_by-cons, count_no, all_natural, naturals_natural}
use Rattle.vp_pay.specs.declared.pattern.Pattern.{Pattern}
use Rattle.vp_pay.specs.declared.table.PayLine.{PayLine}
use Rattle.vp_pay.specs.declared.table.PayTable.{PayTable}
use Rattle.vp_wild.specs.Patterns.{matches, qualifies}
use Rattle.vp_wild.specs.Payment.{hits, first_line, line, pay}
use Rattle.vp_wild.specs.ByCounts.{matches_by_counts, fits_some_window, at_most_one_suit, shape_matches, shape_hits}
use Rattle.vp_wild.proofs.RankRows.{one_suit-to, one_suit-from}
use Rattle.vp_wild.proofs.WindowRows.{fits_some-to, fits_some-from}
use Rattle.vp_wild.proofs.CountTable.{matches-counts}

-- each card has one of the four suits
suits_sum : (cards : List ℕ) → suited 0 cards + suited 1 cards + suited 2 cards + suited 3 cards ≡ length cards
suits_sum [] = refl
suits_sum (c ∷ cs) =
    let before : suited 0 cs + suited 1 cs + suited 2 cs + suited 3 cs ≡ length cs = suits_sum cs in
    let s0 : suited 0 (c ∷ cs) ≡ tally (eqb (suit c) 0) + suited 0 cs = count_by-cons (λ card. eqb (suit card) 0) c cs in
    let s1 : suited 1 (c ∷ cs) ≡ tally (eqb (suit c) 1) + suited 1 cs = count_by-cons (λ card. eqb (suit card) 1) c cs in
    let s2 : suited 2 (c ∷ cs) ≡ tally (eqb (suit c) 2) + suited 2 cs = count_by-cons (λ card. eqb (suit card) 2) c cs in
    let s3 : suited 3 (c ∷ cs) ≡ tally (eqb (suit c) 3) + suited 3 cs = count_by-cons (λ card. eqb (suit card) 3) c cs in
    let one : tally (eqb (suit c) 0) + tally (eqb (suit c) 1) + tally (eqb (suit c) 2) + tally (eqb (suit c) 3) ≡ 1 = one_of_four (suit c) (omega arith) in
    omega arith
  where
    one_of_four : (x : ℕ) → x < 4 → tally (eqb x 0) + tally (eqb x 1) + tally (eqb x 2) + tally (eqb x 3) ≡ 1
    one_of_four zero h = refl
    one_of_four (suc zero) h = refl
    one_of_four (suc (suc zero)) h = refl
    one_of_four (suc (suc (suc zero))) h = refl
    one_of_four (suc (suc (suc (suc x)))) h = absurd (omega arith)

-- a mask of suits has at most one where the sum of its bits is at most 1
one_bit_mask : (m : ℕ) → m < 16 → at_most_one_suit m ≡ leb (bit_at m 0 + bit_at m 1 + bit_at m 2 + bit_at m 3) 1
one_bit_mask m h = agree_below_at at_most_one_suit (λ m. leb (bit_at m 0 + bit_at m 1 + bit_at m 2 + bit_at m 3) 1) 16 m refl h

some_bit : (n : ℕ) → 0 < n → bit_of (ltb 0 n) ≡ 1
some_bit n h = ap bit_of (lt-ltb 0 n h)

no_bit : (n : ℕ) → n ≡ 0 → bit_of (ltb 0 n) ≡ 0
no_bit n h = ap bit_of (le-ltb 0 n (omega arith))

-- of four numbers of which at most one isn't 0, one is the sum
record IsSum (a b c d : ℕ) : Type 0 where
  at : ℕ
  below : at < 4
  is : get_or (a ∷ b ∷ c ∷ d ∷ []) at 0 ≡ a + b + c + d

one_is_sum : (a b c d : ℕ) → bit_of (ltb 0 a) + bit_of (ltb 0 b) + bit_of (ltb 0 c) + bit_of (ltb 0 d) ≤ 1 → IsSum a b c d
one_is_sum a b c d few =
    elim (cases_lt 0 a) [
      | inl pa ↦ let x : bit_of (ltb 0 a) ≡ 1 = some_bit a pa in
          record { at = 0; below = omega arith; is = rest b c d (omega arith) a }
      | inr za ↦
          elim (cases_lt 0 b) [
            | inl pb ↦ let x : bit_of (ltb 0 b) ≡ 1 = some_bit b pb in
                let z : c + d ≡ 0 = two c d (omega arith) in
                record { at = 1; below = omega arith; is = let y : b ≡ a + b + c + d = omega arith in y }
            | inr zb ↦
                elim (cases_lt 0 c) [
                  | inl pc ↦ let x : bit_of (ltb 0 c) ≡ 1 = some_bit c pc in
                      let z : d ≡ 0 = zero_of d (omega arith) in
                      record { at = 2; below = omega arith; is = let y : c ≡ a + b + c + d = omega arith in y }
                  | inr zc ↦ record { at = 3; below = omega arith; is = let y : d ≡ a + b + c + d = omega arith in y }
                ]
          ]
    ]
  where
    zero_of : (n : ℕ) → bit_of (ltb 0 n) ≤ 0 → n ≡ 0
    zero_of n h = elim (cases_lt 0 n) [ inl p ↦ absurd (let x : bit_of (ltb 0 n) ≡ 1 = some_bit n p in omega arith) | inr z ↦ omega arith ]

    two : (c d : ℕ) → bit_of (ltb 0 c) + bit_of (ltb 0 d) ≤ 0 → c + d ≡ 0
    two c d h = let z : c ≡ 0 = zero_of c (omega arith) in let y : d ≡ 0 = zero_of d (omega arith) in omega arith

    rest : (b c d : ℕ) → bit_of (ltb 0 b) + bit_of (ltb 0 c) + bit_of (ltb 0 d) ≤ 0 → (a : ℕ) → a ≡ a + b + c + d
    rest b c d h a = let z : b ≡ 0 = zero_of b (omega arith) in let y : c + d ≡ 0 = two c d (omega arith) in omega arith

suited_at : (cards : List ℕ) (s : ℕ) → s < 4 → get_or (suited 0 cards ∷ suited 1 cards ∷ suited 2 cards ∷ suited 3 cards ∷ []) s 0 ≡ suited s cards
suited_at cards zero h = refl
suited_at cards (suc zero) h = refl
suited_at cards (suc (suc zero)) h = refl
suited_at cards (suc (suc (suc zero))) h = refl
suited_at cards (suc (suc (suc (suc s)))) h = absurd (omega arith)

most_bit : (n : ℕ) → bit_of (ltb 0 n) ≤ 1
most_bit n = most (ltb 0 n)
  where
    most : (b : Bool) → bit_of b ≤ 1
    most true = omega arith
    most false = omega arith

-- of a number and three zeros at most one isn't 0
one_beside : (a b c d : ℕ) → b + c + d ≡ 0 → bit_of (ltb 0 a) + bit_of (ltb 0 b) + bit_of (ltb 0 c) + bit_of (ltb 0 d) ≤ 1
one_beside a b c d h = omega (arith, most_bit a, no_bit b (omega arith), no_bit c (omega arith), no_bit d (omega arith))

-- where a number is the sum of four, the others are 0
sum_is_one : (a b c d s : ℕ) → s < 4 → get_or (a ∷ b ∷ c ∷ d ∷ []) s 0 ≡ a + b + c + d
    → bit_of (ltb 0 a) + bit_of (ltb 0 b) + bit_of (ltb 0 c) + bit_of (ltb 0 d) ≤ 1
sum_is_one a b c d zero h e = let x : a ≡ a + b + c + d = e in omega (arith, one_beside a b c d (omega arith))
sum_is_one a b c d (suc zero) h e = let x : b ≡ a + b + c + d = e in omega (arith, one_beside b a c d (omega arith))
sum_is_one a b c d (suc (suc zero)) h e = let x : c ≡ a + b + c + d = e in omega (arith, one_beside c a b d (omega arith))
sum_is_one a b c d (suc (suc (suc zero))) h e = let x : d ≡ a + b + c + d = e in omega (arith, one_beside d a b c (omega arith))
sum_is_one a b c d (suc (suc (suc (suc s)))) h e = absurd (omega arith)

-- the mask of the cards' suits tells whether they have one suit
pub mask_one_suit : (mask : ℕ) (cards : List ℕ) → IsSuitMask mask cards → at_most_one_suit mask ≡ one_suit cards
mask_one_suit mask cards is =
    let sum : suited 0 cards + suited 1 cards + suited 2 cards + suited 3 cards ≡ length cards = suits_sum cards in
    let b0 : bit_at mask 0 ≡ bit_of (ltb 0 (suited 0 cards)) = is.bits 0 (omega arith) in
    let b1 : bit_at mask 1 ≡ bit_of (ltb 0 (suited 1 cards)) = is.bits 1 (omega arith) in
    let b2 : bit_at mask 2 ≡ bit_of (ltb 0 (suited 2 cards)) = is.bits 2 (omega arith) in
    let b3 : bit_at mask 3 ≡ bit_of (ltb 0 (suited 3 cards)) = is.bits 3 (omega arith) in
    let told : at_most_one_suit mask ≡ leb (bit_at mask 0 + bit_at mask 1 + bit_at mask 2 + bit_at mask 3) 1 = one_bit_mask mask is.below in
    same_tests (at_most_one_suit mask) (one_suit cards)
    (λ h.
    let few : bit_at mask 0 + bit_at mask 1 + bit_at mask 2 + bit_at mask 3 ≤ 1 =
    leb-true (bit_at mask 0 + bit_at mask 1 + bit_at mask 2 + bit_at mask 3) 1 (sym told ∙ h) in
    let found : IsSum (suited 0 cards) (suited 1 cards) (suited 2 cards) (suited 3 cards) =
    one_is_sum (suited 0 cards) (suited 1 cards) (suited 2 cards) (suited 3 cards) (omega arith) in
    one_suit-from cards found.at found.below (sym (suited_at cards found.at found.below) ∙ found.is ∙ sum))
    (λ h.
    let found : Below 4 (λ s. eqb (suited s cards) (length cards)) = one_suit-to cards h in
    let all : suited found.at cards ≡ length cards = eqb-true (suited found.at cards) (length cards) found.holds in
    let few : bit_of (ltb 0 (suited 0 cards)) + bit_of (ltb 0 (suited 1 cards)) + bit_of (ltb 0 (suited 2 cards)) + bit_of (ltb 0 (suited 3 cards)) ≤ 1 =
    sum_is_one (suited 0 cards) (suited 1 cards) (suited 2 cards) (suited 3 cards) found.at found.below (suited_at cards found.at found.below ∙ all ∙ sym sum) in
    told ∙ le-leb (bit_at mask 0 + bit_at mask 1 + bit_at mask 2 + bit_at mask 3) 1 (omega arith))

-- natural cards have none of the ranks from 13 on
no_rank : (r : ℕ) (cards : List ℕ) → 13 ≤ r → all_natural cards ≡ true → ranked r cards ≡ 0
no_rank r [] high h = refl
no_rank r (c ∷ cs) high h =
    let parts = and_parts (ltb c 52) (all_natural cs) h in
    let low : c < 52 = ltb-true c 52 parts.0 in
    count_no (λ card. eqb (rank card) r) c cs (ne_eqb (rank c) r (λ e. let f : rank c ≡ r = e in omega arith)) ∙ no_rank r cs high parts.1

-- a shape has the counts of the cards
pub same_counts : (w : Option ℕ) (cards : List ℕ) (s : Shape) → IsShape w cards s → count_of s ≡ (λ r. ranked r (naturals w cards))
same_counts w cards s is = fun_ext (λ r. at r)
  where
    at : (r : ℕ) → count_of s r ≡ ranked r (naturals w cards)
    at r = elim (cases_lt r 13) [
      | inl low ↦ is.counts r low
      | inr high ↦
          let long : length s.counts ≡ 13 = is.ranks in
          get_or_past s.counts r 0 (omega arith) ∙ sym (no_rank r (naturals w cards) high (naturals_natural w cards))
    ]

-- the shape of a hand of five cards tells which patterns it matches, and which pay lines it hits
pub shape_matches_is : (pattern : Pattern) (w : Option ℕ) (hand : List ℕ) (s : Shape) → length hand ≡ 5 → IsShape w hand s → shape_matches pattern s ≡ matches pattern w hand
shape_matches_is pattern w hand s five is =
    ap (λ (n : ℕ). matches_by_counts pattern n (count_of s) (at_most_one_suit s.suits)) is.wilds
    ∙ ap (λ (count : ℕ → ℕ). matches_by_counts pattern (wilds w hand) count (at_most_one_suit s.suits)) (same_counts w hand s is)
    ∙ ap (matches_by_counts pattern (wilds w hand) (λ r. ranked r (naturals w hand))) (mask_one_suit s.suits (naturals w hand) is.suits)
    ∙ sym (matches-counts pattern w hand five)

pub shape_hits_is : (w : Option ℕ) (hand : List ℕ) (s : Shape) → length hand ≡ 5 → IsShape w hand s → (l : PayLine) → shape_hits l s ≡ hits w l hand
unfolding hits
shape_hits_is w hand s five is l =
    ap (λ (n : ℕ). qualifies l.qualifier n && shape_matches l.pattern s) is.wilds
    ∙ ap (λ (b : Bool). qualifies l.qualifier (wilds w hand) && b) (shape_matches_is l.pattern w hand s five is)

pub shape_line : (w : Option ℕ) (lines : List PayLine) (hand : List ℕ) (s : Shape) → length hand ≡ 5 → IsShape w hand s → position (λ l. shape_hits l s) lines ≡ first_line w lines hand
unfolding first_line
shape_line w lines hand s five is =
    ap (λ (test : PayLine → Bool). position test lines) (fun_ext (λ l. shape_hits_is w hand s five is l))

-- the mask of windows is 0 where no window fits
pub no_window : (mask : ℕ) (count : ℕ → ℕ) → mask < 1024 → ((k : ℕ) → k < 10 → bit_at mask k ≡ bit_of (fits_window k count)) → not (eqb mask 0) ≡ fits_some_window count
no_window mask count low bits =
    same_tests (not (eqb mask 0)) (fits_some_window count)
    (λ h. elim (cases_Bool (fits_some_window count)) [
      | inl fits ↦ fits
      | inr none ↦ absurd (false≢true (sym (ap not (eq-eqb mask 0 (zero_mask none))) ∙ h))
    ])
    (λ h.
    let found : Below 10 (λ k. fits_window k count) = fits_some-to count h in
    let one : bit_at mask found.at ≡ 1 = bits found.at found.below ∙ ap bit_of found.holds in
    not_from_false (eqb mask 0) (ne_eqb mask 0 (λ e.
    let none : bit_at mask found.at ≡ 0 = ap (λ (m : ℕ). bit_at m found.at) e ∙ bit_at-zero found.at in omega arith)))
  where
    none_at : fits_some_window count ≡ false → (k : ℕ) → k < 10 → fits_window k count ≡ false
    none_at none k l = elim (cases_Bool (fits_window k count)) [
      | inl fits ↦ absurd (false≢true (sym none ∙ fits_some-from count k l fits))
      | inr fails ↦ fails
    ]

    zero_mask : fits_some_window count ≡ false → mask ≡ 0
    zero_mask none = same_from_bits_below 10 mask 0 low (omega arith) (λ k l. bits k l ∙ ap bit_of (none_at none k l) ∙ sym (bit_at-zero k))

-- the payment of the first line that a hand hits
pub pay_at : (t : PayTable) (coin : ℕ) (hand : List ℕ) (i : ℕ) (d : PayLine) → line t hand ≡ Some i → pay t coin hand ≡ slice_index (get_or t.lines.items i d).pays (coin - 1)
unfolding pay first_line
pay_at t coin hand i d h =
    let test : PayLine → Bool = λ l. hits t.wild l hand in
    let parts = cond_some (ltb (position_or_len (λ l. hits t.wild l hand) t.lines.items) (length t.lines.items)) (position_or_len (λ l. hits t.wild l hand) t.lines.items) i h in
    let inside = ltb-true (position_or_len (λ l. hits t.wild l hand) t.lines.items) (length t.lines.items) parts.0 in
    let at : find (λ l. hits t.wild l hand) t.lines.items ≡ Some (get_or t.lines.items i d) =
    find_at (λ l. hits t.wild l hand) t.lines.items
    ∙ slice_get-get_or t.lines.items (position_or_len (λ l. hits t.wild l hand) t.lines.items) d inside
    ∙ ap (λ (n : ℕ). Some (get_or t.lines.items n d)) parts.1 in
    ap (λ (o : Option PayLine). option_map_or (λ l. slice_index l.pays (coin - 1)) o 0) at

pub pay_none : (t : PayTable) (coin : ℕ) (hand : List ℕ) → line t hand ≡ None → pay t coin hand ≡ 0
unfolding pay first_line
pay_none t coin hand h =
    elim (cases_Bool (ltb (position_or_len (λ l. hits t.wild l hand) t.lines.items) (length t.lines.items))) [
      | inl inside ↦ absurd (none-some (position_or_len (λ l. hits t.wild l hand) t.lines.items) (sym h ∙ ap (λ (b : Bool). cond b (Some (position_or_len (λ l. hits t.wild l hand) t.lines.items)) None) inside))
      | inr past ↦
          let at : find (λ l. hits t.wild l hand) t.lines.items ≡ None =
          find_at (λ l. hits t.wild l hand) t.lines.items
          ∙ slice_get_past t.lines.items (position_or_len (λ l. hits t.wild l hand) t.lines.items) (ltb-false (position_or_len (λ l. hits t.wild l hand) t.lines.items) (length t.lines.items) past) in
          ap (λ (o : Option PayLine). option_map_or (λ l. slice_index l.pays (coin - 1)) o 0) at
    ]
