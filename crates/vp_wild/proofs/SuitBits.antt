-- The bits of the suits of some cards.
use Rattle.std.proofs.Common.{◌≡◌, ℕ, zero, suc, ◌+◌, ◌^◌, ◌%◌, ◌*◌, ◌<◌, true, false, cond, ltb, eqb, List, [], ◌∷◌, length, get_or, map, set, refl, ap, sym, subst, ◌∙◌, inl, inr, arith, Option, bit_or}
use Rattle.std.specs.Int.{bit_at}
use Rattle.std.specs.Int.Bits.{or_zero_l, or_zero_r}
use Rattle.std.proofs.lemmas.List.{get_or-map, get_or-set_same, get_or-set_other}
use Rattle.std.proofs.lemmas.Nat.Bits.{bit_at-zero}
use Rattle.std.proofs.lemmas.Bool.{cases_Bool, cases_eq, eq-eqb, ne_eqb, lt-ltb}
use Rattle.vp_card.specs.Cards.{suit}
use Rattle.vp_rank.specs.Counts.{suited}
use Rattle.vp_rank.specs.Shapes.{IsSuitMask, bit_of}
use Rattle.vp_rank.specs.Wilds.{is_wild, naturals}
use Rattle.vp_rank.proofs.CountLemmas.{tally, count_by-cons, naturals_yes, naturals_no}
use Rattle.vp_rank.proofs.Masks.{suit_below, suit_added}
use Rattle.vp_sets.specs.Index.{IsSet}
use Rattle.vp_sets.specs.Sets.{deck}
use Rattle.vp_sets.proofs.Colex.{Below, set_below}
use Rattle.vp_sets.proofs.Decks.{length-deck, get_or-deck}
use Rattle.vp_wild.specs.ByCounts.{at_most_one_suit}
use Rattle.vp_wild.specs.declared.places.TheConstants.{ONE_SUIT}
use Rattle.vp_wild.specs.Places.{AreSuitBits, suit_bit, suits_by}
use Rattle.vp_sets.proofs.FiveCards.{five_in_row}

pub suits-none : (bits : List ℕ) → suits_by bits [] ≡ 0
unfolding suits_by
suits-none bits = refl

pub suits-cons : (bits : List ℕ) (c : ℕ) (s : List ℕ) → suits_by bits (c ∷ s) ≡ bit_or (suits_by bits s) (get_or bits c 0)
unfolding suits_by
suits-cons bits c s = refl

pub bit_yes : (w : Option ℕ) (c : ℕ) → is_wild w c ≡ true → suit_bit w c ≡ 0
unfolding suit_bit
bit_yes w c e = ap (λ b. cond b 0 (2 ^ suit c)) e

small_power : (s : ℕ) → s < 4 → 2 ^ s ≡ 1 * 2 ^ s % 256
small_power zero h = refl
small_power (suc zero) h = refl
small_power (suc (suc zero)) h = refl
small_power (suc (suc (suc zero))) h = refl
small_power (suc (suc (suc (suc s)))) h = absurd (omega arith)

pub bit_no : (w : Option ℕ) (c : ℕ) → is_wild w c ≡ false → suit_bit w c ≡ 1 * 2 ^ suit c % 256
unfolding suit_bit
bit_no w c e = ap (λ b. cond b 0 (2 ^ suit c)) e ∙ small_power (suit c) (omega arith)

-- the bit of one card more
pub bits_more : (w : Option ℕ) (bits : List ℕ) (n v : ℕ) → n < length bits → ((k : ℕ) → k < n → get_or bits k 0 ≡ suit_bit w k) → v ≡ suit_bit w n
    → (k : ℕ) → k < n + 1 → get_or (set bits n v) k 0 ≡ suit_bit w k
bits_more w bits n v room told e k l =
    elim (cases_eq k n) [
      | inl same ↦ ap (λ i. get_or (set bits n v) i 0) same ∙ get_or-set_same bits n v 0 room ∙ e ∙ ap (suit_bit w) (sym same)
      | inr ne ↦ get_or-set_other bits n k v 0 ne ∙ told k (omega arith)
    ]

-- a card more that isn't wild
mask_more : (mask c : ℕ) (l : List ℕ) → IsSuitMask mask l → IsSuitMask (bit_or mask (1 * 2 ^ suit c % 256)) (c ∷ l)
mask_more mask c l is = record {
  below = suit_below mask (suit c) low is.below;
  bits = λ s h.
      let counted : suited s (c ∷ l) ≡ tally (eqb (suit c) s) + suited s l = count_by-cons (λ card. eqb (suit card) s) c l in
      suit_added mask (suit c) s low
      ∙ elim (cases_eq s (suit c)) [
        | inl e ↦
            let one : tally (eqb (suit c) s) ≡ 1 = ap tally (eq-eqb (suit c) s (sym e)) in
            ap (λ b. cond b 1 (bit_at mask s)) (eq-eqb s (suit c) e) ∙ sym (ap bit_of (lt-ltb 0 (suited s (c ∷ l)) (omega arith)))
        | inr ne ↦
            let none : tally (eqb (suit c) s) ≡ 0 = ap tally (ne_eqb (suit c) s (λ e. ne (sym e))) in
            let kept : suited s (c ∷ l) ≡ suited s l = omega arith in
            ap (λ b. cond b 1 (bit_at mask s)) (ne_eqb s (suit c) ne) ∙ is.bits s h ∙ sym (ap (λ x. bit_of (ltb 0 x)) kept)
      ];
}
  where
    low : suit c < 4
    low = omega arith

-- the bits of some cards together are the mask of the suits of those that aren't wild
pub suits_masked : (w : Option ℕ) (bits s : List ℕ) → AreSuitBits w bits → Below 54 s → IsSuitMask (suits_by bits s) (naturals w s)
suits_masked w bits [] are b = subst (λ m. IsSuitMask m []) (sym (suits-none bits)) (record { below = omega arith; bits = λ s l. bit_at-zero s })
suits_masked w bits (c ∷ s) are b =
    let before : IsSuitMask (suits_by bits s) (naturals w s) = suits_masked w bits s are b.1 in
    let now : suits_by bits (c ∷ s) ≡ bit_or (suits_by bits s) (suit_bit w c) = suits-cons bits c s ∙ ap (bit_or (suits_by bits s)) (are.told c b.0) in
    elim (cases_Bool (is_wild w c)) [
      | inl wild ↦
          let same : suits_by bits (c ∷ s) ≡ suits_by bits s = now ∙ ap (bit_or (suits_by bits s)) (bit_yes w c wild) ∙ or_zero_r (suits_by bits s) in
          subst (λ m. IsSuitMask m (naturals w (c ∷ s))) (sym same) (subst (λ (l : List ℕ). IsSuitMask (suits_by bits s) l) (sym (naturals_yes w c s wild)) before)
      | inr plain ↦
          let same : suits_by bits (c ∷ s) ≡ bit_or (suits_by bits s) (1 * 2 ^ suit c % 256) = now ∙ ap (bit_or (suits_by bits s)) (bit_no w c plain) in
          subst (λ m. IsSuitMask m (naturals w (c ∷ s))) (sym same)
          (subst (λ (l : List ℕ). IsSuitMask (bit_or (suits_by bits s) (1 * 2 ^ suit c % 256)) l) (sym (naturals_no w c s plain)) (mask_more (suits_by bits s) c (naturals w s) before))
    ]

five_bits : (bits : List ℕ) (a b c d e : ℕ) → bit_or (bit_or (bit_or (bit_or (get_or bits e 0) (get_or bits d 0)) (get_or bits c 0)) (get_or bits b 0)) (get_or bits a 0) ≡ suits_by bits (a ∷ b ∷ c ∷ d ∷ e ∷ [])
unfolding suits_by
five_bits bits a b c d e =
    ap (λ x. bit_or (bit_or (bit_or (bit_or x (get_or bits d 0)) (get_or bits c 0)) (get_or bits b 0)) (get_or bits a 0)) (sym (or_zero_l (get_or bits e 0)))

-- the bits of five cards, taken together one by one
pub suits_row : (bits s : List ℕ) → length s ≡ 5
    → bit_or (bit_or (bit_or (bit_or (get_or bits (get_or s 4 0) 0) (get_or bits (get_or s 3 0) 0)) (get_or bits (get_or s 2 0) 0)) (get_or bits (get_or s 1 0) 0)) (get_or bits (get_or s 0 0) 0) ≡ suits_by bits s
suits_row bits s five = five_bits bits (get_or s 0 0) (get_or s 1 0) (get_or s 2 0) (get_or s 3 0) (get_or s 4 0) ∙ sym (ap (suits_by bits) (five_in_row s five))

-- the table of the sets of suits with at most one
one_suits : ONE_SUIT ≡ map (λ mask. at_most_one_suit mask) (deck 16)
unfolding deck
one_suits = refl

pub one_suit_is : (mask : ℕ) → mask < 16 → get_or ONE_SUIT mask false ≡ at_most_one_suit mask
one_suit_is mask l =
    ap (λ r. get_or r mask false) one_suits ∙ (get_or-map (λ m. at_most_one_suit m) (deck 16) mask 0 false (subst (λ n. mask < n) (sym (length-deck 16)) l) ∙ ap (λ m. at_most_one_suit m) (get_or-deck 16 mask l))

-- the bits of a set of cards are a set of suits
pub suits_small : (w : Option ℕ) (bits s : List ℕ) → AreSuitBits w bits → IsSet 54 s → suits_by bits s < 16
suits_small w bits s are h = (suits_masked w bits s are (set_below 54 s h)).below
