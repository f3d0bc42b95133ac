-- What is kept of a hold tells which tests hold of it.
use Rattle.std.proofs.Common.{◌≡◌, ℕ, zero, suc, ◌+◌, ◌-◌, ◌*◌, ◌/◌, ◌%◌, ◌<◌, ◌≤◌, Bool, true, false, not, ◌==◌, ◌&&◌, List, [], ◌∷◌, length, refl, sym, ap, ◌∙◌, subst, inl, inr, arith, Option, get_or, replicate, slice_set}
use Rattle.std.specs.Prelude.{nat_lt, nat_le, count_by}
use Rattle.std.specs.List.{list_all, range_with_len}
use Rattle.std.specs.Int.{bit_at}
use Rattle.std.proofs.Math.Path.{fun_ext}
use Rattle.std.proofs.lemmas.Bool.{cases_Bool, cases_eq}
use Rattle.std.proofs.lemmas.Grind.{get_or-set_at}
use Rattle.std.proofs.lemmas.List.{get_or-replicate, get_or-set_other, length-set}
use Rattle.vp_card.specs.Cards.{IsHand, has, held, rank, suit}
use Rattle.vp_sets.specs.Draws.{discarded}
use Rattle.vp_pay.specs.declared.table.PayTable.{PayTable}
use Rattle.vp_rank.specs.Bounded.{some_below, all_below}
use Rattle.vp_rank.specs.Counts.{ranked, suited, one_suit, fits_window}
use Rattle.vp_rank.specs.Shapes.{IsSuitMask, bit_of, count_of}
use Rattle.vp_rank.specs.Wilds.{is_wild, naturals}
use Rattle.vp_wild.specs.ByCounts.{at_most_one_suit}
use Rattle.vp_wild.specs.Payment.{line}
use Rattle.vp_wild.proofs.ByShape.{mask_one_suit, same_counts}
use Rattle.vp_rule.specs.ByCounts.{AreHeld, AreHolds, IsDealt, IsHeld, naturals_of_set, naturals_of_suits, test_by_counts}
use Rattle.vp_rule.specs.Holds.{between, of_set, windows, ranks, greatest_is, sharing, is_place, test_holds, holds, matches}
use Rattle.vp_wild.proofs.AlikeHands.{count_naturals}
use Rattle.vp_rule.specs.declared.held.Dealt.{Dealt}
use Rattle.vp_rule.specs.declared.held.Held.{Held}
use Rattle.vp_rule.specs.declared.rule.Rule.{Rule}
use Rattle.vp_rule.specs.declared.rule.Test.{Test}
use Rattle.vp_rule.specs.declared.rule.Test.TheVariants.{Hold, Wilds, Suited, Mixed, Royal, Windows, Count, Equal, Ranks, Made, Left, LeftSuit}

-- ---- the discards are the cards of the other bits

others_more : (p m c : ℕ) (cs : List ℕ) → m < 2 * p → held (p - 1 - m / 2) cs ≡ discarded (m / 2) cs → held (2 * p - 1 - m) (c ∷ cs) ≡ discarded m (c ∷ cs)
unfolding discarded
others_more p m c cs small rest =
    let half : (2 * p - 1 - m) / 2 ≡ p - 1 - m / 2 = omega arith in
    elim (cases_Bool (m % 2 == 1)) [
      | inl odd ↦
          let one : m % 2 ≡ 1 = grind arith in
          let even : (2 * p - 1 - m) % 2 ≡ 0 = omega arith in
          rw (even, half, odd) rest
      | inr fails ↦
          let none : m % 2 ≡ 0 = grind arith in
          let odd : (2 * p - 1 - m) % 2 ≡ 1 = omega arith in
          rw (odd, half, fails) (ap (λ (x : List ℕ). c ∷ x) rest)
    ]

power : ℕ → ℕ
power zero = 1
power (suc k) = 2 * power k

others_held : (k m : ℕ) (cs : List ℕ) → length cs ≤ k → m < power k → held (power k - 1 - m) cs ≡ discarded m cs
unfolding discarded power
others_held zero m [] few small = refl
others_held (suc k) m [] few small = refl
others_held zero m (c ∷ cs) few small = absurd (omega arith)
others_held (suc k) m (c ∷ cs) few small = others_more (power k) m c cs small (others_held k (m / 2) cs (omega arith) (omega arith))

pub other_bits : (m : ℕ) (hand : List ℕ) → IsHand hand → m < 256 → held (255 - m) hand ≡ discarded m hand
unfolding power
other_bits m hand is small = let five : length hand ≡ 5 = is.five in others_held 8 m hand (omega arith) small

-- ---- tests

bit_is : (b : Bool) → (bit_of b == 1) ≡ b
bit_is true = refl
bit_is false = refl

count_left : (w : Option ℕ) (set : ℕ) (cards : List ℕ) → count_by (λ c. not (is_wild w c) && has set (rank c)) cards ≡ of_set set (naturals w cards)
count_left w set cards = sym (count_naturals (λ c. has set (rank c)) w cards)

shared : (w : Option ℕ) (mask : ℕ) (kept left : List ℕ) → IsSuitMask mask (naturals w kept)
    → count_by (λ c. not (is_wild w c) && (bit_at mask (suit c) == 1)) left ≡ sharing (naturals w kept) (naturals w left)
unfolding sharing
shared w mask kept left is =
    let told : ◌≡◌ {A = ℕ → Bool} (λ c. bit_at mask (suit c) == 1) (λ c. nat_lt 0 (suited (suit c) (naturals w kept))) =
    fun_ext (λ c. ap (λ n. n == 1) (is.bits (suit c) (omega arith)) ∙ bit_is (nat_lt 0 (suited (suit c) (naturals w kept)))) in
    ap (λ (p : ℕ → Bool). count_by (λ c. not (is_wild w c) && p c) left) told
    ∙ sym (count_naturals (λ c. nat_lt 0 (suited (suit c) (naturals w kept))) w left)

-- a test holds of a hold exactly where what is kept of it says so
pub told_by_counts : (table : PayTable) (hand : List ℕ) (mask : ℕ) (d : Dealt) (h : Held) → IsDealt table hand d → IsHeld table.wild hand mask h → (test : Test)
    → test_by_counts d h test ≡ holds table hand mask test
unfolding holds windows ranks greatest_is
told_by_counts table hand mask d h dealt is test = by_test test
  where
    w : Option ℕ
    w = table.wild

    one : at_most_one_suit h.shape.suits ≡ one_suit (naturals w (held mask hand))
    one = mask_one_suit h.shape.suits (naturals w (held mask hand)) is.shape.suits

    counts : count_of h.shape ≡ (λ r. ranked r (naturals w (held mask hand)))
    counts = same_counts w (held mask hand) h.shape is.shape

    kept : held h.mask d.hand ≡ held mask hand
    kept = rw (is.mask_is, dealt.hand_is) refl

    left : discarded h.mask d.hand ≡ discarded mask hand
    left = rw (is.mask_is, dealt.hand_is) refl

    by_test : (test : Test) → test_by_counts d h test ≡ test_holds w (line table hand) (length (held mask hand) == 5) (held mask hand) (discarded mask hand) test
    by_test (Hold k) = ap (λ n. n == k) is.kept
    by_test (Wilds k) = ap (λ n. n == k) is.shape.wilds
    by_test Suited = one
    by_test Mixed = ap not one
    by_test Royal = ap (λ b. b && fits_window 9 (count_of h.shape)) one ∙ ap (λ (c : ℕ → ℕ). one_suit (naturals w (held mask hand)) && fits_window 9 c) counts
    by_test (Windows a b) = ap (λ (c : ℕ → ℕ). between a b (count_by (λ k. fits_window k c) (range_with_len 0 10))) counts
    by_test (Count set a b) =
        ap (λ (v : Option ℕ). between a b (naturals_of_set v set (held h.mask d.hand))) dealt.wild_is
        ∙ ap (λ (cs : List ℕ). between a b (naturals_of_set w set cs)) kept
        ∙ ap (between a b) (count_left w set (held mask hand))
    by_test (Equal k) = ap (λ (c : ℕ → ℕ). some_below 13 (λ r. c r == k) && all_below 13 (λ r. nat_le (c r) k)) counts
    by_test (Ranks k) = ap (λ (c : ℕ → ℕ). count_by (λ r. nat_lt 0 (c r)) (range_with_len 0 13) == k) counts
    by_test (Made p) = ap (λ n. (n == 5) && is_place p d.place) is.kept ∙ ap (λ (o : Option ℕ). (length (held mask hand) == 5) && is_place p o) dealt.line_is
    by_test (Left set k) =
        ap (λ (v : Option ℕ). naturals_of_set v set (discarded h.mask d.hand) == k) dealt.wild_is
        ∙ ap (λ (cs : List ℕ). naturals_of_set w set cs == k) left
        ∙ ap (λ n. n == k) (count_left w set (discarded mask hand))
    by_test (LeftSuit k) =
        ap (λ (v : Option ℕ). naturals_of_suits v h.shape.suits (discarded h.mask d.hand) == k) dealt.wild_is
        ∙ ap (λ (cs : List ℕ). naturals_of_suits w h.shape.suits cs == k) left
        ∙ ap (λ n. n == k) (shared w h.shape.suits (held mask hand) (discarded mask hand) is.shape.suits)

-- a rule matches a hold exactly where all its tests, told by counts, hold
pub matches_told : (table : PayTable) (rule : Rule) (hand : List ℕ) (mask : ℕ) (d : Dealt) (h : Held) → IsDealt table hand d → IsHeld table.wild hand mask h
    → list_all (λ test. test_by_counts d h test) rule.tests.items ≡ matches table rule hand mask
unfolding matches
matches_told table rule hand mask d h dealt is =
    ap (λ (p : Test → Bool). list_all p rule.tests.items) (fun_ext (λ test. told_by_counts table hand mask d h dealt is test))

-- ---- all holds

-- the first hold, at all places
pub first_held : (wild : Option ℕ) (hand : List ℕ) (h : Held) (all : List Held) → all ≡ replicate 32 h → IsHeld wild hand 0 h → AreHeld wild hand 1 all
first_held wild hand h all same is = record {
  long = ap length same;
  each = λ mask other l.
      let first : 0 ≡ mask = omega arith in
      let at : get_or all mask other ≡ h = ap (λ (x : List Held). get_or x mask other) same ∙ get_or-replicate 32 mask h other (omega arith) in
      subst (λ (x : Held). IsHeld wild hand mask x) (sym at) (subst (λ m. IsHeld wild hand m h) first is);
}

-- the hold of the next mask
pub held_more : (wild : Option ℕ) (hand : List ℕ) (n : ℕ) (all : List Held) (h : Held) → n < 32 → IsHeld wild hand n h → AreHeld wild hand n all → AreHeld wild hand (n + 1) (slice_set all n h)
held_more wild hand n all h low is so = record { long = length-set all n h ∙ so.long; each = at }
  where
    at : (mask : ℕ) (other : Held) → mask < n + 1 → IsHeld wild hand mask (get_or (slice_set all n h) mask other)
    at mask other l = elim (cases_eq mask n) [
      | inl e ↦
          let new : get_or (slice_set all n h) mask other ≡ h = get_or-set_at all n mask h other e (omega (arith, so.long)) in
          subst (λ (x : Held). IsHeld wild hand mask x) (sym new) (subst (λ m. IsHeld wild hand m h) (sym e) is)
      | inr d ↦
          let old : get_or (slice_set all n h) mask other ≡ get_or all mask other = get_or-set_other all n mask h other d in
          subst (λ (x : Held). IsHeld wild hand mask x) (sym old) (so.each mask other (omega arith))
    ]

-- a rule matches the hold of a mask, by what is kept at its place
pub matches_at : (table : PayTable) (rule : Rule) (hand : List ℕ) (mask : ℕ) (d : Dealt) (all : List Held) (other : Held) → mask < 32 → AreHolds table hand d all
    → list_all (λ test. test_by_counts d (get_or all mask other) test) rule.tests.items ≡ matches table rule hand mask
matches_at table rule hand mask d all other low are = matches_told table rule hand mask d (get_or all mask other) are.dealt (are.held.each mask other low)
