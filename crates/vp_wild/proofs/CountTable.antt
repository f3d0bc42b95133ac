-- Every pattern told by counts.
use Rattle.std.proofs.Common.{◌≡◌, ℕ, ◌+◌, ◌<◌, ◌≤◌, Bool, true, eqb, ltb, leb, ◌&&◌, List, [], ◌∷◌, length, refl, sym, ap, subst, inl, inr, arith, Option, Some, None}
use Rattle.std.specs.List.{list_any}
use Rattle.std.proofs.lemmas.Bool.{cases_eq, eqb-true, eq-eqb, ne_eqb, ltb-true, lt-ltb, leb-true, le-leb, and_parts, and_from, or_cases, or_left, or_right, false≢true}
use Rattle.vp_card.specs.Cards.{rank, has}
use Rattle.vp_rank.specs.Bounded.{some_below}
use Rattle.vp_rank.specs.Counts.{ranked, one_suit}
use Rattle.vp_rank.specs.Wilds.{wilds, naturals}
use Rattle.vp_rank.proofs.BoundedTests.{same_tests, Below, some_below-to, some_below-from}
use Rattle.vp_rank.proofs.CountLemmas.{tally, count_by-cons, count_yes}
use Rattle.vp_pay.specs.declared.pattern.Pattern.{Pattern}
use Rattle.vp_pay.specs.declared.pattern.Pattern.TheVariants.{Royal, StraightFlush, FiveKind, Wilds, Quads, FullHouse, Flush, Straight, Trips, TwoPair, Pair}
use Rattle.vp_wild.specs.Patterns.{meets, matches}
use Rattle.vp_wild.specs.ByCounts.{matches_by_counts}
use Rattle.vp_wild.proofs.RankRows.{Rises, one_rank, two_of_five, two_pair, flush}
use Rattle.vp_wild.proofs.WindowRows.{straight_row, straight_flush, royal}

-- at least n cards of a rank of a set
set_rises : (set n : ℕ) → Rises (λ r m. has set r && leb n m)
set_rises set n = record {
  more = λ r a b up most h.
      let parts = and_parts (has set r) (leb n a) h in
      and_from (has set r) (leb n b) parts.0 (le-leb n b (let l : n ≤ a = leb-true n a parts.1 in omega arith));
}

-- at least n cards of a rank
any_rises : (n : ℕ) → Rises (λ r m. leb n m)
any_rises n = record { more = λ r a b up most h. le-leb n b (let l : n ≤ a = leb-true n a h in omega arith) }

-- all five cards of a rank of a set
five_rises : (set : ℕ) → Rises (λ r m. has set r && eqb m 5)
five_rises set = record {
  more = λ r a b up most h.
      let parts = and_parts (has set r) (eqb a 5) h in
      and_from (has set r) (eqb b 5) parts.0 (eq-eqb b 5 (let e : a ≡ 5 = eqb-true a 5 parts.1 in omega arith));
}

-- some card of a rank of a set
record Holder (set : ℕ) (cards : List ℕ) : Type 0 where
  rank_of_it : ℕ
  in_set : has set rank_of_it ≡ true
  some : 0 < ranked rank_of_it cards

holder_to : (set : ℕ) (cards : List ℕ) → list_any (λ card. has set (rank card)) cards ≡ true → Holder set cards
holder_to set [] h = absurd (false≢true h)
holder_to set (c ∷ cs) h =
    elim (or_cases (has set (rank c)) (list_any (λ card. has set (rank card)) cs) h) [
      | inl here ↦
          let more : ranked (rank c) (c ∷ cs) ≡ 1 + ranked (rank c) cs = count_yes (λ card. eqb (rank card) (rank c)) c cs (eq-eqb (rank c) (rank c) refl) in
          record { rank_of_it = rank c; in_set = here; some = omega arith }
      | inr rest ↦
          let later : Holder set cs = holder_to set cs rest in
          let had : 0 < ranked later.rank_of_it cs = later.some in
          let more : ranked later.rank_of_it (c ∷ cs) ≡ tally (eqb (rank c) later.rank_of_it) + ranked later.rank_of_it cs =
          count_by-cons (λ card. eqb (rank card) later.rank_of_it) c cs in
          record { rank_of_it = later.rank_of_it; in_set = later.in_set; some = omega arith }
    ]

holder_from : (set r : ℕ) (cards : List ℕ) → has set r ≡ true → 0 < ranked r cards → list_any (λ card. has set (rank card)) cards ≡ true
holder_from set r [] h some = absurd (let none : ranked r [] ≡ 0 = refl in omega arith)
holder_from set r (c ∷ cs) h some =
    elim (cases_eq (rank c) r) [
      | inl e ↦ or_left (has set (rank c)) (list_any (λ card. has set (rank card)) cs) (subst (λ (x : ℕ). has set x ≡ true) (sym e) h)
      | inr ne ↦
          let more : ranked r (c ∷ cs) ≡ tally (eqb (rank c) r) + ranked r cs = count_by-cons (λ card. eqb (rank card) r) c cs in
          let none : tally (eqb (rank c) r) ≡ 0 = ap tally (ne_eqb (rank c) r ne) in
          or_right (has set (rank c)) (list_any (λ card. has set (rank card)) cs) (holder_from set r cs h (omega arith))
    ]

kicker_row : (set : ℕ) (cards : List ℕ) → list_any (λ card. has set (rank card)) cards ≡ some_below 13 (λ r. has set r && ltb 0 (ranked r cards))
kicker_row set cards =
    same_tests (list_any (λ card. has set (rank card)) cards) (some_below 13 (λ r. has set r && ltb 0 (ranked r cards)))
    (λ h.
    let found : Holder set cards = holder_to set cards h in
    let parts = and_parts (ltb found.rank_of_it 13) _ found.in_set in
    some_below-from 13 (λ r. has set r && ltb 0 (ranked r cards)) found.rank_of_it (ltb-true found.rank_of_it 13 parts.0)
    (and_from (has set found.rank_of_it) (ltb 0 (ranked found.rank_of_it cards)) found.in_set (lt-ltb 0 (ranked found.rank_of_it cards) found.some)))
    (λ h.
    let found : Below 13 (λ r. has set r && ltb 0 (ranked r cards)) = some_below-to 13 (λ r. has set r && ltb 0 (ranked r cards)) h in
    let parts = and_parts (has set found.at) (ltb 0 (ranked found.at cards)) found.holds in
    holder_from set found.at cards parts.0 (ltb-true 0 (ranked found.at cards) parts.1))

-- a hand of five cards matches a pattern exactly where its counts say so
pub matches-counts : (pattern : Pattern) (w : Option ℕ) (hand : List ℕ) → length hand ≡ 5
    → matches pattern w hand ≡ matches_by_counts pattern (wilds w hand) (λ r. ranked r (naturals w hand)) (one_suit (naturals w hand))
unfolding matches meets matches_by_counts
matches-counts Royal w hand five = royal w hand five
matches-counts StraightFlush w hand five = straight_flush w hand five
matches-counts (FiveKind set) w hand five = one_rank w hand (λ r m. has set r && eqb m 5) five (five_rises set)
matches-counts (Wilds number None) w hand five = refl
matches-counts (Wilds number (Some kicker)) w hand five = ap (λ (b : Bool). eqb (wilds w hand) number && b) (kicker_row kicker (naturals w hand))
matches-counts (Quads set None) w hand five = one_rank w hand (λ r m. has set r && leb 4 m) five (set_rises set 4)
matches-counts (Quads set (Some kicker)) w hand five = two_of_five w hand (has set) (has kicker) 4 1 five refl (λ e. omega arith)
matches-counts FullHouse w hand five = two_of_five w hand (λ r. true) (λ s. true) 3 2 five refl (λ e. omega arith)
matches-counts Flush w hand five = flush w hand
matches-counts Straight w hand five = straight_row w hand five
matches-counts Trips w hand five = one_rank w hand (λ r m. leb 3 m) five (any_rises 3)
matches-counts TwoPair w hand five = two_pair w hand
matches-counts (Pair set) w hand five = one_rank w hand (λ r m. has set r && leb 2 m) five (set_rises set 2)
