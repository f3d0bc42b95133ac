-- Rules are kept by turns.
use Rattle.std.proofs.Common.{◌≡◌, ℕ, ◌+◌, ◌<◌, Bool, false, not, eqb, ◌&&◌, nat_lt, List, [], ◌∷◌, map, length, refl, sym, ap, ◌∙◌, inl, inr, arith, Option}
use Rattle.std.proofs.Math.Path.{fun_ext}
use Rattle.std.specs.Prelude.{◌==◌, nat_le}
use Rattle.std.specs.List.{count_by, list_all, range_with_len}
use Rattle.std.proofs.lemmas.Bool.{cases_Bool, eqb-true, eq-eqb}
use Rattle.vp_card.specs.Cards.{has, held, rank, suit}
use Rattle.vp_sets.specs.Draws.{discarded}
use Rattle.vp_suit.specs.Classes.{IsDeal}
use Rattle.vp_suit.specs.Turns.{turned_suit, turned, turn, carried}
use Rattle.vp_suit.proofs.Group.{inverse}
use Rattle.vp_suit.proofs.Cards.{turn-length}
use Rattle.vp_suit.proofs.Deals.{deal_rises}
use Rattle.vp_suit.proofs.Masks.{held_carried, discarded_carried}
use Rattle.vp_suit.proofs.Order.{turn_moves}
use Rattle.vp_pay.specs.declared.table.PayTable.{PayTable}
use Rattle.vp_rank.specs.Bounded.{some_below, all_below}
use Rattle.vp_rank.specs.Counts.{ranked, suited, one_suit, fits_window}
use Rattle.vp_rank.specs.Wilds.{is_wild, naturals}
use Rattle.vp_rank.proofs.BoundedTests.{same_tests}
use Rattle.vp_rank.proofs.CountLemmas.{tally, count_by-cons, naturals_yes, naturals_no}
use Rattle.vp_wild.specs.Alike.{Alike, ExchangesSuits}
use Rattle.vp_wild.specs.Payment.{line}
use Rattle.vp_wild.proofs.AlikeHands.{alike_order, same_naturals}
use Rattle.vp_wild.proofs.TurnedHands.{alike_map}
use Rattle.vp_wild.proofs.SuitTurns.{turn_exchanges, turned_line}
use Rattle.vp_rule.specs.Holds.{between, of_set, windows, ranks, greatest_is, sharing, test_holds, holds, matches}
use Rattle.vp_rule.specs.declared.rule.Rule.{Rule}
use Rattle.vp_rule.specs.declared.rule.Test.{Test}
use Rattle.vp_rule.specs.declared.rule.Test.TheVariants.{Hold, Wilds, Suited, Mixed, Royal, Windows, Count, Equal, Ranks, Made, Left, LeftSuit}

-- a count of cards that aren't wild, by a test that the exchange keeps of them
count_naturals_map : (w : Option ℕ) (f to from : ℕ → ℕ) (p q : ℕ → Bool) → ExchangesSuits w f to from → ((c : ℕ) → is_wild w c ≡ false → p (f c) ≡ q c)
    → (cards : List ℕ) → count_by p (naturals w (map f cards)) ≡ count_by q (naturals w cards)
count_naturals_map w f to from p q x same [] = refl
count_naturals_map w f to from p q x same (c ∷ cs) =
    let rest : count_by p (naturals w (map f cs)) ≡ count_by q (naturals w cs) = count_naturals_map w f to from p q x same cs in
    elim (cases_Bool (is_wild w c)) [
      | inl wild ↦ ap (count_by p) (naturals_yes w (f c) (map f cs) (x.wild_cards c ∙ wild)) ∙ rest ∙ sym (ap (count_by q) (naturals_yes w c cs wild))
      | inr plain ↦
          let left : count_by p (f c ∷ naturals w (map f cs)) ≡ tally (p (f c)) + count_by p (naturals w (map f cs)) = count_by-cons p (f c) (naturals w (map f cs)) in
          let right : count_by q (c ∷ naturals w cs) ≡ tally (q c) + count_by q (naturals w cs) = count_by-cons q c (naturals w cs) in
          let here : tally (p (f c)) ≡ tally (q c) = ap tally (same c plain) in
          let all : count_by p (f c ∷ naturals w (map f cs)) ≡ count_by q (c ∷ naturals w cs) = omega arith in
          ap (count_by p) (naturals_no w (f c) (map f cs) (x.wild_cards c ∙ plain)) ∙ all ∙ sym (ap (count_by q) (naturals_no w c cs plain))
    ]

-- a count of turned cards that aren't wild
count_turned : (w : Option ℕ) (t : ℕ) (p q : ℕ → Bool) → t < 24 → ((c : ℕ) → is_wild w c ≡ false → p (turned t c) ≡ q c)
    → (cards : List ℕ) → count_by p (naturals w (turn t cards)) ≡ count_by q (naturals w cards)
count_turned w t p q l same cards =
    sym (same_naturals p w (map (λ card. turned t card) cards) (turn t cards) (turn_moves t cards))
    ∙ count_naturals_map w (λ card. turned t card) (turned_suit t) (turned_suit (inverse t)) p q (turn_exchanges w t l) same cards

of_set_turned : (w : Option ℕ) (t set : ℕ) → t < 24 → (cards : List ℕ) → of_set set (naturals w (turn t cards)) ≡ of_set set (naturals w cards)
of_set_turned w t set l cards =
    count_turned w t (λ c. has set (rank c)) (λ c. has set (rank c)) l (λ c plain. ap (λ r. has set r) ((turn_exchanges w t l).ranks c)) cards

suited_turned : (w : Option ℕ) (t s : ℕ) → t < 24 → s < 4 → (cards : List ℕ) → suited (turned_suit t s) (naturals w (turn t cards)) ≡ suited s (naturals w cards)
suited_turned w t s l small cards = count_turned w t (λ c. eqb (suit c) (turned_suit t s)) (λ c. eqb (suit c) s) l same cards
  where
    x : ExchangesSuits w (λ card. turned t card) (turned_suit t) (turned_suit (inverse t))
    x = turn_exchanges w t l

    same : (c : ℕ) → is_wild w c ≡ false → eqb (suit (turned t c)) (turned_suit t s) ≡ eqb (suit c) s
    same c plain =
        same_tests (eqb (suit (turned t c)) (turned_suit t s)) (eqb (suit c) s)
        (λ h. eq-eqb (suit c) s
        (sym (x.back (suit c) (omega arith)) ∙ ap (turned_suit (inverse t)) (sym (x.suits c plain) ∙ eqb-true (suit (turned t c)) (turned_suit t s) h) ∙ x.back s small))
        (λ h. eq-eqb (suit (turned t c)) (turned_suit t s) (x.suits c plain ∙ ap (turned_suit t) (eqb-true (suit c) s h)))

sharing_turned : (w : Option ℕ) (t : ℕ) → t < 24 → (kept left : List ℕ) → sharing (naturals w (turn t kept)) (naturals w (turn t left)) ≡ sharing (naturals w kept) (naturals w left)
unfolding sharing
sharing_turned w t l kept left =
    count_turned w t (λ c. nat_lt 0 (suited (suit c) (naturals w (turn t kept)))) (λ c. nat_lt 0 (suited (suit c) (naturals w kept))) l
    (λ c plain. ap (λ s. nat_lt 0 (suited s (naturals w (turn t kept)))) ((turn_exchanges w t l).suits c plain) ∙ ap (λ k. nat_lt 0 k) (suited_turned w t (suit c) l (omega arith) kept)) left

alike_turned : (w : Option ℕ) (t : ℕ) → t < 24 → (cards : List ℕ) → Alike w cards (turn t cards)
alike_turned w t l cards =
    let m = alike_map w (λ card. turned t card) (turned_suit t) (turned_suit (inverse t)) (turn_exchanges w t l) cards in
    let o = alike_order w (map (λ card. turned t card) cards) (turn t cards) (turn_moves t cards) in
    record { wilds = m.wilds ∙ o.wilds; ranks = λ r. m.ranks r ∙ o.ranks r; suit = m.suit ∙ o.suit }

-- a test holds of the turned cards where it holds of the cards
test_turned : (w place : Option ℕ) (t : ℕ) (all : Bool) (kept left : List ℕ) (test : Test) → t < 24 → test_holds w place all (turn t kept) (turn t left) test ≡ test_holds w place all kept left test
unfolding windows ranks greatest_is
test_turned w place t all kept left test l = by_test test
  where
    alike : Alike w kept (turn t kept)
    alike = alike_turned w t l kept

    counts : ◌≡◌ {A = ℕ → ℕ} (λ r. ranked r (naturals w (turn t kept))) (λ r. ranked r (naturals w kept))
    counts = fun_ext (λ r. sym (alike.ranks r))

    by_test : (test : Test) → test_holds w place all (turn t kept) (turn t left) test ≡ test_holds w place all kept left test
    by_test (Hold k) = ap (λ n. n == k) (turn-length t kept)
    by_test (Wilds k) = ap (λ n. n == k) (sym alike.wilds)
    by_test Suited = sym alike.suit
    by_test Mixed = ap not (sym alike.suit)
    by_test Royal = ap (λ b. b && fits_window 9 (λ r. ranked r (naturals w (turn t kept)))) (sym alike.suit) ∙ ap (λ (c : ℕ → ℕ). one_suit (naturals w kept) && fits_window 9 c) counts
    by_test (Windows a b) = ap (λ (c : ℕ → ℕ). between a b (count_by (λ k. fits_window k c) (range_with_len 0 10))) counts
    by_test (Count set a b) = ap (between a b) (of_set_turned w t set l kept)
    by_test (Equal k) = ap (λ (c : ℕ → ℕ). some_below 13 (λ r. c r == k) && all_below 13 (λ r. nat_le (c r) k)) counts
    by_test (Ranks k) = ap (λ (c : ℕ → ℕ). count_by (λ r. nat_lt 0 (c r)) (range_with_len 0 13) == k) counts
    by_test (Made p) = refl
    by_test (Left set k) = ap (λ n. n == k) (of_set_turned w t set l left)
    by_test (LeftSuit k) = ap (λ n. n == k) (sharing_turned w t l kept left)

holds_turned : (n t mask : ℕ) (table : PayTable) (cards : List ℕ) (test : Test) → t < 24 → IsDeal n cards → holds table (turn t cards) (carried t cards mask) test ≡ holds table cards mask test
unfolding holds
holds_turned n t mask table cards test l d =
    let kept = held mask cards in
    let left = discarded mask cards in
    ap (λ (o : Option ℕ). test_holds table.wild o (length (held (carried t cards mask) (turn t cards)) == 5) (held (carried t cards mask) (turn t cards)) (discarded (carried t cards mask) (turn t cards)) test) (turned_line t table cards l d.five)
    ∙ ap (λ (ks : List ℕ). test_holds table.wild (line table cards) (length ks == 5) ks (discarded (carried t cards mask) (turn t cards)) test) (held_carried t mask cards l (deal_rises n cards d))
    ∙ ap (λ (ls : List ℕ). test_holds table.wild (line table cards) (length (turn t kept) == 5) (turn t kept) ls test) (discarded_carried t mask cards l (deal_rises n cards d))
    ∙ ap (λ k. test_holds table.wild (line table cards) (k == 5) (turn t kept) (turn t left) test) (turn-length t kept)
    ∙ test_turned table.wild (line table cards) t (length kept == 5) kept left test l

-- a rule matches the carried hold of a turned deal where it matches the hold of the deal
pub matches_turned : (n t mask : ℕ) (table : PayTable) (rule : Rule) (cards : List ℕ) → t < 24 → IsDeal n cards → matches table rule (turn t cards) (carried t cards mask) ≡ matches table rule cards mask
unfolding matches
matches_turned n t mask table rule cards l d = ap (λ (p : Test → Bool). list_all p rule.tests.items) (fun_ext (λ test. holds_turned n t mask table cards test l d))
