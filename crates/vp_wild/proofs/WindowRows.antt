-- The patterns that ask for a window, told by counts.
use Rattle.std.proofs.Common.{◌≡◌, ◌≢◌, ℕ, ◌+◌, ◌<◌, ◌≤◌, ◌⊎◌, Bool, true, false, eqb, ltb, ◌&&◌, ◌||◌, List, length, refl, sym, ap, ◌∙◌, inl, inr, arith, Option}
use Rattle.std.specs.Bool.{beq}
use Rattle.std.proofs.lemmas.Bool.{cases_eq, eqb-true, eq-eqb, ne_eqb, ltb-true, and_parts, and_from, or_cases, or_left, or_right, false≢true}
use Rattle.vp_card.specs.Cards.{rank}
use Rattle.vp_rank.specs.Counts.{ranked, suited, one_suit, in_window, fill_window, fits_window}
use Rattle.vp_rank.specs.Wilds.{wilds, naturals}
use Rattle.vp_rank.proofs.BoundedTests.{Below, some_below-to, some_below-from, all_below-at, all_below-from}
use Rattle.vp_rank.proofs.CountLemmas.{tally, length-naturals, all_natural, naturals_natural}
use Rattle.vp_rank.proofs.RankSums.{sum_below, sum_below-add, sum_below-same, sum_below_tight, ranks_sum, ranks_at_most, window_ranks, cards_of, length-cards_of, ranked-cards_of, natural-cards_of, suited-cards_of}
use Rattle.vp_wild.specs.Faces.{some_faces}
use Rattle.vp_wild.specs.Patterns.{straight}
use Rattle.vp_wild.specs.ByCounts.{fits_some_window}
use Rattle.vp_wild.proofs.FaceLemmas.{Chosen, some_faces-is}
use Rattle.vp_wild.proofs.RankRows.{suit_kept, suit_made, one_suit-to}

-- two tests with one answer
beq_same : (a b : Bool) → beq a b ≡ true → a ≡ b
beq_same true true h = refl
beq_same true false h = absurd (false≢true h)
beq_same false true h = absurd (false≢true h)
beq_same false false h = refl

beq_from : (a b : Bool) → a ≡ b → beq a b ≡ true
beq_from true true h = refl
beq_from true false h = sym h
beq_from false true h = h
beq_from false false h = refl

-- at least one card of each rank of a window that is filled
fill_at : (k r : ℕ) (f : List ℕ) → r < 13 → fill_window k f ≡ true → ltb 0 (ranked r f) ≡ in_window k r
unfolding fill_window
fill_at k r f low h = beq_same (ltb 0 (ranked r f)) (in_window k r) (all_below-at 13 (λ r. beq (ltb 0 (ranked r f)) (in_window k r)) r h low)

-- cards whose counts are those of a window fill it
fill_from : (k : ℕ) (f : List ℕ) → ((r : ℕ) → r < 13 → ranked r f ≡ tally (in_window k r)) → fill_window k f ≡ true
unfolding fill_window
fill_from k f h =
    all_below-from 13 (λ r. beq (ltb 0 (ranked r f)) (in_window k r)) (λ r low. beq_from (ltb 0 (ranked r f)) (in_window k r) (ap (ltb 0) (h r low) ∙ back (in_window k r)))
  where
    back : (b : Bool) → ltb 0 (tally b) ≡ b
    back true = refl
    back false = refl

fits_at : (k r : ℕ) (count : ℕ → ℕ) → r < 13 → fits_window k count ≡ true → ((count r ≡ 0) ⊎ ((count r ≡ 1) × (in_window k r ≡ true)))
unfolding fits_window
fits_at k r count low h =
    let here = all_below-at 13 (λ r. eqb (count r) 0 || (eqb (count r) 1 && in_window k r)) r h low in
    elim (or_cases (eqb (count r) 0) (eqb (count r) 1 && in_window k r) here) [
      | inl none ↦ inl (eqb-true (count r) 0 none)
      | inr one ↦ let parts = and_parts (eqb (count r) 1) (in_window k r) one in inr (eqb-true (count r) 1 parts.0, parts.1)
    ]

fits_from : (k : ℕ) (count : ℕ → ℕ) → ((r : ℕ) → r < 13 → count r ≤ tally (in_window k r)) → fits_window k count ≡ true
unfolding fits_window
fits_from k count h =
    all_below-from 13 (λ r. eqb (count r) 0 || (eqb (count r) 1 && in_window k r)) (λ r low. at (count r) (in_window k r) (h r low))
  where
    one : (n : ℕ) (b : Bool) → n ≤ tally b → n ≢ 0 → n ≡ 1
    one n true h ne = omega arith
    one n false h ne = absurd (omega arith)

    yes_of : (n : ℕ) (b : Bool) → n ≤ tally b → n ≢ 0 → b ≡ true
    yes_of n true h ne = refl
    yes_of n false h ne = absurd (omega arith)

    at : (n : ℕ) (b : Bool) → n ≤ tally b → (eqb n 0 || (eqb n 1 && b)) ≡ true
    at n b h = elim (cases_eq n 0) [
      | inl e ↦ or_left (eqb n 0) (eqb n 1 && b) (eq-eqb n 0 e)
      | inr ne ↦ or_right (eqb n 0) (eqb n 1 && b) (and_from (eqb n 1) b (eq-eqb n 1 (one n b h ne)) (yes_of n b h ne))
    ]

-- five cards that fill a window have one card of each of its ranks, and no other
window_counts : (k r : ℕ) (f : List ℕ) → k < 10 → r < 13 → length f ≡ 5 → fill_window k f ≡ true → ranked r f ≡ tally (in_window k r)
window_counts k r f few low five h =
    let sum : sum_below 13 (λ x. ranked x f) ≤ length f = ranks_at_most f in
    let ranks : sum_below 13 (λ x. tally (in_window k x)) ≡ 5 = window_ranks k few in
    sum_below_tight 13 (λ x. tally (in_window k x)) (λ x. ranked x f)
    (λ x l. at_least (ranked x f) (in_window k x) (fill_at k x f l h)) (omega arith) r low
  where
    at_least : (n : ℕ) (b : Bool) → ltb 0 n ≡ b → tally b ≤ n
    at_least n true e = ltb-true 0 n e
    at_least n false e = omega arith

-- the ranks of a window that natural cards lack
abbrev lacks : ℕ → List ℕ → ℕ → Bool
lacks k cards r = in_window k r && eqb (ranked r cards) 0

-- what is there and what is lacking are the window together
lacking : (k r : ℕ) (cards : List ℕ) → r < 13 → fits_window k (λ x. ranked x cards) ≡ true → ranked r cards + tally (lacks k cards r) ≡ tally (in_window k r)
lacking k r cards low h =
    elim (fits_at k r (λ x. ranked x cards) low h) [
      | inl none ↦ absent (ranked r cards) (in_window k r) none
      | inr one ↦ present (ranked r cards) (in_window k r) one.0 one.1
    ]
  where
    absent : (n : ℕ) (b : Bool) → n ≡ 0 → n + tally (b && eqb n 0) ≡ tally b
    absent n true e = let t : tally (eqb n 0) ≡ 1 = ap tally (eq-eqb n 0 e) in omega arith
    absent n false e = omega arith

    present : (n : ℕ) (b : Bool) → n ≡ 1 → b ≡ true → n + tally (b && eqb n 0) ≡ tally b
    present n true e yes_is = let t : tally (eqb n 0) ≡ 0 = ap tally (ne_eqb n 0 (λ z. omega arith)) in omega arith
    present n false e yes_is = absurd (false≢true yes_is)

-- natural cards that fill a window with the chosen ones fit it
pub window_kept : (w : Option ℕ) (hand f g : List ℕ) (k : ℕ) → k < 10 → length hand ≡ 5 → Chosen w hand f g → fill_window k f ≡ true
    → fits_window k (λ r. ranked r (naturals w hand)) ≡ true
window_kept w hand f g k few five chosen h =
    let all : length (naturals w hand) + wilds w hand ≡ length hand = length-naturals w hand in
    let long : length f ≡ length (naturals w hand) + length g = chosen.long in
    let size : length g ≡ wilds w hand = chosen.size in
    fits_from k (λ r. ranked r (naturals w hand))
    (λ r low.
    let split : ranked r f ≡ ranked r (naturals w hand) + ranked r g = chosen.counts (λ c. eqb (rank c) r) in
    let is : ranked r f ≡ tally (in_window k r) = window_counts k r f few low (omega arith) h in
    omega arith)

-- the cards of suit s that natural cards lack of a window that they fit
pub record Filling (w : Option ℕ) (hand : List ℕ) (k s : ℕ) : Type 0 where
  pub cards : List ℕ
  pub size : length cards ≡ wilds w hand
  pub natural : all_natural cards ≡ true
  pub suit : suited s cards ≡ length cards
  pub fills : (f : List ℕ) → Chosen w hand f cards → fill_window k f ≡ true

pub filling : (w : Option ℕ) (hand : List ℕ) (k s : ℕ) → k < 10 → s < 4 → length hand ≡ 5 → fits_window k (λ r. ranked r (naturals w hand)) ≡ true → Filling w hand k s
filling w hand k s few low five h =
    let plain : List ℕ = naturals w hand in
    let test : ℕ → Bool = lacks k (naturals w hand) in
    let all : length (naturals w hand) + wilds w hand ≡ length hand = length-naturals w hand in
    let there : sum_below 13 (λ r. ranked r (naturals w hand)) ≡ length (naturals w hand) = ranks_sum (naturals w hand) (naturals_natural w hand) in
    let ranks : sum_below 13 (λ r. tally (in_window k r)) ≡ 5 = window_ranks k few in
    let both : sum_below 13 (λ r. ranked r (naturals w hand) + tally (lacks k (naturals w hand) r))
    ≡ sum_below 13 (λ r. ranked r (naturals w hand)) + sum_below 13 (λ r. tally (lacks k (naturals w hand) r)) =
    sum_below-add 13 (λ r. ranked r (naturals w hand)) (λ r. tally (lacks k (naturals w hand) r)) in
    let whole : sum_below 13 (λ r. ranked r (naturals w hand) + tally (lacks k (naturals w hand) r)) ≡ sum_below 13 (λ r. tally (in_window k r)) =
    sum_below-same 13 (λ r. ranked r (naturals w hand) + tally (lacks k (naturals w hand) r)) (λ r. tally (in_window k r)) (λ r l. lacking k r (naturals w hand) l h) in
    let long : length (cards_of 13 (lacks k (naturals w hand)) s) ≡ sum_below 13 (λ r. tally (lacks k (naturals w hand) r)) = length-cards_of 13 (lacks k (naturals w hand)) s in
    record {
      cards = cards_of 13 (lacks k (naturals w hand)) s;
      size = omega arith;
      natural = natural-cards_of 13 (lacks k (naturals w hand)) s low (omega arith);
      suit = suited-cards_of 13 (lacks k (naturals w hand)) s low;
      fills = λ f chosen. fill_from k f (λ r l.
          let split : ranked r f ≡ ranked r (naturals w hand) + ranked r (cards_of 13 (lacks k (naturals w hand)) s) = chosen.counts (λ c. eqb (rank c) r) in
          let made : ranked r (cards_of 13 (lacks k (naturals w hand)) s) ≡ tally (lacks k (naturals w hand) r) = ranked-cards_of 13 (lacks k (naturals w hand)) s r low l in
          let sum : ranked r (naturals w hand) + tally (lacks k (naturals w hand) r) ≡ tally (in_window k r) = lacking k r (naturals w hand) l h in
          omega arith);
    }

pub straight-to : (f : List ℕ) → straight f ≡ true → Below 10 (λ k. fill_window k f)
unfolding straight
straight-to f h = some_below-to 10 (λ k. fill_window k f) h

pub straight-from : (f : List ℕ) (k : ℕ) → k < 10 → fill_window k f ≡ true → straight f ≡ true
unfolding straight
straight-from f k low h = some_below-from 10 (λ k. fill_window k f) k low h

pub fits_some-to : (count : ℕ → ℕ) → fits_some_window count ≡ true → Below 10 (λ k. fits_window k count)
unfolding fits_some_window
fits_some-to count h = some_below-to 10 (λ k. fits_window k count) h

pub fits_some-from : (count : ℕ → ℕ) (k : ℕ) → k < 10 → fits_window k count ≡ true → fits_some_window count ≡ true
unfolding fits_some_window
fits_some-from count k low h = some_below-from 10 (λ k. fits_window k count) k low h

pub straight_row : (w : Option ℕ) (hand : List ℕ) → length hand ≡ 5 → some_faces w hand straight ≡ fits_some_window (λ r. ranked r (naturals w hand))
straight_row w hand five =
    some_faces-is w hand straight (fits_some_window (λ r. ranked r (naturals w hand)))
    (λ f g chosen h.
    let found : Below 10 (λ k. fill_window k f) = straight-to f h in
    fits_some-from (λ r. ranked r (naturals w hand)) found.at found.below (window_kept w hand f g found.at found.below five chosen found.holds))
    (λ h.
    let found : Below 10 (λ k. fits_window k (λ r. ranked r (naturals w hand))) = fits_some-to (λ r. ranked r (naturals w hand)) h in
    let made : Filling w hand found.at 0 = filling w hand found.at 0 found.below (omega arith) five found.holds in
    record {
      cards = made.cards;
      size = made.size;
      natural = made.natural;
      passes = λ f chosen. straight-from f found.at found.below (made.fills f chosen);
    })

-- one suit and a window among some
module _ (w : Option ℕ) (hand : List ℕ) (face : List ℕ → Bool) (fits : Bool) where
  pub suited_row : ((f g : List ℕ) → Chosen w hand f g → face f ≡ true → fits ≡ true)
      → (fits ≡ true → (k : ℕ) × (k < 10) × (fits_window k (λ r. ranked r (naturals w hand)) ≡ true) × ((f : List ℕ) → fill_window k f ≡ true → face f ≡ true))
      → length hand ≡ 5 → some_faces w hand (λ f. one_suit f && face f) ≡ (one_suit (naturals w hand) && fits)
  suited_row kept made five =
      some_faces-is w hand (λ f. one_suit f && face f) (one_suit (naturals w hand) && fits)
      (λ f g chosen h.
      let parts = and_parts (one_suit f) (face f) h in
      and_from (one_suit (naturals w hand)) fits (suit_kept w hand f g chosen parts.0) (kept f g chosen parts.1))
      (λ h.
      let parts = and_parts (one_suit (naturals w hand)) fits h in
      let suit : Below 4 (λ s. eqb (suited s (naturals w hand)) (length (naturals w hand))) = one_suit-to (naturals w hand) parts.0 in
      let window = made parts.1 in
      let filled : Filling w hand window.0 suit.at = filling w hand window.0 suit.at window.1 suit.below five window.2 in
      record {
        cards = filled.cards;
        size = filled.size;
        natural = filled.natural;
        passes = λ f chosen.
            and_from (one_suit f) (face f)
            (suit_made w hand f filled.cards suit.at suit.below chosen
            (eqb-true (suited suit.at (naturals w hand)) (length (naturals w hand)) suit.holds) filled.suit)
            (window.3 f (filled.fills f chosen));
      })

pub straight_flush : (w : Option ℕ) (hand : List ℕ) → length hand ≡ 5
    → some_faces w hand (λ f. one_suit f && straight f) ≡ (one_suit (naturals w hand) && fits_some_window (λ r. ranked r (naturals w hand)))
straight_flush w hand five =
    suited_row w hand straight (fits_some_window (λ r. ranked r (naturals w hand)))
    (λ f g chosen h.
    let found : Below 10 (λ k. fill_window k f) = straight-to f h in
    fits_some-from (λ r. ranked r (naturals w hand)) found.at found.below (window_kept w hand f g found.at found.below five chosen found.holds))
    (λ h.
    let found : Below 10 (λ k. fits_window k (λ r. ranked r (naturals w hand))) = fits_some-to (λ r. ranked r (naturals w hand)) h in
    (found.at, found.below, found.holds, (λ f filled. straight-from f found.at found.below filled)))
    five

pub royal : (w : Option ℕ) (hand : List ℕ) → length hand ≡ 5
    → some_faces w hand (λ f. one_suit f && fill_window 9 f) ≡ (one_suit (naturals w hand) && fits_window 9 (λ r. ranked r (naturals w hand)))
royal w hand five =
    suited_row w hand (fill_window 9) (fits_window 9 (λ r. ranked r (naturals w hand)))
    (λ f g chosen h. window_kept w hand f g 9 (omega arith) five chosen h)
    (λ h. (9, omega arith, h, (λ f filled. filled)))
    five
