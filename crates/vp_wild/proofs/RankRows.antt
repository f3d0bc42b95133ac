-- The patterns that ask for one rank or for two, and flushes, told by counts.
use Rattle.std.proofs.Common.{◌≡◌, ◌≢◌, ℕ, ◌+◌, ◌-◌, ◌*◌, ◌<◌, ◌≤◌, Bool, true, not, eqb, ltb, leb, ◌&&◌, List, [], ◌∷◌, ◌++◌, length, refl, sym, ap, ◌∙◌, subst, arith, suc, zero, Option}
use Rattle.std.specs.Prelude.{replicate}
use Rattle.std.proofs.lemmas.List.{length-replicate, length-append}
use Rattle.std.proofs.lemmas.List.Sums.{count_by-le-length}
use Rattle.std.proofs.lemmas.Bool.{eqb-true, eq-eqb, ne_eqb, lt-ltb, leb-true, le-leb, and_parts, and_from, not_from_false, not-true, eqb-false}
use Rattle.vp_card.specs.Cards.{rank, suit}
use Rattle.vp_rank.specs.Bounded.{some_below}
use Rattle.vp_rank.specs.Counts.{ranked, suited, one_suit}
use Rattle.vp_rank.specs.Wilds.{wilds, naturals}
use Rattle.vp_rank.proofs.BoundedTests.{Below, some_below-to, some_below-from}
use Rattle.vp_rank.proofs.CountLemmas.{tally, count_by-append, count_by-replicate, length-naturals, all_natural, two_ranks}
use Rattle.vp_wild.specs.Faces.{some_faces}
use Rattle.vp_wild.proofs.FaceLemmas.{Chosen, Choice, some_faces-is}

-- n copies of the club of a rank

all_natural-replicate : (n c : ℕ) → c < 52 → all_natural (replicate n c) ≡ true
all_natural-replicate zero c low = refl
all_natural-replicate (suc n) c low = and_from (ltb c 52) (all_natural (replicate n c)) (lt-ltb c 52 low) (all_natural-replicate n c low)

all_natural-append : (xs ys : List ℕ) → all_natural xs ≡ true → all_natural ys ≡ true → all_natural (xs ++ ys) ≡ true
all_natural-append [] ys a b = b
all_natural-append (x ∷ xs) ys a b =
    let parts = and_parts (ltb x 52) (all_natural xs) a in
    and_from (ltb x 52) (all_natural (xs ++ ys)) parts.0 (all_natural-append xs ys parts.1 b)

ranked_same : (n r : ℕ) → ranked r (replicate n (4 * r)) ≡ n
ranked_same n r =
    let count : ranked r (replicate n (4 * r)) ≡ n * tally (eqb (rank (4 * r)) r) = count_by-replicate (λ c. eqb (rank c) r) n (4 * r) in
    let yes : tally (eqb (rank (4 * r)) r) ≡ 1 = ap tally (eq-eqb (rank (4 * r)) r (omega arith)) in
    count ∙ ap (λ (x : ℕ). n * x) yes ∙ (omega arith)

ranked_other : (n r s : ℕ) → r ≢ s → ranked s (replicate n (4 * r)) ≡ 0
ranked_other n r s ne =
    let count : ranked s (replicate n (4 * r)) ≡ n * tally (eqb (rank (4 * r)) s) = count_by-replicate (λ c. eqb (rank c) s) n (4 * r) in
    let no' : tally (eqb (rank (4 * r)) s) ≡ 0 = ap tally (ne_eqb (rank (4 * r)) s (λ e. ne (omega arith))) in
    count ∙ ap (λ (x : ℕ). n * x) no' ∙ (omega arith)

-- copies of two cards: i of one rank, j of another
record Copies (i j r s : ℕ) : Type 0 where
  cards : List ℕ
  size : length cards ≡ i + j
  natural : all_natural cards ≡ true
  first : ranked r cards ≡ i
  second : ranked s cards ≡ j

copies : (i j r s : ℕ) → r < 13 → s < 13 → r ≢ s → Copies i j r s
copies i j r s low small ne =
    let xs : List ℕ = replicate i (4 * r) in
    let ys : List ℕ = replicate j (4 * s) in
    let x_long : length xs ≡ i = length-replicate i (4 * r) in
    let y_long : length ys ≡ j = length-replicate j (4 * s) in
    let long : length (xs ++ ys) ≡ length xs + length ys = length-append xs ys in
    let r_both : ranked r (xs ++ ys) ≡ ranked r xs + ranked r ys = count_by-append (λ c. eqb (rank c) r) xs ys in
    let s_both : ranked s (xs ++ ys) ≡ ranked s xs + ranked s ys = count_by-append (λ c. eqb (rank c) s) xs ys in
    let r_xs : ranked r xs ≡ i = ranked_same i r in
    let r_ys : ranked r ys ≡ 0 = ranked_other j s r (λ e. ne (sym e)) in
    let s_xs : ranked s xs ≡ 0 = ranked_other i r s ne in
    let s_ys : ranked s ys ≡ j = ranked_same j s in
    record {
      cards = xs ++ ys;
      size = omega arith;
      natural = all_natural-append xs ys (all_natural-replicate i (4 * r) (omega arith)) (all_natural-replicate j (4 * s) (omega arith));
      first = omega arith;
      second = omega arith;
    }

-- one rank: a test of its count that a larger count up to five passes too
pub record Rises (test : ℕ → ℕ → Bool) : Type 0 where
  pub more : (r n m : ℕ) → n ≤ m → m ≤ 5 → test r n ≡ true → test r m ≡ true

pub one_rank : (w : Option ℕ) (hand : List ℕ) (test : ℕ → ℕ → Bool) → length hand ≡ 5 → Rises test
    → some_faces w hand (λ f. some_below 13 (λ r. test r (ranked r f))) ≡ some_below 13 (λ r. test r (ranked r (naturals w hand) + wilds w hand))
one_rank w hand test five rises =
    some_faces-is w hand (λ f. some_below 13 (λ r. test r (ranked r f))) (some_below 13 (λ r. test r (ranked r (naturals w hand) + wilds w hand)))
    (λ f g chosen h.
    let found : Below 13 (λ r. test r (ranked r f)) = some_below-to 13 (λ r. test r (ranked r f)) h in
    let r : ℕ = found.at in
    let split : ranked r f ≡ ranked r (naturals w hand) + ranked r g = chosen.counts (λ c. eqb (rank c) r) in
    let few : ranked r g ≤ length g = count_by-le-length (λ c. eqb (rank c) r) g in
    let size : length g ≡ wilds w hand = chosen.size in
    let all : length (naturals w hand) + wilds w hand ≡ length hand = length-naturals w hand in
    let most : ranked r (naturals w hand) ≤ length (naturals w hand) = count_by-le-length (λ c. eqb (rank c) r) (naturals w hand) in
    some_below-from 13 (λ r. test r (ranked r (naturals w hand) + wilds w hand)) r found.below
    (rises.more r (ranked r f) (ranked r (naturals w hand) + wilds w hand) (omega arith) (omega arith) found.holds))
    (λ h.
    let found : Below 13 (λ r. test r (ranked r (naturals w hand) + wilds w hand)) = some_below-to 13 (λ r. test r (ranked r (naturals w hand) + wilds w hand)) h in
    let r : ℕ = found.at in
    record {
      cards = replicate (wilds w hand) (4 * r);
      size = length-replicate (wilds w hand) (4 * r);
      natural = all_natural-replicate (wilds w hand) (4 * r) (let low : r < 13 = found.below in omega arith);
      passes = λ f chosen.
          let split : ranked r f ≡ ranked r (naturals w hand) + ranked r (replicate (wilds w hand) (4 * r)) = chosen.counts (λ c. eqb (rank c) r) in
          let copied : ranked r (replicate (wilds w hand) (4 * r)) ≡ wilds w hand = ranked_same (wilds w hand) r in
          let is : ranked r f ≡ ranked r (naturals w hand) + wilds w hand = omega arith in
          some_below-from 13 (λ r. test r (ranked r f)) r found.below (subst (λ (x : ℕ). test r x ≡ true) (sym is) found.holds);
    })

not_same : (r s : ℕ) → r ≢ s → not (eqb r s) ≡ true
not_same r s ne = not_from_false (eqb r s) (ne_eqb r s ne)

differ : (r s : ℕ) → not (eqb r s) ≡ true → r ≢ s
differ r s h = eqb-false r s (not-true (eqb r s) h)

-- what the faces of two different ranks are
record TwoCounts (w : Option ℕ) (hand f g : List ℕ) (r s : ℕ) : Type 0 where
  first : ranked r f ≡ ranked r (naturals w hand) + ranked r g
  second : ranked s f ≡ ranked s (naturals w hand) + ranked s g
  chosen : ranked r g + ranked s g ≤ wilds w hand
  cards : ranked r (naturals w hand) + ranked s (naturals w hand) + wilds w hand ≤ length hand

two_counts : (w : Option ℕ) (hand f g : List ℕ) (r s : ℕ) → r ≢ s → Chosen w hand f g → TwoCounts w hand f g r s
two_counts w hand f g r s ne chosen =
    let size : length g ≡ wilds w hand = chosen.size in
    let apart : ranked r g + ranked s g ≤ length g = two_ranks r s g ne in
    let others : ranked r (naturals w hand) + ranked s (naturals w hand) ≤ length (naturals w hand) = two_ranks r s (naturals w hand) ne in
    let all : length (naturals w hand) + wilds w hand ≡ length hand = length-naturals w hand in
    record {
      first = chosen.counts (λ c. eqb (rank c) r);
      second = chosen.counts (λ c. eqb (rank c) s);
      chosen = omega arith;
      cards = omega arith;
    }

-- how often faces have two ranks whose copies were chosen
made_counts : (w : Option ℕ) (hand f : List ℕ) (i j r s : ℕ) (made : Copies i j r s) → Chosen w hand f made.cards
    → (ranked r f ≡ ranked r (naturals w hand) + i) × (ranked s f ≡ ranked s (naturals w hand) + j)
made_counts w hand f i j r s made chosen = (
  chosen.counts (λ c. eqb (rank c) r) ∙ ap (λ (x : ℕ). ranked r (naturals w hand) + x) made.first,
  chosen.counts (λ c. eqb (rank c) s) ∙ ap (λ (x : ℕ). ranked s (naturals w hand) + x) made.second,
)

-- one rank a times and another b times, of five
module _ (w : Option ℕ) (hand : List ℕ) (p q : ℕ → Bool) (a b : ℕ) where
  abbrev second_faces : List ℕ → ℕ → Bool
  second_faces f s = q s && eqb (ranked s f) b

  abbrev first_faces : List ℕ → ℕ → Bool
  first_faces f r = p r && eqb (ranked r f) a && some_below 13 (second_faces f)

  abbrev second_count : ℕ → ℕ → Bool
  second_count r s = q s && not (eqb r s) && leb (ranked s (naturals w hand)) b
      && eqb (ranked r (naturals w hand) + ranked s (naturals w hand) + wilds w hand) 5

  abbrev first_count : ℕ → Bool
  first_count r = p r && leb (ranked r (naturals w hand)) a && some_below 13 (second_count r)

  faces_to_counts : length hand ≡ 5 → a + b ≡ 5 → a ≢ b → (f g : List ℕ) → Chosen w hand f g
      → some_below 13 (first_faces f) ≡ true → some_below 13 first_count ≡ true
  faces_to_counts five sum ne f g chosen h =
      let one : Below 13 (first_faces f) = some_below-to 13 (first_faces f) h in
      let r : ℕ = one.at in
      let parts = and_parts (p r && eqb (ranked r f) a) (some_below 13 (second_faces f)) one.holds in
      let front = and_parts (p r) (eqb (ranked r f) a) parts.0 in
      let two : Below 13 (second_faces f) = some_below-to 13 (second_faces f) parts.1 in
      let s : ℕ = two.at in
      let back = and_parts (q s) (eqb (ranked s f) b) two.holds in
      let is_a : ranked r f ≡ a = eqb-true (ranked r f) a front.1 in
      let is_b : ranked s f ≡ b = eqb-true (ranked s f) b back.1 in
      let apart : r ≢ s = λ e. ne (sym is_a ∙ ap (λ (x : ℕ). ranked x f) e ∙ is_b) in
      let counts : TwoCounts w hand f g r s = two_counts w hand f g r s apart chosen in
      let first : ranked r f ≡ ranked r (naturals w hand) + ranked r g = counts.first in
      let second : ranked s f ≡ ranked s (naturals w hand) + ranked s g = counts.second in
      let few : ranked r g + ranked s g ≤ wilds w hand = counts.chosen in
      let most : ranked r (naturals w hand) + ranked s (naturals w hand) + wilds w hand ≤ length hand = counts.cards in
      some_below-from 13 first_count r one.below
      (and_from (p r && leb (ranked r (naturals w hand)) a) (some_below 13 (second_count r))
      (and_from (p r) (leb (ranked r (naturals w hand)) a) front.0 (le-leb (ranked r (naturals w hand)) a (omega arith)))
      (some_below-from 13 (second_count r) s two.below
      (and_from (q s && not (eqb r s) && leb (ranked s (naturals w hand)) b) (eqb (ranked r (naturals w hand) + ranked s (naturals w hand) + wilds w hand) 5)
      (and_from (q s && not (eqb r s)) (leb (ranked s (naturals w hand)) b)
      (and_from (q s) (not (eqb r s)) back.0 (not_same r s apart))
      (le-leb (ranked s (naturals w hand)) b (omega arith)))
      (eq-eqb (ranked r (naturals w hand) + ranked s (naturals w hand) + wilds w hand) 5 (omega arith)))))

  counts_to_faces : a + b ≡ 5 → some_below 13 first_count ≡ true → Choice w hand (λ f. some_below 13 (first_faces f))
  counts_to_faces sum h =
      let one : Below 13 first_count = some_below-to 13 first_count h in
      let r : ℕ = one.at in
      let parts = and_parts (p r && leb (ranked r (naturals w hand)) a) (some_below 13 (second_count r)) one.holds in
      let front = and_parts (p r) (leb (ranked r (naturals w hand)) a) parts.0 in
      let two : Below 13 (second_count r) = some_below-to 13 (second_count r) parts.1 in
      let s : ℕ = two.at in
      let back = and_parts (q s && not (eqb r s) && leb (ranked s (naturals w hand)) b) (eqb (ranked r (naturals w hand) + ranked s (naturals w hand) + wilds w hand) 5) two.holds in
      let back_most = and_parts (q s && not (eqb r s)) (leb (ranked s (naturals w hand)) b) back.0 in
      let back_set = and_parts (q s) (not (eqb r s)) back_most.0 in
      let apart : r ≢ s = differ r s back_set.1 in
      let most_a : ranked r (naturals w hand) ≤ a = leb-true (ranked r (naturals w hand)) a front.1 in
      let most_b : ranked s (naturals w hand) ≤ b = leb-true (ranked s (naturals w hand)) b back_most.1 in
      let five : ranked r (naturals w hand) + ranked s (naturals w hand) + wilds w hand ≡ 5 = eqb-true (ranked r (naturals w hand) + ranked s (naturals w hand) + wilds w hand) 5 back.1 in
      let made : Copies (a - ranked r (naturals w hand)) (b - ranked s (naturals w hand)) r s =
      copies (a - ranked r (naturals w hand)) (b - ranked s (naturals w hand)) r s one.below two.below apart in
      let size : length made.cards ≡ (a - ranked r (naturals w hand)) + (b - ranked s (naturals w hand)) = made.size in
      record {
        cards = made.cards;
        size = omega arith;
        natural = made.natural;
        passes = λ f chosen.
            let counts = made_counts w hand f (a - ranked r (naturals w hand)) (b - ranked s (naturals w hand)) r s made chosen in
            let first : ranked r f ≡ ranked r (naturals w hand) + (a - ranked r (naturals w hand)) = counts.0 in
            let second : ranked s f ≡ ranked s (naturals w hand) + (b - ranked s (naturals w hand)) = counts.1 in
            some_below-from 13 (first_faces f) r one.below
            (and_from (p r && eqb (ranked r f) a) (some_below 13 (second_faces f))
            (and_from (p r) (eqb (ranked r f) a) front.0 (eq-eqb (ranked r f) a (omega arith)))
            (some_below-from 13 (second_faces f) s two.below
            (and_from (q s) (eqb (ranked s f) b) back_set.0 (eq-eqb (ranked s f) b (omega arith)))));
      }

  pub two_of_five : length hand ≡ 5 → a + b ≡ 5 → a ≢ b
      → some_faces w hand (λ f. some_below 13 (first_faces f)) ≡ some_below 13 first_count
  two_of_five five sum ne =
      some_faces-is w hand (λ f. some_below 13 (first_faces f)) (some_below 13 first_count)
      (faces_to_counts five sum ne) (counts_to_faces sum)

-- two different ranks at least twice each
module _ (w : Option ℕ) (hand : List ℕ) where
  abbrev other_faces : List ℕ → ℕ → ℕ → Bool
  other_faces f r s = not (eqb r s) && leb 2 (ranked s f)

  abbrev pair_faces : List ℕ → ℕ → Bool
  pair_faces f r = leb 2 (ranked r f) && some_below 13 (other_faces f r)

  abbrev other_count : ℕ → ℕ → Bool
  other_count r s = not (eqb r s) && leb ((2 - ranked r (naturals w hand)) + (2 - ranked s (naturals w hand))) (wilds w hand)

  pairs_to_counts : (f g : List ℕ) → Chosen w hand f g → some_below 13 (pair_faces f) ≡ true → some_below 13 (λ r. some_below 13 (other_count r)) ≡ true
  pairs_to_counts f g chosen h =
      let one : Below 13 (pair_faces f) = some_below-to 13 (pair_faces f) h in
      let r : ℕ = one.at in
      let parts = and_parts (leb 2 (ranked r f)) (some_below 13 (other_faces f r)) one.holds in
      let two : Below 13 (other_faces f r) = some_below-to 13 (other_faces f r) parts.1 in
      let s : ℕ = two.at in
      let back = and_parts (not (eqb r s)) (leb 2 (ranked s f)) two.holds in
      let apart : r ≢ s = differ r s back.0 in
      let counts : TwoCounts w hand f g r s = two_counts w hand f g r s apart chosen in
      let first : ranked r f ≡ ranked r (naturals w hand) + ranked r g = counts.first in
      let second : ranked s f ≡ ranked s (naturals w hand) + ranked s g = counts.second in
      let few : ranked r g + ranked s g ≤ wilds w hand = counts.chosen in
      let first_two : 2 ≤ ranked r f = leb-true 2 (ranked r f) parts.0 in
      let second_two : 2 ≤ ranked s f = leb-true 2 (ranked s f) back.1 in
      some_below-from 13 (λ r. some_below 13 (other_count r)) r one.below
      (some_below-from 13 (other_count r) s two.below
      (and_from (not (eqb r s)) (leb ((2 - ranked r (naturals w hand)) + (2 - ranked s (naturals w hand))) (wilds w hand))
      back.0 (le-leb ((2 - ranked r (naturals w hand)) + (2 - ranked s (naturals w hand))) (wilds w hand) (omega arith))))

  counts_to_pairs : some_below 13 (λ r. some_below 13 (other_count r)) ≡ true → Choice w hand (λ f. some_below 13 (pair_faces f))
  counts_to_pairs h =
      let one : Below 13 (λ r. some_below 13 (other_count r)) = some_below-to 13 (λ r. some_below 13 (other_count r)) h in
      let r : ℕ = one.at in
      let two : Below 13 (other_count r) = some_below-to 13 (other_count r) one.holds in
      let s : ℕ = two.at in
      let back = and_parts (not (eqb r s)) (leb ((2 - ranked r (naturals w hand)) + (2 - ranked s (naturals w hand))) (wilds w hand)) two.holds in
      let apart : r ≢ s = differ r s back.0 in
      let enough : (2 - ranked r (naturals w hand)) + (2 - ranked s (naturals w hand)) ≤ wilds w hand =
      leb-true ((2 - ranked r (naturals w hand)) + (2 - ranked s (naturals w hand))) (wilds w hand) back.1 in
      let made : Copies (2 - ranked r (naturals w hand)) (wilds w hand - (2 - ranked r (naturals w hand))) r s =
      copies (2 - ranked r (naturals w hand)) (wilds w hand - (2 - ranked r (naturals w hand))) r s one.below two.below apart in
      let size : length made.cards ≡ (2 - ranked r (naturals w hand)) + (wilds w hand - (2 - ranked r (naturals w hand))) = made.size in
      record {
        cards = made.cards;
        size = omega arith;
        natural = made.natural;
        passes = λ f chosen.
            let counts = made_counts w hand f (2 - ranked r (naturals w hand)) (wilds w hand - (2 - ranked r (naturals w hand))) r s made chosen in
            let first : ranked r f ≡ ranked r (naturals w hand) + (2 - ranked r (naturals w hand)) = counts.0 in
            let second : ranked s f ≡ ranked s (naturals w hand) + (wilds w hand - (2 - ranked r (naturals w hand))) = counts.1 in
            some_below-from 13 (pair_faces f) r one.below
            (and_from (leb 2 (ranked r f)) (some_below 13 (other_faces f r)) (le-leb 2 (ranked r f) (omega arith))
            (some_below-from 13 (other_faces f r) s two.below
            (and_from (not (eqb r s)) (leb 2 (ranked s f)) back.0 (le-leb 2 (ranked s f) (omega arith)))));
      }

  pub two_pair : some_faces w hand (λ f. some_below 13 (pair_faces f)) ≡ some_below 13 (λ r. some_below 13 (other_count r))
  two_pair = some_faces-is w hand (λ f. some_below 13 (pair_faces f)) (some_below 13 (λ r. some_below 13 (other_count r))) pairs_to_counts counts_to_pairs

-- all of one suit: n copies of the two of a suit
suited_same : (n s : ℕ) → s < 4 → suited s (replicate n s) ≡ n
suited_same n s low =
    let count : suited s (replicate n s) ≡ n * tally (eqb (suit s) s) = count_by-replicate (λ c. eqb (suit c) s) n s in
    let is : tally (eqb (suit s) s) ≡ 1 = ap tally (eq-eqb (suit s) s (omega arith)) in
    count ∙ ap (λ (x : ℕ). n * x) is ∙ (omega arith)

pub one_suit-to : (cards : List ℕ) → one_suit cards ≡ true → Below 4 (λ s. eqb (suited s cards) (length cards))
unfolding one_suit
one_suit-to cards h = some_below-to 4 (λ s. eqb (suited s cards) (length cards)) h

pub one_suit-from : (cards : List ℕ) (s : ℕ) → s < 4 → suited s cards ≡ length cards → one_suit cards ≡ true
unfolding one_suit
one_suit-from cards s low h = some_below-from 4 (λ s. eqb (suited s cards) (length cards)) s low (eq-eqb (suited s cards) (length cards) h)

-- faces of one suit have natural cards of one suit
pub suit_kept : (w : Option ℕ) (hand f g : List ℕ) → Chosen w hand f g → one_suit f ≡ true → one_suit (naturals w hand) ≡ true
suit_kept w hand f g chosen h =
    let found : Below 4 (λ s. eqb (suited s f) (length f)) = one_suit-to f h in
    let s : ℕ = found.at in
    let is : suited s f ≡ length f = eqb-true (suited s f) (length f) found.holds in
    let split : suited s f ≡ suited s (naturals w hand) + suited s g = chosen.counts (λ c. eqb (suit c) s) in
    let long : length f ≡ length (naturals w hand) + length g = chosen.long in
    let a : suited s (naturals w hand) ≤ length (naturals w hand) = count_by-le-length (λ c. eqb (suit c) s) (naturals w hand) in
    let b : suited s g ≤ length g = count_by-le-length (λ c. eqb (suit c) s) g in
    one_suit-from (naturals w hand) s found.below (omega arith)

-- natural cards and chosen cards of one suit make faces of one suit
pub suit_made : (w : Option ℕ) (hand f g : List ℕ) (s : ℕ) → s < 4 → Chosen w hand f g → suited s (naturals w hand) ≡ length (naturals w hand) → suited s g ≡ length g → one_suit f ≡ true
suit_made w hand f g s low chosen h k =
    let split : suited s f ≡ suited s (naturals w hand) + suited s g = chosen.counts (λ c. eqb (suit c) s) in
    let long : length f ≡ length (naturals w hand) + length g = chosen.long in
    one_suit-from f s low (omega arith)

pub flush : (w : Option ℕ) (hand : List ℕ) → some_faces w hand one_suit ≡ one_suit (naturals w hand)
flush w hand =
    some_faces-is w hand one_suit (one_suit (naturals w hand)) (suit_kept w hand)
    (λ h.
    let found : Below 4 (λ s. eqb (suited s (naturals w hand)) (length (naturals w hand))) = one_suit-to (naturals w hand) h in
    let s : ℕ = found.at in
    record {
      cards = replicate (wilds w hand) s;
      size = length-replicate (wilds w hand) s;
      natural = all_natural-replicate (wilds w hand) s (let low : s < 4 = found.below in omega arith);
      passes = λ f chosen.
          suit_made w hand f (replicate (wilds w hand) s) s found.below chosen
          (eqb-true (suited s (naturals w hand)) (length (naturals w hand)) found.holds)
          (suited_same (wilds w hand) s found.below ∙ sym (length-replicate (wilds w hand) s));
    })
