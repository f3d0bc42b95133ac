-- The classes so far: what was added up, and what is left of them.
use Rattle.std.proofs.Common.{◌≡◌, ℕ, true, ◌+◌, ◌-◌, ◌*◌, ◌^◌, ◌<◌, ◌≤◌, Bool, false, List, [], ◌∷◌, length, Option, None, ap, sym, ◌∙◌, arith, refl, lit≤}
use Rattle.std.specs.Prelude.{sum_by, count_by, nat_lt, if◌then◌else◌}
use Rattle.std.proofs.lemmas.List.Sums.{sum_by-cons, count_by-le-length}
use Rattle.vp_card.specs.Cards.{in_deck}
use Rattle.vp_pay.specs.declared.table.PayTable.{PayTable}
use Rattle.vp_pay.specs.Table.{IsTable}
use Rattle.vp_sets.specs.Sets.{choose, combos, deck}
use Rattle.vp_sets.proofs.Binomials.{choose_small}
use Rattle.vp_sets.proofs.Decks.{length-deck}
use Rattle.vp_sets.proofs.Sublists.{length-combos}
use Rattle.vp_suit.specs.Classes.{IsKept, representatives, weight}
use Rattle.vp_suit.proofs.Walks.{few_classes}
use Rattle.vp_suit.proofs.Weighed.{Added, added_all, added_fits, added_more, added_none, next_own}
use Rattle.vp_suit.proofs.Weighed.{next_hand as next_class_hand}
use Rattle.vp_suit.proofs.Weights.{weight_few}
use Rattle.vp_draws.specs.Draws.{best, least_best, sum_of_best, value}
use Rattle.vp_draws.proofs.Bounds.{best_sum_fits}
use Rattle.vp_draws.proofs.TurnedValues.{best_kept, best_sum_is}
use Rattle.vp_cross.specs.Crossings.{crossed_value, cost, costs, costly_classes, costly_deals, priced_class, sum_of_crossed, worst}
use Rattle.vp_cross.specs.Later.{later}
use Rattle.vp_cross.specs.declared.crossed.Worst.{Worst}
use Rattle.vp_cross.proofs.Costliest.{kept, kept_all}
use Rattle.vp_cross.proofs.Costs.{crossed_kept, cost_kept, own_crossed}
use Rattle.vp_cross.proofs.Totals.{crossed_sum_fits}

-- 1 where the test holds, else 0
abbrev one : Bool → ℕ
one b = if b then 1 else 0

abbrev pub costs_one : PayTable → PayTable → ℕ → List ℕ → ℕ
costs_one played priced coin cards = one (costs played priced coin cards)

-- all classes but those that are left
pub record Tallied (played priced : PayTable) (coin : ℕ) (left : List (List ℕ)) (optimum crossed classes deals : ℕ) (before : Option Worst) : Type 0 where
  pub best : Added priced.deck (best priced coin) left optimum
  pub value : Added priced.deck (crossed_value played priced coin) left crossed
  pub counted : classes + count_by (costs played priced coin) left ≡ costly_classes played priced coin
  pub dealt : Added priced.deck (costs_one played priced coin) left deals
  pub worst : kept (priced_class played priced coin) before left ≡ worst played priced coin

costs_one_kept : (played priced : PayTable) (coin : ℕ) → 52 ≤ priced.deck → IsKept priced.deck (costs_one played priced coin)
costs_one_kept played priced coin big t cards l d = ap (λ c. one (nat_lt 0 c)) (cost_kept played priced coin big t cards l d)

classes_total : (played priced : PayTable) (coin : ℕ) (left : List (List ℕ)) → left ≡ representatives priced.deck → 0 + count_by (costs played priced coin) left ≡ costly_classes played priced coin
unfolding costly_classes
classes_total played priced coin left is = let same = ap (count_by (costs played priced coin)) is in omega (arith, same)

worst_total : (played priced : PayTable) (coin : ℕ) (left : List (List ℕ)) → left ≡ representatives priced.deck → kept (priced_class played priced coin) None left ≡ worst played priced coin
unfolding worst
worst_total played priced coin left is = ap (kept (priced_class played priced coin) None) is ∙ kept_all (priced_class played priced coin) (representatives priced.deck)

pub tallied_none : (played priced : PayTable) (coin : ℕ) (left : List (List ℕ)) → IsTable priced → left ≡ representatives priced.deck → Tallied played priced coin left 0 0 0 0 None
tallied_none played priced coin left t is =
    let big : 52 ≤ priced.deck = t.known_deck.0 in
    record {
      best = added_none priced.deck (best priced coin) left t.known_deck (best_kept coin priced big) is;
      value = added_none priced.deck (crossed_value played priced coin) left t.known_deck (crossed_kept played priced coin big) is;
      counted = classes_total played priced coin left is;
      dealt = added_none priced.deck (costs_one played priced coin) left t.known_deck (costs_one_kept played priced coin big) is;
      worst = worst_total played priced coin left is;
    }

module _ (played priced : PayTable) (coin : ℕ) (cards : List ℕ) (left rest : List (List ℕ)) (is : left ≡ cards ∷ rest) (optimum crossed classes deals : ℕ) (before : Option Worst)
    (t : IsTable priced) (a : Tallied played priced coin left optimum crossed classes deals before) where
  -- the next class is one of a hand of the deck
  pub next_hand : in_deck priced.deck cards ≡ true
  next_hand = next_class_hand priced.deck (best priced coin) cards left rest is optimum a.best

  -- what the held mask is worth on the second table
  pub next_value : value priced coin cards (least_best played coin cards) ≡ crossed_value played priced coin cards
  next_value = own_crossed played priced coin cards (next_own priced.deck (best priced coin) cards left rest is optimum t.known_deck a.best)

  counted_left : count_by (costs played priced coin) left ≡ costs_one played priced coin cards + count_by (costs played priced coin) rest
  counted_left = ap (count_by (costs played priced coin)) is ∙ sum_by-cons (λ x. costs_one played priced coin x) cards rest

  weighs_one : (b : Bool) (w : ℕ) → (if b then w else 0) ≡ w * one b
  weighs_one true w = omega arith
  weighs_one false w = omega arith

  -- what the class adds
  pub tallied_more : (new_optimum new_crossed new_classes new_deals w : ℕ) (after : Option Worst) (told : Worst) → told ≡ priced_class played priced coin cards → w ≡ weight cards
      → new_optimum ≡ optimum + weight cards * best priced coin cards → new_crossed ≡ crossed + weight cards * crossed_value played priced coin cards
      → new_classes ≡ classes + (if nat_lt 0 told.cost then 1 else 0) → new_deals ≡ deals + (if nat_lt 0 told.cost then w else 0) → after ≡ later before told
      → Tallied played priced coin rest new_optimum new_crossed new_classes new_deals after
  tallied_more new_optimum new_crossed new_classes new_deals w after told says e o v c d k = record {
    best = added_more priced.deck (best priced coin) cards left rest is optimum new_optimum o a.best;
    value = added_more priced.deck (crossed_value played priced coin) cards left rest is crossed new_crossed v a.value;
    counted = (let n : new_classes ≡ classes + costs_one played priced coin cards = c ∙ ap (λ (x : Worst). classes + one (nat_lt 0 x.cost)) says in omega (arith, n, counted_left, a.counted));
    dealt = added_more priced.deck (costs_one played priced coin) cards left rest is deals new_deals
        (d ∙ ap (λ m. deals + m) (weighs_one (nat_lt 0 told.cost) w) ∙ ap (λ (x : Worst). deals + w * one (nat_lt 0 x.cost)) says ∙ ap (λ m. deals + m * costs_one played priced coin cards) e) a.dealt;
    worst =
        ap (λ o. kept (priced_class played priced coin) o rest) (k ∙ ap (later before) says)
        ∙ sym (ap (kept (priced_class played priced coin) before) is)
        ∙ a.worst;
  }

  -- with the next class the sums are still a part of the whole
  pub best_fits : optimum + weight cards * best priced coin cards < 2 ^ 64
  best_fits = omega (arith, added_fits priced.deck (best priced coin) cards left rest is optimum a.best, best_sum_fits priced coin t)

  pub value_fits : crossed + weight cards * crossed_value played priced coin cards < 2 ^ 64
  value_fits = omega (arith, added_fits priced.deck (crossed_value played priced coin) cards left rest is crossed a.value, crossed_sum_fits played priced coin t)

  pub classes_fit : classes + 1 < 2 ^ 32
  unfolding costly_classes
  classes_fit = omega (arith, a.counted, count_by-le-length (costs played priced coin) (representatives priced.deck), few_classes priced.deck t.known_deck)

  pub deals_fit : (w : ℕ) → w ≡ weight cards → deals + w < 2 ^ 32
  deals_fit w e =
      let many : length (combos 5 (deck priced.deck)) ≡ choose priced.deck 5 = length-combos 5 (deck priced.deck) ∙ ap (λ m. choose m 5) (length-deck priced.deck) in
      let few : sum_by (costs_one played priced coin) (combos 5 (deck priced.deck)) ≤ length (combos 5 (deck priced.deck)) = count_by-le-length (costs played priced coin) (combos 5 (deck priced.deck)) in
      omega (arith, a.dealt.added, e, few, many, choose_small priced.deck 5 (omega (arith, t.known_deck.1)) (lit≤ tt), (weight_few cards).1)

-- ---- none is left

pub record IsCrossed (played priced : PayTable) (coin optimum crossed classes deals : ℕ) (after : Option Worst) : Type 0 where
  pub best : optimum ≡ sum_of_best priced coin
  pub value : crossed ≡ sum_of_crossed played priced coin
  pub counted : classes ≡ costly_classes played priced coin
  pub dealt : deals ≡ costly_deals played priced coin
  pub worst : after ≡ worst played priced coin

pub tallied_all : (played priced : PayTable) (coin : ℕ) (left : List (List ℕ)) (optimum crossed classes deals : ℕ) (before : Option Worst) → left ≡ []
    → Tallied played priced coin left optimum crossed classes deals before → IsCrossed played priced coin optimum crossed classes deals before
unfolding sum_of_crossed costly_deals
tallied_all played priced coin left optimum crossed classes deals before none a = record {
  best = best_sum_is priced coin optimum (added_all priced.deck (best priced coin) left optimum none a.best);
  value = added_all priced.deck (crossed_value played priced coin) left crossed none a.value;
  counted = (let z : count_by (costs played priced coin) left ≡ 0 = ap (count_by (costs played priced coin)) none in omega (arith, a.counted, z));
  dealt = added_all priced.deck (costs_one played priced coin) left deals none a.dealt;
  worst = sym (ap (kept (priced_class played priced coin) before) none) ∙ a.worst;
}

-- ---- what a step of the loop tells

pub told_is : (played priced : PayTable) (coin : ℕ) (hand cards : List ℕ) (mask best_mask c : ℕ) → hand ≡ cards → mask ≡ least_best played coin cards → best_mask ≡ least_best priced coin cards → c ≡ cost played priced coin cards
    → ◌≡◌ {A = Worst} (record { hand = hand; mask = mask; best = best_mask; cost = c }) (priced_class played priced coin cards)
told_is played priced coin hand cards mask best_mask c h m b e = rw (h, m, b, e) refl

pub cost_is : (played priced : PayTable) (coin : ℕ) (cards : List ℕ) (b v : ℕ) → b ≡ best priced coin cards → v ≡ crossed_value played priced coin cards → b - v ≡ cost played priced coin cards
unfolding cost
cost_is played priced coin cards b v e f = rw (e, f) refl
