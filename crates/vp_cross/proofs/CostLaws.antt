-- The laws of one table's play on another.
use Rattle.std.proofs.Common.{◌≡◌, ◌↔◌, ℕ, zero, suc, ◌<◌, ◌≤◌, Bool, true, false, cond, ltb, List, [], ◌∷◌, map, Option, None, Some, option_map, ap, sym, subst, ◌∙◌, arith, refl, inl, inr, ◌⊎◌}
use Rattle.std.specs.List.{All, Contains}
use Rattle.std.specs.Prelude.{count_by, find, max, ◌==◌}
use Rattle.std.proofs.lemmas.Bool.{cases_lt, le-ltb, lt-ltb, ltb-true}
use Rattle.std.proofs.lemmas.Bool.Decides.{nat_tests}
use Rattle.std.proofs.lemmas.List.Elements.{All-head, All-tail}
use Rattle.std.proofs.lemmas.List.Sums.{sum_by-cons}
use Rattle.std.proofs.lemmas.Option.{none-some, same_Some}
use Rattle.vp_card.specs.Rising.{IsBelow, IsRising}
use Rattle.vp_card.proofs.Rising.{rising_from}
use Rattle.vp_pay.specs.declared.table.PayTable.{PayTable}
use Rattle.vp_pay.specs.Table.{IsTable}
use Rattle.vp_sets.specs.Index.{set_index}
use Rattle.vp_suit.specs.Classes.{IsDeal, is_representative, least_turn, representative, representatives}
use Rattle.vp_suit.proofs.ClassLaws.{representatives_all, representatives_only, representatives_rise, representative_own}
use Rattle.vp_suit.proofs.Deals.{deal_rises}
use Rattle.vp_suit.proofs.Representatives.{represented}
use Rattle.vp_suit.proofs.Weighed.{deals_none, each_deal_none}
use Rattle.vp_draws.specs.Draws.{sum_of_best}
use Rattle.vp_draws.proofs.Printed.{has_printed_hold}
use Rattle.vp_cross.specs.Crossings.{cost, costliest, costs, costly_classes, costly_deals, most, priced_class, sum_of_crossed, worst}
use Rattle.vp_cross.specs.Laws.{CostsNothing, IsWorst, PrintsBestHolds}
use Rattle.vp_cross.specs.declared.crossed.Worst.{Worst}
use Rattle.vp_cross.proofs.Costs.{cost_kept, make_up, own_play, printed_value}
use Rattle.vp_cross.proofs.Totals.{costs_add_up}

-- ---- equal exactly where the printed holds are best

prints_best : (played priced : PayTable) (coin : ℕ) → IsTable priced → sum_of_crossed played priced coin ≡ sum_of_best priced coin → PrintsBestHolds played priced coin
prints_best played priced coin t e mask cards d p =
    let none : cost played priced coin cards ≡ 0 = each_deal_none priced.deck (cost played priced coin) (omega (arith, costs_add_up played priced coin t)) cards d in
    omega (arith, none, make_up played priced coin cards t.known_deck.0 d, printed_value played priced coin mask cards t d p)

no_costs : (played priced : PayTable) (coin : ℕ) → IsTable priced → ((cards : List ℕ) → IsDeal priced.deck cards → cost played priced coin cards ≡ 0) → sum_of_crossed played priced coin ≡ sum_of_best priced coin
no_costs played priced coin t h = omega (arith, costs_add_up played priced coin t, deals_none priced.deck (cost played priced coin) h)

equal_sums : (played priced : PayTable) (coin : ℕ) → IsTable priced → PrintsBestHolds played priced coin → sum_of_crossed played priced coin ≡ sum_of_best priced coin
equal_sums played priced coin t h =
    no_costs played priced coin t (λ cards d.
    let hold = has_printed_hold played coin priced.deck cards d in
    omega (arith, h hold.0 cards d hold.2, make_up played priced coin cards t.known_deck.0 d, printed_value played priced coin hold.0 cards t d hold.2))

pub equal_where_best : (played priced : PayTable) (coin : ℕ) → IsTable priced → (sum_of_crossed played priced coin ≡ sum_of_best priced coin) ↔ PrintsBestHolds played priced coin
equal_where_best played priced coin t = (prints_best played priced coin t, equal_sums played priced coin t)

-- ---- the worst class

most_of_each : (f : List ℕ → ℕ) (some : List (List ℕ)) (cards : List ℕ) → Contains some cards → f cards ≤ most f some
unfolding most
most_of_each f [] cards (k, l, e) = absurd (omega arith)
most_of_each f (x ∷ xs) cards (zero, l, e) = let same = ap f e in omega (arith, same)
most_of_each f (x ∷ xs) cards (suc k, l, e) = let rest = most_of_each f xs cards (k, omega arith, e) in omega (arith, rest)

most_none : (g : List ℕ → ℕ) (some : List (List ℕ)) → All (λ cards. g cards ≡ 0) some → most g some ≡ 0
unfolding most
most_none g [] h = refl
most_none g (x ∷ xs) h = omega (arith, All-head (λ cards. g cards ≡ 0) x xs h, most_none g xs (All-tail (λ cards. g cards ≡ 0) x xs h))

-- a list has a member of the greatest number, where that is above 0
not_reached : (g : List ℕ → ℕ) (some : List (List ℕ)) (m : ℕ) → 0 < m → find (λ cards. g cards == m) some ≡ None → most g some ≡ m → ⊥
unfolding most
not_reached g [] m l e is = omega arith
not_reached g (x ∷ xs) m l e is = at (g x == m) refl (λ h c. not_reached g xs m l h c) e
  where
    other : (a m : ℕ) → (a == m) ≡ false → a ≡ m → ⊥
    other a m e s = grind (arith, nat_tests)

    last : (a c m : ℕ) → (a ≡ m → ⊥) → max a c ≡ m → c ≡ m
    last a c m h e = grind (arith)

    at : (b : Bool) → (g x == m) ≡ b → (find (λ cards. g cards == m) xs ≡ None → most g xs ≡ m → ⊥) → cond b (Some x) (find (λ cards. g cards == m) xs) ≡ None → ⊥
    at true b rest h = none-some x (sym h)
    at false b rest h = rest h (last (g x) (most g xs) m (other (g x) m b) is)

-- the first of a list that passes a test
record Found (p : List ℕ → Bool) (P : List ℕ → Type 0) (some : List (List ℕ)) (r : List ℕ) : Type 0 where
  each : P r
  hit : p r ≡ true
  first : (cards : List ℕ) → Contains some cards → set_index cards < set_index r → p cards ≡ false

below_all : (i : ℕ) (some : List (List ℕ)) (cards : List ℕ) → IsBelow i (map set_index some) → Contains some cards → i < set_index cards
below_all i [] cards b (k, l, e) = absurd (omega arith)
below_all i (x ∷ xs) cards b (zero, l, e) = let same = ap set_index e in omega (arith, b.0, same)
below_all i (x ∷ xs) cards b (suc k, l, e) = below_all i xs cards b.1 (k, omega arith, e)

found : (p : List ℕ → Bool) (P : List ℕ → Type 0) (some : List (List ℕ)) (r : List ℕ) → All P some → IsRising (map set_index some) → find p some ≡ Some r → Found p P some r
found p P [] r all rises e = absurd (none-some r e)
found p P (x ∷ xs) r all rises e = at (p x) refl (λ s. found p P xs r (All-tail P x xs all) rises.1 s) e
  where
    here : p x ≡ true → x ≡ r → Found p P (x ∷ xs) r
    here t same = record {
      each = subst P same (All-head P x xs all);
      hit = sym (ap p same) ∙ t;
      first = λ cards c l. absurd (none_below cards c l);
    }
      where
        none_below : (cards : List ℕ) → Contains (x ∷ xs) cards → set_index cards < set_index r → ⊥
        none_below cards (zero, l, e) less = let a = ap set_index e in let b = ap set_index same in omega (arith, a, b)
        none_below cards (suc k, l, e) less = let b = ap set_index same in omega (arith, b, below_all (set_index x) xs cards rises.0 (k, omega arith, e))

    later : p x ≡ false → Found p P xs r → Found p P (x ∷ xs) r
    later t f = record { each = f.each; hit = f.hit; first = misses }
      where
        misses : (cards : List ℕ) → Contains (x ∷ xs) cards → set_index cards < set_index r → p cards ≡ false
        misses cards (zero, l, e) less = sym (ap p e) ∙ t
        misses cards (suc k, l, e) less = f.first cards (k, omega arith, e) less

    at : (b : Bool) → p x ≡ b → (find p xs ≡ Some r → Found p P xs r) → cond b (Some x) (find p xs) ≡ Some r → Found p P (x ∷ xs) r
    at true t rest s = here t (same_Some x r s)
    at false t rest s = later t (rest s)

-- what the greatest cost of a class tells of each deal
cost_of_class : (played priced : PayTable) (coin : ℕ) (cards : List ℕ) → 52 ≤ priced.deck → IsDeal priced.deck cards → cost played priced coin (representative cards) ≡ cost played priced coin cards
unfolding representative
cost_of_class played priced coin cards big d = cost_kept played priced coin big (least_turn cards) cards (represented cards (deal_rises priced.deck cards d)).inside d

cost_le : (played priced : PayTable) (coin : ℕ) (cards : List ℕ) → 52 ≤ priced.deck → IsDeal priced.deck cards → cost played priced coin cards ≤ most (cost played priced coin) (representatives priced.deck)
cost_le played priced coin cards big d =
    omega (arith, cost_of_class played priced coin cards big d, most_of_each (cost played priced coin) (representatives priced.deck) (representative cards) (representatives_all priced.deck cards big d))

contained : (n : ℕ) (cards : List ℕ) → 52 ≤ n → IsDeal n cards → is_representative cards ≡ true → Contains (representatives n) cards
contained n cards big d stands = subst (λ (x : List ℕ). Contains (representatives n) x) (representative_own n cards big d stands) (representatives_all n cards big d)

module _ (played priced : PayTable) (coin : ℕ) (t : IsTable priced) where
  abbrev f : List ℕ → ℕ
  f cards = cost played priced coin cards

  abbrev top : ℕ
  top = most f (representatives priced.deck)

  big : 52 ≤ priced.deck
  big = t.known_deck.0

  is_top : (a b : ℕ) → (a == b) ≡ true → a ≡ b
  is_top a b e = grind (arith, nat_tests)

  not_top : (a b : ℕ) → (a == b) ≡ false → a ≤ b → a < b
  not_top a b e l = grind (arith, nat_tests)

  is_worst : (r : List ℕ) → 0 < top → find (λ cards. f cards == top) (representatives priced.deck) ≡ Some r → IsWorst played priced coin (priced_class played priced coin r)
  is_worst r some e =
      let is : Found (λ cards. f cards == top) (λ cards. IsDeal priced.deck cards × (is_representative cards ≡ true)) (representatives priced.deck) r =
      found (λ cards. f cards == top) (λ cards. IsDeal priced.deck cards × (is_representative cards ≡ true)) (representatives priced.deck) r (representatives_only priced.deck)
      (rising_from (map set_index (representatives priced.deck)) (representatives_rise priced.deck)) e in
      let greatest : f r ≡ top = is_top (f r) top is.hit in
      record {
        deal = is.each.0;
        class = is.each.1;
        mask = refl;
        best = refl;
        is_cost = refl;
        some = omega (arith, greatest, some);
        greatest = λ cards d. omega (arith, greatest, cost_le played priced coin cards big d);
        first = λ cards d l stands.
            let less : f cards < top = not_top (f cards) top (is.first cards (contained priced.deck cards big d stands) l) (cost_le played priced coin cards big d) in
            omega (arith, greatest, less);
      }

  -- the class that is found
  pub worst_is_worst : (w : Worst) → worst played priced coin ≡ Some w → IsWorst played priced coin w
  unfolding worst costliest
  worst_is_worst w e = at (ltb 0 top) (find (λ cards. f cards == top) (representatives priced.deck)) refl refl e
    where
      at : (b : Bool) (o : Option (List ℕ)) → ltb 0 top ≡ b → find (λ cards. f cards == top) (representatives priced.deck) ≡ o → option_map (priced_class played priced coin) (cond b o None) ≡ Some w → IsWorst played priced coin w
      at true (Some r) b o h = subst (λ (x : Worst). IsWorst played priced coin x) (same_Some (priced_class played priced coin r) w h) (is_worst r (ltb-true 0 top b) o)
      at true None b o h = absurd (none-some w h)
      at false o b p h = absurd (none-some w h)

  -- ---- there is none

  no_class : top ≡ 0 → worst played priced coin ≡ None
  unfolding worst costliest
  no_class e = ap (λ b. option_map (priced_class played priced coin) (cond b (find (λ cards. f cards == top) (representatives priced.deck)) None)) (le-ltb 0 top (omega (arith, e)))

  none_worst : worst played priced coin ≡ None → top ≡ 0
  unfolding worst costliest
  none_worst e = at (cases_lt 0 top)
    where
      by : (b : Bool) (o : Option (List ℕ)) → b ≡ true → option_map (priced_class played priced coin) (cond b o None) ≡ None → o ≡ None
      by true None t h = refl
      by true (Some r) t h = absurd (none-some (priced_class played priced coin r) (sym h))
      by false o t h = absurd (grind arith)

      at : (0 < top) ⊎ (top ≤ 0) → top ≡ 0
      at (inl l) = absurd (not_reached f (representatives priced.deck) top l (by (ltb 0 top) (find (λ cards. f cards == top) (representatives priced.deck)) (lt-ltb 0 top l) e) refl)
      at (inr l) = omega arith

  pub none_where_equal : (worst played priced coin ≡ None) ↔ (sum_of_crossed played priced coin ≡ sum_of_best priced coin)
  none_where_equal = (
    λ e. no_costs played priced coin t (λ cards d. omega (arith, none_worst e, cost_le played priced coin cards big d)),
    λ e. no_class (most_none f (representatives priced.deck) (λ k d l.
        each_deal_none priced.deck f (omega (arith, costs_add_up played priced coin t, e)) _ (representatives_only priced.deck k d l).0)),
  )

-- ---- a table's own play

count_none : (p : List ℕ → Bool) (some : List (List ℕ)) → All (λ cards. p cards ≡ false) some → count_by p some ≡ 0
count_none p [] h = refl
count_none p (x ∷ xs) h =
    let rest = count_none p xs (All-tail (λ cards. p cards ≡ false) x xs h) in
    let first = ap (λ (b : Bool). cond {A = ℕ} b 1 0) (All-head (λ cards. p cards ≡ false) x xs h) in
    omega (arith, sum_by-cons (λ (c : List ℕ). cond {A = ℕ} (p c) 1 0) x xs, rest, first)

module _ (table : PayTable) (coin : ℕ) (t : IsTable table) where
  own_cost : (cards : List ℕ) → IsDeal table.deck cards → cost table table coin cards ≡ 0
  own_cost cards d = omega (arith, make_up table table coin cards t.known_deck.0 d, own_play table coin cards t.known_deck.0 d)

  free : (cards : List ℕ) → IsDeal table.deck cards → costs table table coin cards ≡ false
  free cards d = le-ltb 0 (cost table table coin cards) (omega (arith, own_cost cards d))

  own_sum : sum_of_crossed table table coin ≡ sum_of_best table coin
  own_sum = no_costs table table coin t own_cost

  own_classes : costly_classes table table coin ≡ 0
  unfolding costly_classes
  own_classes = count_none (costs table table coin) (representatives table.deck) (λ k d l. free _ (representatives_only table.deck k d l).0)

  own_deals : costly_deals table table coin ≡ 0
  unfolding costly_deals
  own_deals = deals_none table.deck (λ cards. cond {A = ℕ} (costs table table coin cards) 1 0) (λ cards d. ap (λ (b : Bool). cond {A = ℕ} b 1 0) (free cards d))

  pub costs_nothing : CostsNothing table coin
  costs_nothing = record {
    value = own_sum;
    classes = own_classes;
    deals = own_deals;
    worst = (none_where_equal table table coin t).1 own_sum;
  }
