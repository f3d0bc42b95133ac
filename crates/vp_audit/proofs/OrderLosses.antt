-- What an order of a pool's rules loses, and what is left of it without some classes, are the losses of the lists that are made of them.
use Rattle.std.proofs.Common.{◌≡◌, ℕ, ◌+◌, ◌*◌, ◌-◌, ◌<◌, ◌≤◌, Bool, true, false, cond, List, [], ◌∷◌, map, length, refl, sym, ap, ◌∙◌, arith, Some, None, Option, inl, inr}
use Rattle.std.specs.Prelude.{◌==◌, ◌||◌, find, option_map}
use Rattle.std.specs.List.{All, sum_by}
use Rattle.std.proofs.lemmas.Bool.{eqb-true, eq-eqb, cases_lt}
use Rattle.std.proofs.lemmas.List.{get_or-map, length-map}
use Rattle.std.proofs.lemmas.List.Elements.{All-head, All-tail}
use Rattle.std.proofs.lemmas.List.Sums.{sum_by-cons}
use Rattle.vp_sets.specs.Sets.{has}
use Rattle.vp_sets.specs.Index.{set_index}
use Rattle.vp_sets.proofs.Sublists.{sum_by-map}
use Rattle.vp_rank.proofs.BoundedTests.{same_tests}
use Rattle.vp_suit.specs.Classes.{representative, representatives, weight}
use Rattle.vp_suit.proofs.ClassLaws.{representative_own, representatives_only}
use Rattle.vp_suit.proofs.Deals.{sum_by_classes}
use Rattle.vp_pay.specs.declared.table.PayTable.{PayTable}
use Rattle.vp_pay.specs.Bets.{IsBet}
use Rattle.vp_draws.specs.Draws.{best, least_best, sum_of_best, value}
use Rattle.vp_draws.proofs.Chosen.{least_best_value}
use Rattle.vp_draws.proofs.TurnedValues.{best_by_classes}
use Rattle.vp_rule.specs.Lists.{Exception, RuleList, RulePool}
use Rattle.vp_rule.specs.Valid.{IsList, IsPool}
use Rattle.vp_rule.specs.declared.rule.Rule.{Rule}
use Rattle.vp_compile.specs.Rows.{Row, class_loss, no_row, order_loss, row_at, worth_at_best}
use Rattle.vp_compile.specs.Excepted.{ArePlaces, loss_at, loss_left}
use Rattle.vp_compile.specs.Matrices.{IsOrder}
use Rattle.vp_compile.proofs.OrderLaws.{order_below}
use Rattle.vp_compile.proofs.Sums.{rises, sum_from, sum_from_is}
use Rattle.vp_suit.specs.Laws.{deals}
use Rattle.vp_audit.specs.Audits.{loss, lost}
use Rattle.vp_audit.specs.Compiled.{best_exception, class_at, class_row, compiled_list, ordered, ordered_list, pool_rows}
use Rattle.vp_audit.specs.Sums.{priced, worth}
use Rattle.vp_audit.specs.Values.{charged, deciding, excepted, least, least_value}
use Rattle.vp_audit.specs.declared.priced.Priced.{Priced}
use Rattle.vp_audit.proofs.Charges.{excepted_small, priced_le, priced_said}
use Rattle.vp_audit.proofs.ClassRows.{IsClass, class_is, value_small}
use Rattle.vp_audit.proofs.CompiledLists.{classes_rise, compiled_is}
use Rattle.vp_audit.proofs.KeptValues.{least_value_kept}
use Rattle.vp_audit.proofs.Lookups.{lookup}
use Rattle.vp_audit.proofs.OrderValues.{list_value_is}
use Rattle.vp_audit.proofs.PlaceSums.{sum_from_same, sum_of_list, sum_without, without_at}

-- ---- at best

-- what all classes of a pool are worth at best
pub worth_is : (table : PayTable) (coin : ℕ) (rules : List Rule) → IsBet table coin → worth_at_best (pool_rows table coin rules) ≡ sum_of_best table coin
unfolding pool_rows class_row
worth_is table coin rules bet = sum_by-map (λ (row : Row). row.weight * row.best) (class_row table coin rules) (representatives table.deck) ∙ best_by_classes coin table bet.rules.known_deck.0

-- ---- the loss of a list, class by class

module _ (table : PayTable) (coin : ℕ) (list : RuleList) (big : 52 ≤ table.deck) (valid : IsList table list) where
  least_low : (cards : List ℕ) → IsClass table.deck cards → least_value table coin list cards ≤ best table coin cards
  unfolding priced
  least_low cards class =
      let own : representative cards ≡ cards = representative_own table.deck cards big class.0 class.1 in
      let p : Priced = priced table coin list.rules (excepted list.exceptions cards) cards in
      let said = ap (λ (q : Priced). q.least) (priced_said table coin list (excepted list.exceptions cards) cards p own refl refl) in
      let low = (priced_le table coin list.rules (excepted list.exceptions cards) cards p (excepted_small table.deck list.exceptions cards valid.exceptions) refl).0 in
      omega (arith, said, low)

  -- what is lost on some classes, and the least values, are together the best values
  pub parts : (xs : List (List ℕ)) → All (IsClass table.deck) xs → worth (lost table coin list) xs + worth (least_value table coin list) xs ≡ worth (best table coin) xs
  unfolding lost
  parts [] all = refl
  parts (x ∷ xs) all =
      let rest = parts xs (All-tail (IsClass table.deck) x xs all) in
      let low = least_low x (All-head (IsClass table.deck) x xs all) in
      let here : weight x * (best table coin x - least_value table coin list x) + weight x * least_value table coin list x ≡ weight x * best table coin x = split (weight x) (best table coin x) (least_value table coin list x) low in
      let a = sum_by-cons (λ (cards : List ℕ). weight cards * (best table coin cards - least_value table coin list cards)) x xs in
      let b = sum_by-cons (λ (cards : List ℕ). weight cards * least_value table coin list cards) x xs in
      let c = sum_by-cons (λ (cards : List ℕ). weight cards * best table coin cards) x xs in
      omega (arith, rest, here, a, b, c)
    where
      split : (w b l : ℕ) → l ≤ b → w * (b - l) + w * l ≡ w * b
      split w b l low = let e : b - l + l ≡ b = omega arith in omega (arith, ap (λ n. w * n) e)

  -- the loss of a list is the sum over the classes by weight
  pub loss_is : loss table coin list ≡ worth (lost table coin list) (representatives table.deck)
  unfolding loss
  loss_is =
      let least_total : worth (least_value table coin list) (representatives table.deck) ≡ sum_by (least_value table coin list) (deals table.deck) =
      sum_by_classes table.deck big (least_value table coin list) (λ t cards l d. least_value_kept table list big t coin cards l d) in
      let best_total : worth (best table coin) (representatives table.deck) ≡ sum_of_best table coin = best_by_classes coin table big in
      omega (arith, least_total, best_total, parts (representatives table.deck) (representatives_only table.deck))

-- ---- the exceptions of a compiled list

-- the classes at two places have one index where the places are one
same_index : (n i j : ℕ) → i < length (representatives n) → j < length (representatives n) → (set_index (class_at n j) == set_index (class_at n i)) ≡ (j == i)
same_index n i j li lj = same_tests (set_index (class_at n j) == set_index (class_at n i)) (j == i) (λ h. eq-eqb j i (one (eqb-true _ _ h))) (λ h. eq-eqb _ _ (ap (λ k. set_index (class_at n k)) (eqb-true j i h)))
  where
    one : set_index (class_at n j) ≡ set_index (class_at n i) → j ≡ i
    one e = elim (cases_lt i j) [
      | inl l ↦ absurd (omega (arith, e, classes_rise n i j l lj))
      | inr l ↦ elim (cases_lt j i) [
        | inl m ↦ absurd (omega (arith, e, classes_rise n j i m li))
        | inr m ↦ omega arith
      ]
    ]

abbrev some_mask : ℕ → Option ℕ
some_mask m = Some m

module _ (table : PayTable) (coin : ℕ) where
  -- an exception of these places, for the class at a place
  excepted_at : (i : ℕ) (places : List ℕ) → i < length (representatives table.deck) → All (λ place. place < length (representatives table.deck)) places
      → lookup (map (best_exception table coin) places) (set_index (class_at table.deck i)) ≡ cond (has places i) (Some (least_best table coin (class_at table.deck i))) None
  unfolding has
  excepted_at i [] l all = refl
  excepted_at i (j ∷ places) l all =
      ap (λ b. option_map (λ (e : Exception). e.1) (cond b (Some (best_exception table coin j)) (find (λ e. set_index e.0 == set_index (class_at table.deck i)) (map (best_exception table coin) places)))) (same_index table.deck i j l (All-head (λ place. place < length (representatives table.deck)) j places all))
      ∙ by_test (j == i) refl (excepted_at i places l (All-tail (λ place. place < length (representatives table.deck)) j places all))
    where
      by_test : (b : Bool) → (j == i) ≡ b → lookup (map (best_exception table coin) places) (set_index (class_at table.deck i)) ≡ cond (has places i) (Some (least_best table coin (class_at table.deck i))) None
          → option_map (λ (e : Exception). e.1) (cond b (Some (best_exception table coin j)) (find (λ e. set_index e.0 == set_index (class_at table.deck i)) (map (best_exception table coin) places)))
          ≡ cond (b || has places i) (Some (least_best table coin (class_at table.deck i))) None
      by_test true is rest = ap (λ k. some_mask (least_best table coin (class_at table.deck k))) (eqb-true j i is)
      by_test false is rest = rest

module _ (table : PayTable) (coin : ℕ) (bet : IsBet table coin) (pool : RulePool) (known : IsPool table pool) (order : List ℕ) (whole : IsOrder (length pool.rules) order) where
  abbrev rows : List Row
  rows = pool_rows table coin pool.rules

  rows_many : length rows ≡ length (representatives table.deck)
  unfolding pool_rows
  rows_many = length-map (representatives table.deck) (class_row table coin pool.rules)

  row_is : (i : ℕ) → i < length (representatives table.deck) → row_at rows i ≡ class_row table coin pool.rules (class_at table.deck i)
  unfolding pool_rows
  row_is i l = get_or-map (class_row table coin pool.rules) (representatives table.deck) i [] no_row l

  -- what the rules are charged for a class
  abbrev ruled : List ℕ → ℕ
  ruled cards = charged least table coin (ordered pool.rules order) cards cards None (deciding table (ordered pool.rules order) cards)

  -- what an order loses on the class at a place
  row_loss : (i : ℕ) → i < length (representatives table.deck) → loss_at rows order i ≡ weight (class_at table.deck i) * (best table coin (class_at table.deck i) - ruled (class_at table.deck i))
  unfolding loss_at class_loss class_row
  row_loss i l =
      let cards : List ℕ = class_at table.deck i in
      ap (class_loss order) (row_is i l)
      ∙ ap (λ v. weight cards * (best table coin cards - v)) (list_value_is table coin cards (value_small table coin bet.rules cards (class_is table.deck i l).0) pool.rules order (order_below (length pool.rules) order whole))

  module _ (places : List ℕ) (some : ArePlaces (length (representatives table.deck)) places) where
    abbrev list : RuleList
    list = compiled_list table coin pool order places

    less_same : (w a b : ℕ) → a ≡ b → w * (b - a) ≡ 0
    less_same w a b e = let none : b - a ≡ 0 = omega (arith, e) in omega (arith, ap (λ n. w * n) none)

    -- what the compiled list loses on the class at a place: nothing where it is excepted, else what the order loses
    lost_at : (i : ℕ) → i < length (representatives table.deck) → weight (class_at table.deck i) * lost table coin list (class_at table.deck i) ≡ without_at places (loss_at rows order) i
    unfolding lost least_value excepted
    lost_at i l =
        let class = class_is table.deck i l in
        let own : representative cards ≡ cards = representative_own table.deck cards bet.rules.known_deck.0 class.0 class.1 in
        ap (λ (x : List ℕ). weight cards * (best table coin cards - charged least table coin (ordered pool.rules order) x cards (lookup (map (best_exception table coin) places) (set_index x)) (deciding table (ordered pool.rules order) cards))) own
        ∙ ap (λ (m : Option ℕ). weight cards * (best table coin cards - charged least table coin (ordered pool.rules order) cards cards m (deciding table (ordered pool.rules order) cards))) (excepted_at table coin i places l some.below)
        ∙ by_test (has places i)
      where
        cards : List ℕ
        cards = class_at table.deck i

        by_test : (b : Bool) → weight cards * (best table coin cards - charged least table coin (ordered pool.rules order) cards cards (cond b (Some (least_best table coin cards)) None) (deciding table (ordered pool.rules order) cards)) ≡ cond b 0 (loss_at rows order i)
        by_test true = less_same (weight cards) (value table coin cards (least_best table coin cards)) (best table coin cards) (least_best_value table coin cards)
        by_test false = sym (row_loss i l)

    -- what is left of the loss of the order
    pub left_is : loss_left rows order places ≡ loss table coin list
    unfolding loss_left loss_at order_loss
    left_is =
        let n : ℕ = length (representatives table.deck) in
        let all : sum_from (loss_at rows order) 0 n ≡ order_loss rows order = sum_from_is (class_loss order) rows 0 n (omega (arith, rows_many)) in
        let split = sum_without (loss_at rows order) 0 n n places (omega arith) (rises n places some.rising some.below) in
        let same = sum_from_same (λ i. weight (class_at table.deck i) * lost table coin list (class_at table.deck i)) (without_at places (loss_at rows order)) 0 n (λ i low high. lost_at i (omega arith)) in
        let whole_list : sum_from (λ i. weight (class_at table.deck i) * lost table coin list (class_at table.deck i)) 0 n ≡ worth (lost table coin list) (representatives table.deck) =
        sum_of_list (λ cards. weight cards * lost table coin list cards) (representatives table.deck) [] 0 n (omega arith) in
        let told = loss_is table coin list bet.rules.known_deck.0 (compiled_is table coin pool known order places whole some) in
        omega (arith, all, split, same, whole_list, told)

  no_places : ArePlaces (length (representatives table.deck)) []
  no_places = record { rising = λ k l. absurd (omega arith); below = λ k d l. absurd (omega arith) }

  -- what an order loses
  pub order_is : order_loss rows order ≡ loss table coin (ordered_list pool order)
  unfolding loss_left
  order_is = let e : order_loss rows order - sum_by (loss_at rows order) [] ≡ loss table coin (ordered_list pool order) = left_is [] no_places in omega (arith, e)
