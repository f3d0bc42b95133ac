-- Compiled lists are lists.
use Rattle.std.proofs.Common.{◌≡◌, ℕ, zero, suc, ◌+◌, ◌-◌, ◌<◌, List, [], map, length, get_or, sym, ap, subst, ◌∙◌, arith}
use Rattle.std.specs.List.{All}
use Rattle.std.specs.List.Sorted.{IsStrictlyIncreasing}
use Rattle.std.proofs.lemmas.List.{get_or-map, length-map}
use Rattle.std.proofs.lemmas.List.Elements.{All-get_or, All-map, All-weaker}
use Rattle.vp_card.proofs.Rising.{rising_from}
use Rattle.vp_sets.specs.Index.{set_index}
use Rattle.vp_suit.specs.Classes.{representatives}
use Rattle.vp_suit.proofs.ClassLaws.{representatives_rise}
use Rattle.vp_pay.specs.declared.table.PayTable.{PayTable}
use Rattle.vp_draws.proofs.Chosen.{least_best_small}
use Rattle.vp_rule.specs.Lists.{Exception, RulePool}
use Rattle.vp_rule.specs.Valid.{IsException, IsList, IsPool, IsRule}
use Rattle.vp_compile.specs.Excepted.{ArePlaces}
use Rattle.vp_compile.specs.Matrices.{IsOrder}
use Rattle.vp_compile.proofs.OrderLaws.{order_below, order_length}
use Rattle.vp_audit.specs.Compiled.{best_exception, class_at, compiled_list}
use Rattle.vp_audit.specs.Values.{no_rule}
use Rattle.vp_audit.proofs.ClassRows.{class_is}

-- numbers that rise from each to the next rise from each to each later one
rise_far : (xs : List ℕ) → IsStrictlyIncreasing xs → (i n : ℕ) → i + n + 1 < length xs → get_or xs i 0 < get_or xs (i + n + 1) 0
rise_far xs up i zero l = let e : i + 0 + 1 ≡ i + 1 = omega arith in subst (λ k. get_or xs i 0 < get_or xs k 0) (sym e) (up i (omega arith))
rise_far xs up i (suc n) l =
    let e : i + n + 1 + 1 ≡ i + suc n + 1 = omega arith in
    let step : get_or xs (i + n + 1) 0 < get_or xs (i + suc n + 1) 0 = subst (λ k. get_or xs (i + n + 1) 0 < get_or xs k 0) e (up (i + n + 1) (omega arith)) in
    omega (arith, rise_far xs up i n (omega arith), step)

rise_to : (xs : List ℕ) → IsStrictlyIncreasing xs → (i j : ℕ) → i < j → j < length xs → get_or xs i 0 < get_or xs j 0
rise_to xs up i j h l = let e : i + (j - i - 1) + 1 ≡ j = omega arith in subst (λ k. get_or xs i 0 < get_or xs k 0) e (rise_far xs up i (j - i - 1) (omega arith))

-- the indexes of classes rise with their places
pub classes_rise : (n i j : ℕ) → i < j → j < length (representatives n) → set_index (class_at n i) < set_index (class_at n j)
classes_rise n i j h l =
    let many : length (map set_index (representatives n)) ≡ length (representatives n) = length-map (representatives n) set_index in
    let first : get_or (map set_index (representatives n)) i 0 ≡ set_index (class_at n i) = get_or-map set_index (representatives n) i [] 0 (omega arith) in
    let second : get_or (map set_index (representatives n)) j 0 ≡ set_index (class_at n j) = get_or-map set_index (representatives n) j [] 0 l in
    omega (arith, first, second, rise_to (map set_index (representatives n)) (representatives_rise n) i j h (omega arith))

module _ (table : PayTable) (coin : ℕ) (pool : RulePool) (known : IsPool table pool) (order places : List ℕ) (whole : IsOrder (length pool.rules) order) (some : ArePlaces (length (representatives table.deck)) places) where
  exceptions_are : All (IsException table.deck) (map (best_exception table coin) places)
  exceptions_are = All-map (IsException table.deck) (best_exception table coin) places (All-weaker (λ place. place < length (representatives table.deck)) (λ place. IsException table.deck (best_exception table coin place)) (λ place l.
      let class = class_is table.deck place l in
      record { deal = class.0; representative = class.1; mask = least_best_small table coin (class_at table.deck place) }) places some.below)

  index_at : (k : ℕ) → k < length places → get_or (map (λ (e : Exception). set_index e.0) (map (best_exception table coin) places)) k 0 ≡ set_index (class_at table.deck (get_or places k 0))
  index_at k l =
      let many : length (map (best_exception table coin) places) ≡ length places = length-map places (best_exception table coin) in
      get_or-map (λ (e : Exception). set_index e.0) (map (best_exception table coin) places) k (best_exception table coin 0) 0 (omega arith)
      ∙ ap (λ (e : Exception). set_index e.0) (get_or-map (best_exception table coin) places k 0 (best_exception table coin 0) l)

  exceptions_rise : IsStrictlyIncreasing (map (λ (e : Exception). set_index e.0) (map (best_exception table coin) places))
  exceptions_rise k l =
      let many : length (map (λ (e : Exception). set_index e.0) (map (best_exception table coin) places)) ≡ length places =
      length-map (map (best_exception table coin) places) (λ (e : Exception). set_index e.0) ∙ length-map places (best_exception table coin) in
      let inside : k + 1 < length places = omega arith in
      let low : get_or places (k + 1) 0 < length (representatives table.deck) = All-get_or (λ place. place < length (representatives table.deck)) places (k + 1) 0 inside some.below in
      let up = classes_rise table.deck (get_or places k 0) (get_or places (k + 1) 0) (some.rising k inside) low in
      omega (arith, index_at k (omega arith), index_at (k + 1) inside, up)

  -- a compiled list is one for the table
  pub compiled_is : IsList table (compiled_list table coin pool order places)
  compiled_is = record {
    version = known.version;
    exceptions = exceptions_are;
    rising = rising_from (map (λ (e : Exception). set_index e.0) (map (best_exception table coin) places)) exceptions_rise;
    rules = All-map (IsRule pool.version table) (λ place. get_or pool.rules place no_rule) order (All-weaker (λ place. place < length pool.rules) (λ place. IsRule pool.version table (get_or pool.rules place no_rule)) (λ place l. All-get_or (IsRule pool.version table) pool.rules place no_rule l known.rules) order (order_below (length pool.rules) order whole));
    most = omega (arith, length-map order (λ place. get_or pool.rules place no_rule), order_length (length pool.rules) order whole, known.most);
  }
