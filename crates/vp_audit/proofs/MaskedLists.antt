-- Exceptions of best holds lose least.
use Rattle.std.proofs.Common.{◌≡◌, ℕ, zero, suc, ◌<◌, ◌≤◌, Bool, true, false, cond, List, [], ◌∷◌, map, length, refl, sym, ap, ◌∙◌, arith, Some, None, Option}
use Rattle.std.specs.Prelude.{◌==◌, find, option_map, sum_by}
use Rattle.std.specs.List.{All}
use Rattle.std.proofs.lemmas.Bool.{eqb-true}
use Rattle.std.proofs.lemmas.List.Elements.{All-head, All-tail}
use Rattle.vp_sets.specs.Sets.{choose}
use Rattle.vp_sets.specs.Index.{set_index}
use Rattle.vp_suit.specs.Classes.{IsDeal, representative, representatives}
use Rattle.vp_suit.proofs.Below.{below, below-zero, below-suc}
use Rattle.vp_suit.proofs.ClassLaws.{representative_deal}
use Rattle.vp_suit.proofs.Deals.{deal, deal_at, deal_is, sum_of_deals}
use Rattle.vp_pay.specs.declared.table.PayTable.{PayTable}
use Rattle.vp_draws.specs.Draws.{best, least_best, value}
use Rattle.vp_draws.proofs.Chosen.{least_best_value, value_le_best}
use Rattle.vp_rule.specs.Lists.{Exception, RulePool}
use Rattle.vp_rule.specs.declared.rule.Rule.{Rule}
use Rattle.vp_suit.specs.Laws.{deals}
use Rattle.vp_audit.specs.Audits.{loss}
use Rattle.vp_audit.specs.Compiled.{class_at, compiled_list, ordered}
use Rattle.vp_audit.specs.Masked.{masked_exception, masked_list}
use Rattle.vp_audit.specs.Values.{charged, deciding, excepted, least, least_value}
use Rattle.vp_audit.proofs.ClassRows.{class_is}

-- ---- sums

below_more : (x y : ℕ → ℕ) (n : ℕ) → ((i : ℕ) → i < n → x i ≤ y i) → below x n ≤ below y n
below_more x y zero h = omega (arith, below-zero x, below-zero y)
below_more x y (suc n) h = omega (arith, below-suc x n, below-suc y n, below_more x y n (λ i l. h i (omega arith)), h n (omega arith))

-- of two numbers of each deal the greater have the greater sum
sum_more : (n : ℕ) (f g : List ℕ → ℕ) → ((cards : List ℕ) → IsDeal n cards → f cards ≤ g cards) → sum_by f (deals n) ≤ sum_by g (deals n)
sum_more n f g h = omega (arith, sum_of_deals n f, sum_of_deals n g, below_more (λ i. f (deal n i)) (λ i. g (deal n i)) (choose n 5) (λ i l. h (deal n i) (deal_is n i l).0))

-- ---- what exceptions for the classes at some places give

-- neither list has an exception for the class of a representative, or both have one, for the class at this place
data Alike (n : ℕ) (one other : ℕ → ℕ) (cards : List ℕ) : Option ℕ → Option ℕ → Type 0 where
  neither : Alike n one other cards None None
  both : (place : ℕ) → place < length (representatives n) → set_index (class_at n place) ≡ set_index cards → Alike n one other cards (Some (one place)) (Some (other place))

abbrev given : ℕ → (ℕ → ℕ) → List ℕ → List ℕ → Option ℕ
given n mask cards places = option_map (λ (e : Exception). e.1) (find (λ (e : Exception). set_index e.0 == set_index cards) (map (masked_exception n mask) places))

-- the same where the first of the places is of the class or not
abbrev first_given : Bool → ℕ → (ℕ → ℕ) → List ℕ → ℕ → List ℕ → Option ℕ
first_given here n mask cards place places = option_map (λ (e : Exception). e.1) (cond here (Some (masked_exception n mask place)) (find (λ (e : Exception). set_index e.0 == set_index cards) (map (masked_exception n mask) places)))

alike : (n : ℕ) (one other : ℕ → ℕ) (cards places : List ℕ) → All (λ place. place < length (representatives n)) places → Alike n one other cards (given n one cards places) (given n other cards places)
alike n one other cards [] all = neither
alike n one other cards (place ∷ places) all =
    at (set_index (class_at n place) == set_index cards) refl (alike n one other cards places (All-tail (λ place. place < length (representatives n)) place places all))
  where
    at : (b : Bool) → (set_index (class_at n place) == set_index cards) ≡ b → Alike n one other cards (given n one cards places) (given n other cards places)
        → Alike n one other cards (first_given b n one cards place places) (first_given b n other cards place places)
    at true is more = both place (All-head (λ place. place < length (representatives n)) place places all) (eqb-true _ _ is)
    at false is more = more

-- ---- what lists are charged

module _ (table : PayTable) (coin : ℕ) (rules : List Rule) (mask : ℕ → ℕ) (big : 52 ≤ table.deck) (low : (place : ℕ) → mask place < 32) where
  abbrev best_mask : ℕ → ℕ
  best_mask place = least_best table coin (class_at table.deck place)

  abbrev charge : List ℕ → List ℕ → Option ℕ → ℕ
  charge stands cards given = charged least table coin rules stands cards given (deciding table rules cards)

  charge_less : (stands cards : List ℕ) (one other : Option ℕ) → IsDeal table.deck stands → Alike table.deck mask best_mask stands one other → charge stands cards one ≤ charge stands cards other
  charge_less stands cards _ _ is neither = omega arith
  charge_less stands cards _ _ is (both place inside same) =
      let class : class_at table.deck place ≡ stands = sym (deal_at table.deck (class_at table.deck place) (class_is table.deck place inside).0) ∙ ap (deal table.deck) same ∙ deal_at table.deck stands is in
      let top : value table coin stands (best_mask place) ≡ best table coin stands = ap (λ (x : List ℕ). value table coin stands (least_best table coin x)) class ∙ least_best_value table coin stands in
      omega (arith, top, value_le_best table coin stands (mask place) (low place))

module _ (table : PayTable) (coin : ℕ) (pool : RulePool) (order places : List ℕ) (mask : ℕ → ℕ) (big : 52 ≤ table.deck) (inside : All (λ place. place < length (representatives table.deck)) places) (low : (place : ℕ) → mask place < 32) where
  value_less : (cards : List ℕ) → IsDeal table.deck cards → least_value table coin (masked_list table pool order places mask) cards ≤ least_value table coin (compiled_list table coin pool order places) cards
  unfolding least_value excepted
  value_less cards is =
      charge_less table coin (ordered pool.rules order) mask big low (representative cards) cards _ _ (representative_deal table.deck cards big is)
      (alike table.deck mask (λ place. least_best table coin (class_at table.deck place)) (representative cards) places inside)

  pub best_lose_least : loss table coin (compiled_list table coin pool order places) ≤ loss table coin (masked_list table pool order places mask)
  unfolding loss
  best_lose_least = omega (arith, sum_more table.deck (least_value table coin (masked_list table pool order places mask)) (least_value table coin (compiled_list table coin pool order places)) value_less)
