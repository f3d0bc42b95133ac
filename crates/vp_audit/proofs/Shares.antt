-- The least values are at most the best ones, the loss is their difference, and the tallies share out the deals and the loss.
use Rattle.std.proofs.Common.{◌≡◌, inl, inr, ℕ, zero, suc, ◌+◌, ◌*◌, ◌<◌, ◌≤◌, Bool, true, false, List, [], ◌∷◌, length, refl, ap, ◌∙◌, arith, subst, Some, None, Option}
use Rattle.std.specs.Prelude.{◌==◌, IfSome}
use Rattle.std.specs.List.{range_with_len, sum_by}
use Rattle.std.proofs.Math.Path.{fun_ext}
use Rattle.std.proofs.lemmas.Bool.{cases_eq}
use Rattle.std.proofs.lemmas.Bool.Decides.{nat_tests}
use Rattle.std.proofs.lemmas.List.Sums.{sum_by-cons}
use Rattle.vp_sets.specs.Sets.{choose, deck}
use Rattle.vp_sets.proofs.Decks.{length-deck}
use Rattle.vp_sets.proofs.Sublists.{length-combos, sum_by-map, sum_by-plus}
use Rattle.vp_sets.proofs.Sums.{sum_const}
use Rattle.vp_suit.specs.Classes.{representative, representatives}
use Rattle.vp_suit.proofs.ClassLaws.{representatives_only}
use Rattle.vp_suit.proofs.Deals.{sum_by_classes}
use Rattle.vp_pay.specs.declared.table.PayTable.{PayTable}
use Rattle.vp_draws.specs.Draws.{best, sum_of_best}
use Rattle.vp_draws.proofs.Chosen.{value_le_best}
use Rattle.vp_draws.proofs.Printed.{best_of_class}
use Rattle.vp_draws.proofs.TurnedValues.{best_by_classes}
use Rattle.vp_rule.specs.Lists.{RuleList}
use Rattle.vp_suit.specs.Laws.{deals}
use Rattle.vp_audit.specs.Audits.{audited, is_by, lost, only, tally}
use Rattle.vp_audit.specs.Laws.{DealsAreSharedOut, LeastAndLossAreTheBest, LeastIsAtMostTheBest, LossIsSharedOut}
use Rattle.vp_audit.specs.Sums.{worth}
use Rattle.vp_audit.specs.Values.{decided, deciding, excepted, least_value, same}
use Rattle.vp_audit.specs.declared.audited.Tally.{Tally}
use Rattle.vp_audit.specs.declared.priced.Decided.{Decided}
use Rattle.vp_audit.specs.declared.priced.Decided.TheVariants.{Except, ByRule, Nothing}
use Rattle.vp_audit.proofs.Charges.{excepted_small}
use Rattle.vp_audit.proofs.KeptValues.{least_value_kept, lost_kept}
use Rattle.vp_audit.proofs.LeastAllowed.{by_exception, by_nothing, ruled}
use Rattle.vp_audit.proofs.OrderLosses.{loss_is, parts}
use Rattle.vp_audit.proofs.SoFar.{decided_in}
use Rattle.vp_audit.proofs.SumsMore.{InList}

-- ---- one decision is one of all

-- a sum of nothing
sum_none : {X : Type 0} (f : X → ℕ) (xs : List X) → ((x : X) → f x ≡ 0) → sum_by f xs ≡ 0
sum_none f [] none = refl
sum_none f (x ∷ xs) none = omega (arith, sum_by-cons f x xs, none x, sum_none f xs none)

only_at : (b c : Bool) (n : ℕ) → b ≡ c → only b n ≡ only c n
only_at b c n is = ap (λ b. only b n) is

-- no place of the range is j
not_there : (a k j n : ℕ) → j < a → sum_by (λ i. only (i == j) n) (range_with_len a k) ≡ 0
not_there a zero j n l = refl
not_there a (suc k) j n l =
    let miss : (a == j) ≡ false = grind (arith, nat_tests) in
    let rest = not_there (a + 1) k j n (omega (arith, l)) in
    omega (arith, sum_by-cons (λ i. only (i == j) n) a (range_with_len (a + 1) k), only_at (a == j) false n miss, rest)

-- exactly one place of the range is j
one_there : (a k j n : ℕ) → a ≤ j → j < a + k → sum_by (λ i. only (i == j) n) (range_with_len a k) ≡ n
one_there a zero j n low high = absurd (omega (arith, low, high))
one_there a (suc k) j n low high = elim (cases_eq a j) [
  | inl here ↦
      let hit : (a == j) ≡ true = grind (arith, nat_tests) in
      let rest = not_there (a + 1) k j n (omega (arith, here)) in
      omega (arith, sum_by-cons (λ i. only (i == j) n) a (range_with_len (a + 1) k), only_at (a == j) true n hit, rest)
  | inr other ↦
      let miss : (a == j) ≡ false = grind (arith, nat_tests) in
      let rest = one_there (a + 1) k j n (omega (arith, low, other)) (omega (arith, high)) in
      omega (arith, sum_by-cons (λ i. only (i == j) n) a (range_with_len (a + 1) k), only_at (a == j) false n miss, rest)
]

-- what a number adds to the tallies of k rules
abbrev to_rules : Decided → ℕ → ℕ → ℕ
to_rules by n k = sum_by (λ i. only (same (ByRule i) by) n) (range_with_len 0 k)

-- a number goes to the tally of exactly one way
one_way : (by : Decided) (n k : ℕ) → InList by k → only (same Except by) n + to_rules by n k + only (same Nothing by) n ≡ n
one_way Except n k inside = omega (arith, sum_none (λ (i : ℕ). 0) (range_with_len 0 k) (λ i. refl))
one_way (ByRule j) n k inside = omega (arith, one_there 0 k j n (omega arith) (omega (arith, inside)))
one_way Nothing n k inside = omega (arith, sum_none (λ (i : ℕ). 0) (range_with_len 0 k) (λ i. refl))

-- ---- over all deals

module _ (table : PayTable) (list : RuleList) (f : List ℕ → ℕ) where
  -- what f gives for the deals that are so decided
  abbrev part : Decided → List (List ℕ) → ℕ
  part by xs = sum_by (λ cards. only (is_by table list by cards) (f cards)) xs

  abbrev rule_parts : List (List ℕ) → ℕ
  rule_parts xs = sum_by (λ i. part (ByRule i) xs) (range_with_len 0 (length list.rules))

  -- the parts of all deals are the whole
  shared : (xs : List (List ℕ)) → part Except xs + rule_parts xs + part Nothing xs ≡ sum_by f xs
  shared [] = omega (arith, sum_none (λ (i : ℕ). 0) (range_with_len 0 (length list.rules)) (λ i. refl))
  shared (x ∷ xs) =
      let rest = shared xs in
      let here = one_way (decided table list x) (f x) (length list.rules) (decided_in table list x) in
      let e = sum_by-cons (λ cards. only (is_by table list Except cards) (f cards)) x xs in
      let n = sum_by-cons (λ cards. only (is_by table list Nothing cards) (f cards)) x xs in
      let w = sum_by-cons f x xs in
      omega (arith, rest, here, e, n, w, more)
    where
      more : rule_parts (x ∷ xs) ≡ to_rules (decided table list x) (f x) (length list.rules) + rule_parts xs
      more =
          ap (λ (g : ℕ → ℕ). sum_by g (range_with_len 0 (length list.rules))) (fun_ext (λ i. sum_by-cons (λ cards. only (is_by table list (ByRule i) cards) (f cards)) x xs))
          ∙ sum_by-plus (λ i. only (same (ByRule i) (decided table list x)) (f x)) (λ i. part (ByRule i) xs) (range_with_len 0 (length list.rules))

pub deals_shared : DealsAreSharedOut
unfolding audited tally
deals_shared table coin list =
    let rules = sum_by-map (λ (t : Tally). t.deals) (λ i. tally table coin list (ByRule i)) (range_with_len 0 (length list.rules)) in
    let whole = shared table list (λ cards. 1) (deals table.deck) in
    let many : sum_by (λ (x : List ℕ). 1) (deals table.deck) ≡ length (deals table.deck) * 1 = sum_const 1 (deals table.deck) in
    let all = length-combos 5 (deck table.deck) ∙ ap (λ n. choose n 5) (length-deck table.deck) in
    omega (arith, rules, whole, many, all)

lost_total : (table : PayTable) (coin : ℕ) (list : RuleList) → 52 ≤ table.deck → worth (lost table coin list) (representatives table.deck) ≡ sum_by (lost table coin list) (deals table.deck)
lost_total table coin list big = sum_by_classes table.deck big (lost table coin list) (λ t cards l d. lost_kept table list big t coin cards l d)

pub loss_shared : LossIsSharedOut
unfolding audited tally
loss_shared table coin list bet valid =
    let big = bet.rules.known_deck.0 in
    let rules = sum_by-map (λ (t : Tally). t.loss) (λ i. tally table coin list (ByRule i)) (range_with_len 0 (length list.rules)) in
    let whole = shared table list (lost table coin list) (deals table.deck) in
    omega (arith, rules, whole, lost_total table coin list big, loss_is table coin list big valid)

pub worth_shared : LeastAndLossAreTheBest
worth_shared table coin list bet valid =
    let big = bet.rules.known_deck.0 in
    let least_total : worth (least_value table coin list) (representatives table.deck) ≡ sum_by (least_value table coin list) (deals table.deck) =
    sum_by_classes table.deck big (least_value table coin list) (λ t cards l d. least_value_kept table list big t coin cards l d) in
    let best_total : worth (best table coin) (representatives table.deck) ≡ sum_of_best table coin = best_by_classes coin table big in
    omega (arith, least_total, best_total, parts table coin list big valid (representatives table.deck) (representatives_only table.deck), loss_is table coin list big valid)

-- ---- one deal

pub least_at_most : LeastIsAtMostTheBest
least_at_most table coin list cards bet valid deal = at (excepted list.exceptions cards) refl (deciding table list.rules cards) refl
  where
    at : (mask : Option ℕ) → excepted list.exceptions cards ≡ mask → (place : Option ℕ) → deciding table list.rules cards ≡ place → least_value table coin list cards ≤ best table coin cards
    at (Some m) is place decides =
        let small : m < 32 = subst (λ (mask : Option ℕ). IfSome mask (λ m. m < 32)) is (excepted_small table.deck list.exceptions cards valid.exceptions) in
        let low = value_le_best table coin (representative cards) m small in
        omega (arith, (by_exception table coin list cards m is).least, low, best_of_class table coin cards bet.rules.known_deck.0 deal)
    at None none (Some k) is =
        let a = (ruled table coin list cards k none is).allowed in
        omega (arith, a.valued, value_le_best table coin cards a.mask a.low)
    at None none None is = omega (arith, (by_nothing table coin list cards none is).least, value_le_best table coin cards 0 (omega arith))
