-- Sums over the classes so far have room for a class more.
use Rattle.std.proofs.Common.{◌≡◌, ℕ, ◌+◌, ◌-◌, ◌*◌, ◌<◌, ◌≤◌, ◌^◌, Bool, true, false, List, [], ◌∷◌, ◌++◌, map, length, refl, sym, ap, subst, ◌∙◌, arith, Option, lit≤, get_or}
use Rattle.std.specs.Prelude.{sum_by}
use Rattle.std.specs.List.{range_with_len}
use Rattle.std.proofs.Math.Nat.{mul-le-mul_left}
use Rattle.std.proofs.lemmas.List.{length-map}
use Rattle.std.proofs.lemmas.List.FromFn.{length-range_with_len}
use Rattle.std.proofs.lemmas.List.Sums.{sum_by-cons, sum_by-append, sum_by-le-sum_by}
use Rattle.vp_sets.specs.Sets.{choose}
use Rattle.vp_sets.proofs.Binomials.{choose_small}
use Rattle.vp_suit.proofs.Cover.{weights_of_all}
use Rattle.vp_suit.specs.Classes.{representatives, weight}
use Rattle.vp_pay.specs.declared.table.PayTable.{PayTable}
use Rattle.vp_pay.specs.Table.{IsTable}
use Rattle.vp_draws.specs.Draws.{best, sum_of_best}
use Rattle.vp_draws.proofs.Bounds.{sum_of_best_fits}
use Rattle.vp_draws.proofs.TurnedValues.{best_by_classes}
use Rattle.vp_rule.specs.Lists.{Exception, RuleList}
use Rattle.vp_audit.specs.Audits.{is_ambiguous, is_by, lost, only}
use Rattle.vp_audit.specs.Sums.{HasRoom, IsRoomy, no_tally, sums_over, tally_over, worth}
use Rattle.vp_audit.specs.declared.priced.Decided.{Decided}
use Rattle.vp_audit.specs.declared.priced.Decided.TheVariants.{Except, ByRule, Nothing}
use Rattle.vp_audit.specs.declared.audited.Tally.{Tally}
use Rattle.vp_audit.specs.declared.sums.Sums.{Sums}
use Rattle.vp_audit.proofs.SoFar.{SoFar}
use Rattle.vp_audit.proofs.SumsMore.{InList, nth_of, rule_tallies}

worth_part : (f : List ℕ → ℕ) (all seen left : List (List ℕ)) → all ≡ seen ++ left → worth f seen ≤ worth f all
worth_part f all seen left is = let a : worth f all ≡ worth f seen + worth f left = ap (worth f) is ∙ sum_by-append (λ cards. weight cards * f cards) seen left in omega (arith, a)

worth_le : (f g : List ℕ → ℕ) (seen : List (List ℕ)) → ((x : List ℕ) → f x ≤ g x) → worth f seen ≤ worth g seen
worth_le f g seen under = sum_by-le-sum_by (λ cards. weight cards * f cards) (λ cards. weight cards * g cards) seen (λ x. mul-le-mul_left (weight x) (under x))

only_le : (b : Bool) (n : ℕ) → only b n ≤ n
only_le true n = omega arith
only_le false n = omega arith

weighs_one : (xs : List (List ℕ)) → worth (λ x. 1) xs ≡ sum_by (λ r. weight r) xs
weighs_one [] = refl
weighs_one (x ∷ xs) =
    let rest = weighs_one xs in
    let a = sum_by-cons (λ (cards : List ℕ). weight cards * 1) x xs in
    let b = sum_by-cons (λ (r : List ℕ). weight r) x xs in
    omega (arith, rest, a, b)

module _ (table : PayTable) (coin : ℕ) (list : RuleList) (rules : IsTable table) where
  few_deals : worth (λ x. 1) (representatives table.deck) < 2 ^ 31
  few_deals =
      let n = table.deck in
      let whole = weights_of_all n rules.known_deck.0 in
      let small : choose n 5 ≤ 459165024 = choose_small n 5 (omega (arith, rules.known_deck.1)) (lit≤ tt) in
      omega (arith, weighs_one (representatives n), whole, small)

  small_optimum : worth (best table coin) (representatives table.deck) < 2 ^ 64
  small_optimum =
      let whole : worth (best table coin) (representatives table.deck) ≡ sum_of_best table coin = best_by_classes coin table rules.known_deck.0 in
      omega (arith, whole, sum_of_best_fits table coin rules)

  lost_le : (b : Bool) (x : List ℕ) → only b (lost table coin list x) ≤ best table coin x
  unfolding lost
  lost_le b x = omega (arith, only_le b (lost table coin list x))

  roomy : (seen left : List (List ℕ)) (by : Decided) → representatives table.deck ≡ seen ++ left → IsRoomy (tally_over table coin list seen by)
  unfolding tally_over
  roomy seen left by all =
      let d = worth_le (λ cards. only (is_by table list by cards) 1) (λ x. 1) seen (λ x. only_le (is_by table list by x) 1) in
      let l = worth_le (λ cards. only (is_by table list by cards) (lost table coin list cards)) (best table coin) seen (λ x. lost_le (is_by table list by x) x) in (
        omega (arith, d, worth_part (λ x. 1) (representatives table.deck) seen left all, few_deals),
        omega (arith, l, worth_part (best table coin) (representatives table.deck) seen left all, small_optimum),
      )

  module _ (left : List (List ℕ)) (ahead : Option Exception) (rest : List Exception) (sums : Sums) (first steps : ℕ) (so : SoFar table coin list left ahead rest sums first steps) where
    pub optimum_small : sums.optimum < 2 ^ 64
    unfolding sums_over
    optimum_small =
        let same : sums.optimum ≡ worth (best table coin) so.seen = ap (λ (s : Sums). s.optimum) so.sums_are in
        omega (arith, same, worth_part (best table coin) (representatives table.deck) so.seen left so.all, small_optimum)

    pub ambiguous_small : sums.ambiguous < 2 ^ 31
    unfolding sums_over
    ambiguous_small =
        let same : sums.ambiguous ≡ worth (λ cards. only (is_ambiguous table coin list cards) 1) so.seen = ap (λ (s : Sums). s.ambiguous) so.sums_are in
        let d = worth_le (λ cards. only (is_ambiguous table coin list cards) 1) (λ x. 1) so.seen (λ x. only_le (is_ambiguous table coin list x) 1) in
        omega (arith, same, d, worth_part (λ x. 1) (representatives table.deck) so.seen left so.all, few_deals)

    -- the tally of what decides a deal has room
    pub has_room : (by : Decided) → InList by (length list.rules) → HasRoom sums by
    unfolding sums_over
    has_room Except inside = subst (λ (s : Sums). IsRoomy s.except) (sym so.sums_are) (roomy so.seen left Except so.all)
    has_room Nothing inside = subst (λ (s : Sums). IsRoomy s.none) (sym so.sums_are) (roomy so.seen left Nothing so.all)
    has_room (ByRule k) inside =
        let low : k < length list.rules = inside in
        let f : ℕ → Tally = λ i. tally_over table coin list so.seen (ByRule i) in
        let tallies : sums.rules.items ≡ rule_tallies table coin list so.seen = ap (λ (s : Sums). s.rules.items) so.sums_are in
        let at : k - 0 ≡ k = omega arith in
        let told : get_or sums.rules.items k no_tally ≡ f k =
        ap (λ (ts : List Tally). get_or ts k no_tally) tallies ∙ (ap (λ (n : ℕ). get_or (map f (range_with_len 0 (length list.rules))) n no_tally) (sym at) ∙ nth_of no_tally f k 0 (length list.rules) (omega arith) (omega (arith, low))) in
        let many : length sums.rules.items ≡ length list.rules = ap length tallies ∙ (length-map (range_with_len 0 (length list.rules)) f ∙ length-range_with_len 0 (length list.rules)) in
        (omega (arith, low, many), subst (λ (t : Tally). IsRoomy t) (sym told) (roomy so.seen left (ByRule k) so.all))
