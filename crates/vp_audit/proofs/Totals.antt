-- The sums over all classes by weight are those over all deals.
use Rattle.std.proofs.Common.{◌≡◌, ℕ, ◌-◌, ◌≤◌, List, map, length, refl, ap, ◌∙◌}
use Rattle.std.specs.Prelude.{sum_by, count_by, not, ◌==◌}
use Rattle.std.specs.List.{range_with_len}
use Rattle.std.proofs.Math.Path.{fun_ext}
use Rattle.vp_suit.specs.Classes.{IsKept, representatives}
use Rattle.vp_suit.specs.Turns.{turn}
use Rattle.vp_suit.proofs.Deals.{sum_by_classes}
use Rattle.vp_pay.specs.declared.table.PayTable.{PayTable}
use Rattle.vp_draws.proofs.TurnedValues.{best_by_classes}
use Rattle.vp_rule.specs.Lists.{RuleList}
use Rattle.vp_suit.specs.Laws.{deals}
use Rattle.vp_audit.specs.Audits.{audited, is_ambiguous, is_by, loss, lost, only, tally}
use Rattle.vp_audit.specs.Sums.{sums_over, tally_over, worth}
use Rattle.vp_audit.specs.Values.{decided, greatest_value, least_value, same}
use Rattle.vp_audit.specs.declared.audited.Audited.{Audited}
use Rattle.vp_audit.specs.declared.audited.Tally.{Tally}
use Rattle.vp_audit.specs.declared.priced.Decided.{Decided}
use Rattle.vp_audit.specs.declared.priced.Decided.TheVariants.{Except, ByRule, Nothing}
use Rattle.vp_audit.specs.declared.sums.Sums.{Sums}
use Rattle.vp_audit.proofs.KeptValues.{decided_kept, greatest_value_kept, least_value_kept, lost_kept}

tally_is : (d1 d2 l1 l2 : ℕ) → d1 ≡ d2 → l1 ≡ l2 → ◌≡◌ {A = Tally} (record { deals = d1; loss = l1 }) (record { deals = d2; loss = l2 })
tally_is d1 d2 l1 l2 d l = rw (d, l) refl

-- what is made of the sums over all classes
abbrev pub made_of : Sums → Audited
made_of sums = record {
  optimum = sums.optimum;
  least = sums.least;
  greatest = sums.greatest;
  loss = sums.optimum - sums.least;
  ambiguous = sums.ambiguous;
  except = sums.except;
  rules = sums.rules;
  none = sums.none;
}

audited_is : (o1 o2 l1 l2 g1 g2 s1 s2 a1 a2 : ℕ) (e1 e2 n1 n2 : Tally) (r1 r2 : List Tally) → o1 ≡ o2 → l1 ≡ l2 → g1 ≡ g2 → s1 ≡ s2 → a1 ≡ a2 → e1 ≡ e2 → r1 ≡ r2 → n1 ≡ n2
    → ◌≡◌ {A = Audited} (record { optimum = o1; least = l1; greatest = g1; loss = s1; ambiguous = a1; except = e1; rules = record { items = r1 }; none = n1 })
    (record { optimum = o2; least = l2; greatest = g2; loss = s2; ambiguous = a2; except = e2; rules = record { items = r2 }; none = n2 })
audited_is o1 o2 l1 l2 g1 g2 s1 s2 a1 a2 e1 e2 n1 n2 r1 r2 o l g s a e r n = rw (o, l, g, s, a, e, r, n) refl

module _ (table : PayTable) (coin : ℕ) (list : RuleList) (big : 52 ≤ table.deck) where
  by_classes : (f : List ℕ → ℕ) → IsKept table.deck f → worth f (representatives table.deck) ≡ sum_by f (deals table.deck)
  by_classes f kept = sum_by_classes table.deck big f kept

  least_total : worth (least_value table coin list) (representatives table.deck) ≡ sum_by (least_value table coin list) (deals table.deck)
  least_total = by_classes (least_value table coin list) (λ t cards l d. least_value_kept table list big t coin cards l d)

  greatest_total : worth (greatest_value table coin list) (representatives table.deck) ≡ sum_by (greatest_value table coin list) (deals table.deck)
  greatest_total = by_classes (greatest_value table coin list) (λ t cards l d. greatest_value_kept table list big t coin cards l d)

  ambiguous_total : worth (λ cards. only (is_ambiguous table coin list cards) 1) (representatives table.deck) ≡ count_by (is_ambiguous table coin list) (deals table.deck)
  ambiguous_total =
      by_classes (λ cards. only (is_ambiguous table coin list cards) 1) (λ t cards l d.
      ap (λ (n : ℕ). only (not (n == greatest_value table coin list (turn t cards))) 1) (least_value_kept table list big t coin cards l d)
      ∙ ap (λ (n : ℕ). only (not (least_value table coin list cards == n)) 1) (greatest_value_kept table list big t coin cards l d))

  tally_total : (by : Decided) → tally_over table coin list (representatives table.deck) by ≡ tally table coin list by
  unfolding tally_over tally
  tally_total by =
      tally_is _ _ _ _
      (by_classes (λ cards. only (is_by table list by cards) 1) (λ t cards l d. ap (λ (o : Decided). only (same by o) 1) (decided_kept t table list cards big l d)))
      (by_classes (λ cards. only (is_by table list by cards) (lost table coin list cards)) (λ t cards l d.
      ap (λ (o : Decided). only (same by o) (lost table coin list (turn t cards))) (decided_kept t table list cards big l d)
      ∙ ap (λ (n : ℕ). only (same by (decided table list cards)) n) (lost_kept table list big t coin cards l d)))

  -- every number is that of the definition
  pub made_is : (sums : Sums) → sums ≡ sums_over table coin list (representatives table.deck) → made_of sums ≡ audited table coin list
  unfolding sums_over audited loss
  made_is sums is =
      let best_total = best_by_classes coin table big in
      ap (λ (s : Sums). made_of s) is
      ∙ audited_is _ _ _ _ _ _ _ _ _ _ _ _ _ _ _ _ best_total least_total greatest_total (rw (best_total, least_total) refl) ambiguous_total (tally_total Except)
      (ap (λ (f : ℕ → Tally). map f (range_with_len 0 (length list.rules))) (fun_ext (λ i. tally_total (ByRule i)))) (tally_total Nothing)
