-- The settled order, exchange by exchange.
use Rattle.std.proofs.Common.{◌≡◌, ℕ, zero, suc, ◌+◌, ◌-◌, ◌<◌, ◌≤◌, Bool, false, List, length, Option, Some, None, refl, arith, add-one, sym, subst}
use Rattle.std.proofs.lemmas.Bool.{ltb-true, lt-ltb, le-ltb}
use Rattle.vp_compile.specs.Rows.{Row, order_loss}
use Rattle.vp_compile.specs.Matrices.{IsOrder}
use Rattle.vp_compile.specs.Orders.{exchange, lowers, first_place, first_lower, settled, IsSettled}
use Rattle.vp_compile.specs.Laws.{AreFirstLower}
use Rattle.vp_compile.proofs.FirstLower.{none_at_first, none_more, found, first_passes, is_settled, lower, settled_goes, settled_stays}
use Rattle.vp_compile.proofs.OrderLaws.{order_kept_at}

by_first : (rows : List Row) (order : List ℕ) (o : Option ℕ) → first_lower rows order ≡ o → IsSettled rows order → settled rows order ≡ order
unfolding first_lower lowers
by_first rows order None e s = settled_stays rows order e
by_first rows order (Some k) e s =
    let p = first_passes (lowers rows order) (length order - 1) k e in
    absurd (omega (arith, p.0, ltb-true _ _ p.1, s k (omega (arith, p.0))))

pub settled_stay : (rows : List Row) (order : List ℕ) → IsSettled rows order → settled rows order ≡ order
settled_stay rows order s = by_first rows order (first_lower rows order) refl s

none_before : (test : ℕ → Bool) (n : ℕ) → ((k : ℕ) → k < n → test k ≡ false) → first_place test n ≡ None
none_before test zero h = none_at_first test
none_before test (suc n) h = rw (← add-one) (none_more test n (none_before test n (λ k l. h k (omega arith))) (h n (omega arith)))

pub first_are_exchanged : (rows : List Row) (order : List ℕ) (place : ℕ) → AreFirstLower rows order place → settled rows order ≡ settled rows (exchange order place)
unfolding first_lower lowers
first_are_exchanged rows order place f =
    settled_goes rows order place
    (found (lowers rows order) place (length order - 1) (none_before (lowers rows order) place (λ k l. le-ltb _ _ (f.first k l))) (lt-ltb _ _ f.lower) (omega (arith, f.within)))

-- an order of all rules that no exchange of neighbours lowers
abbrev IsLast : List Row → ℕ → List ℕ → Type 0
IsLast rows rules order = IsOrder rules order × IsSettled rows order

inside : (rows : List Row) (order : List ℕ) (k : ℕ) → first_lower rows order ≡ Some k → k + 1 < length order
unfolding first_lower
inside rows order k e = omega (arith, (first_passes (lowers rows order) (length order - 1) k e).0)

module _ (rows : List Row) (rules : ℕ) where
  ends_at : (order : List ℕ) → first_lower rows order ≡ None → IsOrder rules order → IsLast rows rules (settled rows order)
  ends_at order e is = subst (IsLast rows rules) (sym (settled_stays rows order e)) (is, is_settled rows order e)

  ends_within : (n : ℕ) (order : List ℕ) (o : Option ℕ) → first_lower rows order ≡ o → order_loss rows order ≤ n → IsOrder rules order → IsLast rows rules (settled rows order)
  ends_within n order None e low is = ends_at order e is
  ends_within zero order (Some k) e low is = absurd (omega (arith, lower rows order k e))
  ends_within (suc n) order (Some k) e low is =
      subst (IsLast rows rules) (sym (settled_goes rows order k e))
      (ends_within n (exchange order k) (first_lower rows (exchange order k)) refl (omega (arith, lower rows order k e)) (order_kept_at rules order (exchange order k) k refl is (inside rows order k e)))

  -- exchanges end with such an order
  pub settled_last : (order : List ℕ) → IsOrder rules order → IsOrder rules (settled rows order) × IsSettled rows (settled rows order)
  settled_last order is = ends_within (order_loss rows order) order (first_lower rows order) refl (omega arith) is
