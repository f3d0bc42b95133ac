-- The line asked for at a place.
use Rattle.std.proofs.Common.{◌≡◌, ℕ, ◌<◌, Bool, true, false, Option, Some, None, length, refl, ap, arith}
use Rattle.std.specs.Prelude.{if◌then◌else◌, nat_lt}
use Rattle.std.proofs.lemmas.Bool.Decides.{nat_tests}
use Rattle.vp_pay.specs.declared.table.PayTable.{PayTable}
use Rattle.vp_hits.specs.Hits.{often}
use Rattle.vp_hits.specs.Numbers.{asked_at}

pub asked_line : (table : PayTable) (i : ℕ) → i < length table.lines.items → asked_at table i ≡ Some i
unfolding asked_at
asked_line table i l = ap (λ (b : Bool). if b then Some i else None) (inside i (length table.lines.items) l)
  where
    inside : (i n : ℕ) → i < n → nat_lt i n ≡ true
    inside i n l = grind (arith, nat_tests)

pub asked_none : (table : PayTable) (i : ℕ) → i ≡ length table.lines.items → asked_at table i ≡ None
unfolding asked_at
asked_none table i e = ap (λ (b : Bool). if b then Some i else None) (past i (length table.lines.items) e)
  where
    past : (i n : ℕ) → i ≡ n → nat_lt i n ≡ false
    past i n e = grind (arith, nat_tests)

pub same_often : {t u : PayTable} {c d : ℕ} {o p : Option ℕ} → t ≡ u → c ≡ d → o ≡ p → often t c o ≡ often u d p
same_often e f g = rw (e, f, g) refl
