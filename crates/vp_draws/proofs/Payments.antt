-- No payment is above 500000.
use Rattle.std.proofs.Common.{◌≡◌, ◌⊎◌, inl, inr, ℕ, ◌-◌, ◌<◌, ◌≤◌, Bool, true, false, cond, nat_le, Some, List, [], ◌∷◌, length, get_or, arith}
use Rattle.std.specs.List.{All, find, list_all}
use Rattle.std.specs.Option.{option_map_or}
use Rattle.std.proofs.lemmas.Bool.{cases_lt}
use Rattle.std.proofs.lemmas.Bool.Decides.{nat_tests}
use Rattle.std.proofs.lemmas.List.{get_or_past}
use Rattle.std.proofs.lemmas.List.Elements.{All-head, All-tail, All-get_or}
use Rattle.std.proofs.lemmas.List.Sums.{AllPass-from_list_all}
use Rattle.vp_pay.specs.declared.table.PayLine.{PayLine}
use Rattle.vp_pay.specs.declared.table.PayTable.{PayTable}
use Rattle.vp_pay.specs.Table.{IsTable, IsPayLine}
use Rattle.vp_wild.specs.Payment.{hits, pay}

-- a number of a list of payments
column_le : (pays : List ℕ) (i : ℕ) → list_all (λ p. nat_le p 500000) pays ≡ true → get_or pays i 0 ≤ 500000
column_le pays i h =
    let e : (i < length pays) ⊎ (length pays ≤ i) = cases_lt i (length pays) in
    elim e [
      | inl l ↦ let t : nat_le (get_or pays i 0) 500000 ≡ true = All-get_or (λ p. nat_le p 500000 ≡ true) pays i 0 l (AllPass-from_list_all (λ p. nat_le p 500000) pays h) in grind (arith, nat_tests)
      | inr l ↦ let z : get_or pays i 0 ≡ 0 = get_or_past pays i 0 l in omega arith
    ]

found_le : (coins i : ℕ) (test : PayLine → Bool) (lines : List PayLine) → All (IsPayLine coins) lines
    → option_map_or (λ l. get_or l.pays i 0) (find test lines) 0 ≤ 500000
found_le coins i test [] h = omega arith
found_le coins i test (l ∷ lines) h =
    elim (test l) as (λ v. option_map_or (λ m. get_or m.pays i 0) (cond v (Some l) (find test lines)) 0 ≤ 500000) [
      | true ↦ let first : IsPayLine coins l = All-head (IsPayLine coins) l lines h in column_le l.pays i first.pays.within
      | false ↦ found_le coins i test lines (All-tail (IsPayLine coins) l lines h)
    ]

pub pay_le : (table : PayTable) (coin : ℕ) (hand : List ℕ) → IsTable table → pay table coin hand ≤ 500000
unfolding pay
pay_le table coin hand h = found_le table.coins (coin - 1) (λ l. hits table.wild l hand) table.lines.items h.lines
