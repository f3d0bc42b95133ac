-- The games of all bets, one after the other.
use Rattle.std.proofs.Common.{◌≡◌, ℕ, zero, suc, ◌+◌, ◌-◌, ◌*◌, ◌<◌, ◌≤◌, List, [], ◌∷◌, ◌++◌, length, get_or, refl, ap, ◌∙◌, arith, Some, inl, inr, length-append}
use Rattle.std.specs.Prelude.{Option}
use Rattle.std.proofs.Math.Nat.{mul-le-mul_right}
use Rattle.std.proofs.lemmas.List.{map-append, get_or_append_left, get_or-append_right}
use Rattle.std.proofs.lemmas.Bool.{cases_lt}
use Rattle.vp_sets.specs.Sets.{deck}
use Rattle.vp_pay.specs.declared.table.PayTable.{PayTable}
use Rattle.vp_wild.specs.Kept.{Bet}
use Rattle.vp_replay.specs.Columns.{column, columns}

pub one_more : (column size : ℕ) → (column + 1) * size ≡ column * size + size
one_more column size = grind arith

pub column_fits : (column coins size : ℕ) → column < coins → column * size + size ≤ coins * size
column_fits column coins size below =
    let m : (column + 1) * size ≤ coins * size = mul-le-mul_right size (omega arith) in
    omega (arith, one_more column size)

pub no_column : (table : PayTable) → columns table 0 ≡ []
unfolding columns deck
no_column table = refl

next : (table : PayTable) (n : ℕ) → columns table (suc n) ≡ columns table n ++ Some (record { table = table; coin = n + 1 }) ∷ []
unfolding columns deck
next table n = map-append (column table) (deck n) (n ∷ [])

pub next_column : (table : PayTable) (n : ℕ) → columns table (n + 1) ≡ columns table n ++ Some (record { table = table; coin = n + 1 }) ∷ []
next_column table n = let s : n + 1 ≡ suc n = omega arith in ap (λ (m : ℕ). columns table m) s ∙ next table n

columns_count : (table : PayTable) (n : ℕ) → length (columns table n) ≡ n
columns_count table zero = rw (no_column table) refl
columns_count table (suc n) = omega (arith, ap length (next table n), length-append (columns table n) (Some (record { table = table; coin = n + 1 }) ∷ []), columns_count table n)

column_at : (table : PayTable) (n i : ℕ) (d : Option Bet) → i < n → get_or (columns table n) i d ≡ Some (record { table = table; coin = i + 1 })
column_at table zero i d below = absurd (omega arith)
column_at table (suc n) i d below =
    let count = columns_count table n in
    rw (next table n) (elim (cases_lt i n) [
      | inl before ↦ get_or_append_left (columns table n) (Some (record { table = table; coin = n + 1 }) ∷ []) d i (omega (arith, count)) ∙ column_at table n i d before
      | inr last ↦ let e : i ≡ n = omega arith in rw e (get_or-append_right (columns table n) (Some (record { table = table; coin = n + 1 }) ∷ []) n n d count (omega arith) ∙ (let z : n - n ≡ 0 = omega arith in rw z refl))
    ])

pub column_is : (table : PayTable) (row : List (Option Bet)) (n i : ℕ) (d : Option Bet) → row ≡ columns table n → i < n → get_or row i d ≡ Some (record { table = table; coin = i + 1 })
column_is table row n i d is below = rw is (column_at table n i d below)

pub column_inside : (table : PayTable) (row : List (Option Bet)) (n i : ℕ) → row ≡ columns table n → i < n → i < length row
column_inside table row n i is below = omega (arith, ap length is, columns_count table n)

pub count_is : (table : PayTable) (row : List (Option Bet)) (n : ℕ) → row ≡ columns table n → length row ≡ n
count_is table row n is = ap length is ∙ columns_count table n
