-- The means of the payments are the values of holds.
use Rattle.std.proofs.Common.{◌≡◌, ℕ, ◌+◌, ◌<◌, ◌≤◌, true, List, length, map, get_or, set, ap, sym, subst, ◌∙◌, arith, inl, inr}
use Rattle.std.specs.List.{range_with_len}
use Rattle.std.proofs.lemmas.Bool.{cases_eq}
use Rattle.std.proofs.lemmas.List.{ext_get_or, get_or-set_same, get_or-set_other, length-set}
use Rattle.std.proofs.lemmas.List.FromFn.{get_or-map-range_with_len, length-map-range_with_len}
use Rattle.vp_card.specs.Cards.{in_deck, IsHand}
use Rattle.vp_pay.specs.declared.table.PayTable.{PayTable}
use Rattle.vp_wild.specs.Payment.{pay}
use Rattle.vp_wild.specs.Kept.{Bet}
use Rattle.vp_draws.specs.Draws.{masks, total, value}
use Rattle.vp_count.specs.Table.{Table}
use Rattle.vp_hold.specs.Games.{IsGame}
use Rattle.vp_hold.specs.Means.{mean}
use Rattle.vp_hold.proofs.ScaledSums.{mean_of, of_sums}

of_bet : (bet : Bet) (table : PayTable) (coin : ℕ) (sums : Table) → record { table = table; coin = coin } ≡ bet → IsGame table coin sums → IsGame bet.table bet.coin sums
of_bet bet table coin sums e g = subst (λ (t : Bet). IsGame t.table t.coin sums) e g

-- the means of the payments are the values of the holds
pub value_told : (bet : Bet) (table : PayTable) (coin : ℕ) (sums : Table) (hand : List ℕ) (mask : ℕ)
    → record { table = table; coin = coin } ≡ bet → IsGame table coin sums → IsHand hand → in_deck bet.table.deck hand ≡ true → mean sums hand mask ≡ value bet.table bet.coin hand mask
unfolding total value
value_told bet table coin sums hand mask e g h d = mean_of bet.table.deck (pay bet.table bet.coin) sums hand mask (of_bet bet table coin sums e g).paid h d

pub in_game : (bet : Bet) (table : PayTable) (coin : ℕ) (sums : Table) (hand : List ℕ)
    → record { table = table; coin = coin } ≡ bet → IsGame table coin sums → in_deck bet.table.deck hand ≡ true → in_deck sums.size hand ≡ true
in_game bet table coin sums hand e g d = of_sums bet.table.deck (pay bet.table bet.coin) sums hand (of_bet bet table coin sums e g).paid d

-- ---- the values of all holds

-- the totals of 32 holds, of which those below n were made values
pub record ValuesBelow (worth of : ℕ → ℕ) (n : ℕ) (xs : List ℕ) : Type 0 where
  pub long : length xs ≡ 32
  pub done : (k : ℕ) → k < n → get_or xs k 0 ≡ worth k
  pub rest : (k : ℕ) → n ≤ k → k < 32 → get_or xs k 0 ≡ of k

pub values_more : (worth of : ℕ → ℕ) (n x : ℕ) (xs : List ℕ) → n < 32 → x ≡ worth n → ValuesBelow worth of n xs → ValuesBelow worth of (n + 1) (set xs n x)
values_more worth of n x xs small is before =
    let long : length xs ≡ 32 = before.long in
    record {
      long = length-set xs n x ∙ long;
      done = λ k l. elim (cases_eq k n) [
        | inl e ↦ ap (λ i. get_or (set xs n x) i 0) e ∙ get_or-set_same xs n x 0 (omega arith) ∙ is ∙ ap worth (sym e)
        | inr ne ↦ get_or-set_other xs n k x 0 ne ∙ before.done k (omega arith)
      ];
      rest = λ k l m. get_or-set_other xs n k x 0 (λ e. omega arith) ∙ before.rest k (omega arith) m;
    }

pub values_are : (worth of : ℕ → ℕ) (n : ℕ) (xs : List ℕ) → 32 ≤ n → ValuesBelow worth of n xs → xs ≡ map worth masks
unfolding masks
values_are worth of n xs all is =
    let long : length xs ≡ 32 = is.long in
    ext_get_or 0 xs (map worth (range_with_len 0 32)) (long ∙ sym (length-map-range_with_len worth 0 32))
    (λ i l. is.done i (omega arith) ∙ sym (get_or-map-range_with_len worth 0 32 i i 0 (omega arith) (omega arith)))

-- the value at the place of a mask
pub value_at : (worth : ℕ → ℕ) (mask : ℕ) (xs : List ℕ) → mask < 32 → xs ≡ map worth masks → get_or xs mask 0 ≡ worth mask
unfolding masks
value_at worth mask xs l is = ap (λ (s : List ℕ). get_or s mask 0) is ∙ get_or-map-range_with_len worth 0 32 mask mask 0 (omega arith) (omega arith)
