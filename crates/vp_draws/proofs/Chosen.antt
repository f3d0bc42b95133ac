-- The best hold of a hand, whatever reckons it.
use Rattle.std.proofs.Common.{◌≡◌, inl, inr, ℕ, zero, suc, ◌+◌, ◌<◌, ◌≤◌, List, refl, sym, subst, arith, add-one}
use Rattle.std.proofs.lemmas.Bool.{cases_lt}
use Rattle.vp_pay.specs.declared.table.PayTable.{PayTable}
use Rattle.vp_pay.specs.Table.{IsTable}
use Rattle.vp_sets.proofs.Holds.{Dealt}
use Rattle.vp_draws.specs.Draws.{IsPrinted, value, best, least_best}
use Rattle.vp_draws.specs.declared.best.Best.{Best}
use Rattle.vp_draws.proofs.Values.{value_mean}
use Rattle.vp_draws.proofs.Choice.{IsBestBelow, best_first, best_more, is_best, is_least_best}

-- there is a best of the masks up to n
record FoundBest (f : ℕ → ℕ) (n : ℕ) : Type 0 where
  pub found : Best
  pub is : IsBestBelow f n found

first_found : (f : ℕ → ℕ) → FoundBest f 1
first_found f = record { found = record { mask = 0; value = f 0; ties = 1 }; is = best_first f (f 0) refl }

one_more : (f : ℕ → ℕ) (n : ℕ) → FoundBest f n → FoundBest f (n + 1)
one_more f n b = elim (cases_lt b.found.value (f n)) [
  | inl l ↦ record {
    found = record { mask = n; value = f n; ties = 1 };
    is = best_more f n (f n) b.found _ b.is refl (λ h. refl) (λ h. absurd (omega arith)) (λ h. absurd (omega arith));
  }
  | inr l ↦ elim (cases_lt (f n) b.found.value) [
    | inl m ↦ record { found = b.found; is = best_more f n (f n) b.found _ b.is refl (λ h. absurd (omega arith)) (λ h. absurd (omega arith)) (λ h. refl) }
    | inr m ↦ record {
      found = record b.found { ties = b.found.ties + 1 };
      is = best_more f n (f n) b.found _ b.is refl (λ h. absurd (omega arith)) (λ h. refl) (λ h. absurd (omega arith));
    }
  ]
]

all_found : (f : ℕ → ℕ) (n : ℕ) → FoundBest f (suc n)
all_found f zero = first_found f
all_found f (suc n) = subst (λ k. FoundBest f k) (add-one (suc n)) (one_more f (suc n) (all_found f n))

-- the best of the masks by the values that f gives
record IsBestHold (f : ℕ → ℕ) (mask top : ℕ) : Type 0 where
  pub small : mask < 32
  pub value : f mask ≡ top
  pub greatest : (other : ℕ) → other < 32 → f other ≤ top
  pub least : (other : ℕ) → other < mask → f other < top

best_hold : (table : PayTable) (coin : ℕ) (hand : List ℕ) → IsBestHold (value table coin hand) (least_best table coin hand) (best table coin hand)
best_hold table coin hand =
    let b : FoundBest (value table coin hand) 32 = all_found (value table coin hand) 31 in
    let mask : b.found.mask ≡ least_best table coin hand = is_least_best table coin hand 32 b.found refl b.is in
    let top : b.found.value ≡ best table coin hand = is_best table coin hand 32 b.found refl b.is in
    rw (← mask, ← top) (record { small = b.is.hold; value = sym b.is.value; greatest = b.is.greatest; least = b.is.least })

pub least_best_small : (table : PayTable) (coin : ℕ) (hand : List ℕ) → least_best table coin hand < 32
least_best_small table coin hand = (best_hold table coin hand).small

pub least_best_value : (table : PayTable) (coin : ℕ) (hand : List ℕ) → value table coin hand (least_best table coin hand) ≡ best table coin hand
least_best_value table coin hand = (best_hold table coin hand).value

pub value_le_best : (table : PayTable) (coin : ℕ) (hand : List ℕ) (mask : ℕ) → mask < 32 → value table coin hand mask ≤ best table coin hand
value_le_best table coin hand mask l = (best_hold table coin hand).greatest mask l

pub below_least_best : (table : PayTable) (coin : ℕ) (hand : List ℕ) (mask : ℕ) → mask < least_best table coin hand → value table coin hand mask < best table coin hand
below_least_best table coin hand mask l = (best_hold table coin hand).least mask l

-- what no hold exceeds, the best value does not
pub best_le : (table : PayTable) (coin : ℕ) (hand : List ℕ) (v : ℕ) → ((mask : ℕ) → mask < 32 → value table coin hand mask ≤ v) → best table coin hand ≤ v
best_le table coin hand v h = omega (arith, least_best_value table coin hand, h (least_best table coin hand) (least_best_small table coin hand))

-- the least best hold of a deal, as it is printed
pub printed : (table : PayTable) (coin : ℕ) (hand : List ℕ) → IsTable table → Dealt table.deck hand → IsPrinted table coin hand (least_best table coin hand) (best table coin hand)
printed table coin hand t d = record {
  hold = least_best_small table coin hand;
  worth = least_best_value table coin hand;
  mean = λ other l. value_mean table coin hand other t d;
  greatest = value_le_best table coin hand;
  least = below_least_best table coin hand;
}
