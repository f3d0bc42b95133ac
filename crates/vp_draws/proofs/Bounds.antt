-- Best values, and their sum over all deals, fit 64 bits.
use Rattle.std.proofs.Common.{ℕ, ◌*◌, ◌^◌, ◌<◌, ◌≤◌, List, arith}
use Rattle.std.proofs.Math.Nat.{mul-le-mul_left, mul-le-mul_right}
use Rattle.std.specs.List.{sum_by}
use Rattle.vp_card.specs.Cards.{IsDeck}
use Rattle.vp_sets.specs.Sets.{deck, combos, choose}
use Rattle.vp_sets.specs.Draws.{common}
use Rattle.vp_sets.proofs.Pascal.{choose_five}
use Rattle.vp_sets.proofs.Denominators.{common_small}
use Rattle.vp_sets.proofs.Holds.{Dealt}
use Rattle.vp_suit.proofs.TurnedDraws.{dealt_is}
use Rattle.vp_suit.proofs.Weighed.{deals_le}
use Rattle.vp_pay.specs.declared.table.PayTable.{PayTable}
use Rattle.vp_pay.specs.Table.{IsTable}
use Rattle.vp_draws.specs.Draws.{best, sum_of_best}
use Rattle.vp_draws.proofs.Values.{value_le, value_is}
use Rattle.vp_draws.proofs.Chosen.{best_le}

pub best_small : (table : PayTable) (coin : ℕ) (hand : List ℕ) → IsTable table → Dealt table.deck hand → best table coin hand ≤ 500000 * common table.deck
best_small table coin hand t d = best_le table coin hand (500000 * common table.deck) (λ mask l. rw (← value_is table coin hand mask) (value_le table coin hand mask t d))

pub best_fits : (table : PayTable) (coin : ℕ) (hand : List ℕ) → IsTable table → Dealt table.deck hand → best table coin hand < 2 ^ 64
best_fits table coin hand t d = omega (arith, best_small table coin hand t d, common_small table.deck t.known_deck)

-- the greatest payment for every deal of a deck fits
pub room : (n : ℕ) → IsDeck n → 500000 * common n * choose n 5 < 2 ^ 64
room n h =
    let x : 500000 * common n * choose n 5 ≤ 4280760000000 * choose n 5 = mul-le-mul_right (choose n 5) (omega (arith, common_small n h)) in
    omega (arith, choose_five n h.1)

pub sum_of_best_small : (table : PayTable) (coin : ℕ) → IsTable table → sum_of_best table coin ≤ 500000 * common table.deck * choose table.deck 5
unfolding sum_of_best
sum_of_best_small table coin t = deals_le table.deck (500000 * common table.deck) (best table coin) (λ cards d. best_small table coin cards t (dealt_is table.deck cards d))

pub sum_of_best_fits : (table : PayTable) (coin : ℕ) → IsTable table → sum_of_best table coin < 2 ^ 64
sum_of_best_fits table coin t = omega (arith, sum_of_best_small table coin t, room table.deck t.known_deck)

-- as the sum that it is
pub best_sum_fits : (table : PayTable) (coin : ℕ) → IsTable table → sum_by (best table coin) (combos 5 (deck table.deck)) < 2 ^ 64
unfolding sum_of_best
best_sum_fits table coin t = sum_of_best_fits table coin t

-- ---- the denominator of a return

-- whatever the bet, it is below 2 to the power of 64
pub denominator_fits : (n coin : ℕ) → IsDeck n → coin < 256 → choose n 5 * common n * coin < 2 ^ 64
denominator_fits n coin d l =
    let x : choose n 5 * common n ≤ 3162510 * common n = mul-le-mul_right (common n) (choose_five n d.1) in
    let y : choose n 5 * common n * coin ≤ choose n 5 * common n * 255 = mul-le-mul_left (choose n 5 * common n) (omega arith) in
    omega (arith, common_small n d)
