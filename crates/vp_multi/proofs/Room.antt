-- The moments out of the sums over all deals: they fit, and they are those that are meant.
use Rattle.std.proofs.Common.{◌≡◌, ℕ, ◌+◌, ◌-◌, ◌*◌, ◌^◌, ◌<◌, ◌≤◌, ap, sym, ◌∙◌, arith, refl}
use Rattle.std.specs.Prelude.{sum_by}
use Rattle.std.proofs.Math.Nat.{mul-le-mul_left, mul-le-mul_right}
use Rattle.vp_pay.specs.declared.table.PayTable.{PayTable}
use Rattle.vp_pay.specs.Table.{IsTable}
use Rattle.vp_sets.specs.Sets.{choose}
use Rattle.vp_sets.specs.Draws.{common}
use Rattle.vp_sets.proofs.Denominators.{common_small}
use Rattle.vp_draws.specs.Draws.{sum_of_best}
use Rattle.vp_draws.proofs.Bounds.{sum_of_best_fits}
use Rattle.vp_suit.specs.Laws.{deals}
use Rattle.vp_multi.specs.Room.{HasRoom}
use Rattle.vp_multi.specs.Sums.{ArePowerSums, printed_square, squared_value, mean_sum, second_sum, within_sum, between_sum}
use Rattle.vp_multi.proofs.DeckSums.{mean_is, second_is, within_is, between_fits, they_fit}

paid_fits : (s l : ℕ) → s < 2 ^ 83 → l ≤ 8561520 → s * l < 2 ^ 107
paid_fits s l h small =
    let x : s * l ≤ s * 8561520 = mul-le-mul_left s small in
    omega arith

times_hands : (k x : ℕ) → k ≤ 100 → k * x ≤ 100 * x
times_hands k x h = mul-le-mul_right x h

orders_fit : (k : ℕ) → k ≤ 100 → k * (k - 1) ≤ 9900
orders_fit k h =
    let x : k * (k - 1) ≤ 100 * (k - 1) = mul-le-mul_right (k - 1) h in
    omega arith

pairs_fit : (k q : ℕ) → k ≤ 100 → q < 2 ^ 106 → k * (k - 1) * q < 2 ^ 120
pairs_fit k q h small =
    let y : k * (k - 1) * q ≤ 9900 * q = mul-le-mul_right q (orders_fit k h) in
    omega arith

square_fits : (a : ℕ) → a < 2 ^ 64 → a * a < 2 ^ 128
square_fits a h =
    let x : a * a ≤ 18446744073709551615 * a = mul-le-mul_right a (omega arith) in
    omega arith

room_of : (a s q l n k w : ℕ) → a < 2 ^ 64 → s < 2 ^ 83 → q < 2 ^ 106 → n * q < 2 ^ 128 → l ≤ 8561520 → k ≤ 100 → w + q ≡ s * l → a * a ≤ n * q → HasRoom a s q l n k
room_of a s q l n k w a_fits s_fits q_fits nq_fits l_small few within between =
    let paid : s * l < 2 ^ 107 = paid_fits s l s_fits l_small in
    record {
      paid = paid;
      mean = omega (arith, times_hands k a few);
      first = omega (arith, times_hands k (s * l) few);
      orders = orders_fit k few;
      pairs = pairs_fit k q few q_fits;
      products = nq_fits;
      square = square_fits a a_fits;
      within = omega arith;
      between = between;
    }

pub has_room : (table : PayTable) (coin a s q l n k : ℕ) → IsTable table → k ≤ 100 → ArePowerSums table coin a s q → l ≡ common table.deck → n ≡ choose table.deck 5 → HasRoom a s q l n k
has_room table coin a s q l n k t few sums is_l is_n =
    let fit = they_fit table coin t in
    rw (sums.values, sums.squares, sums.squared_values, is_l, is_n)
    (room_of (sum_of_best table coin) (sum_by (printed_square table coin) (deals table.deck)) (sum_by (squared_value table coin) (deals table.deck)) (common table.deck) (choose table.deck 5) k (within_sum table coin)
    (sum_of_best_fits table coin t) fit.squares fit.squared fit.deals (common_small table.deck t.known_deck) few (within_is table coin t) (between_fits table coin))

pub mean_of : (table : PayTable) (coin k h a s q : ℕ) → h ≡ k → ArePowerSums table coin a s q → h * a ≡ mean_sum table coin k
mean_of table coin k h a s q e sums = rw (e, sums.values) (sym (mean_is table coin k))

pub second_of : (table : PayTable) (coin k h a s q l : ℕ) → h ≡ k → l ≡ common table.deck → ArePowerSums table coin a s q → h * (s * l) + h * (h - 1) * q ≡ second_sum table coin k
second_of table coin k h a s q l e is_l sums =
    ap (λ x. x + h * (h - 1) * q) (regroup h s l) ∙ rw (e, is_l, sums.squares, sums.squared_values) (sym (second_is table coin k))
  where
    regroup : (h s l : ℕ) → h * (s * l) ≡ h * s * l
    regroup h s l = omega arith

pub within_of : (table : PayTable) (coin a s q l : ℕ) → IsTable table → l ≡ common table.deck → ArePowerSums table coin a s q → s * l - q ≡ within_sum table coin
within_of table coin a s q l t is_l sums =
    let w = within_is table coin t in
    rw (is_l, sums.squares, sums.squared_values) (omega arith)

pub between_of : (table : PayTable) (coin a s q n : ℕ) → n ≡ choose table.deck 5 → ArePowerSums table coin a s q → n * q - a * a ≡ between_sum table coin
unfolding between_sum
between_of table coin a s q n is_n sums = rw (is_n, sums.squared_values, sums.values) refl
