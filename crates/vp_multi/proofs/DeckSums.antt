-- Sums over all deals: what they are made of, and that they fit.
use Rattle.std.proofs.Common.{◌≡◌, ℕ, ◌+◌, ◌-◌, ◌*◌, ◌^◌, ◌<◌, ◌≤◌, List, [], ◌∷◌, length, ap, sym, subst, ◌∙◌, arith}
use Rattle.std.specs.Prelude.{sum_by}
use Rattle.std.proofs.Math.Nat.{mul-le-mul_left, mul-le-mul_right}
use Rattle.std.proofs.lemmas.List.Sums.{sum_by-cons}
use Rattle.vp_pay.specs.declared.table.PayTable.{PayTable}
use Rattle.vp_pay.specs.Table.{IsTable}
use Rattle.vp_sets.specs.Sets.{choose, deck}
use Rattle.vp_sets.specs.Draws.{common}
use Rattle.vp_sets.proofs.Decks.{length-deck}
use Rattle.vp_sets.proofs.Denominators.{common_small}
use Rattle.vp_sets.proofs.Sublists.{length-combos, sum_by-plus}
use Rattle.vp_sets.proofs.Sums.{sum_of_times, sum_times}
use Rattle.vp_suit.specs.Classes.{representative}
use Rattle.vp_suit.proofs.ClassLaws.{representative_deal}
use Rattle.vp_suit.proofs.TurnedDraws.{dealt_is}
use Rattle.vp_suit.proofs.Weighed.{deals_agree, deals_le}
use Rattle.vp_draws.specs.Draws.{best, least_best, sum_of_best}
use Rattle.vp_draws.proofs.Bounds.{best_small, room}
use Rattle.vp_draws.proofs.Values.{value2_small}
use Rattle.vp_suit.specs.Laws.{deals}
use Rattle.vp_multi.specs.Sums.{printed_square, squared_value, first_moment, second_moment, variance_within, mean_sum, second_sum, within_sum, between_sum}
use Rattle.vp_multi.proofs.Tuples.{parts_law}
use Rattle.vp_multi.proofs.Squares.{square_of_sum}
use Rattle.vp_multi.proofs.DealMoments.{within_fits}

-- ---- sums over lists

sum_two : {A : Type 0} (f g : A → ℕ) (k l j : ℕ) (xs : List A) → sum_by (λ x. k * f x * l + j * g x) xs ≡ k * sum_by f xs * l + j * sum_by g xs
sum_two f g k l j [] = omega arith
sum_two f g k l j (x ∷ xs) =
    sum_by-cons (λ x. k * f x * l + j * g x) x xs
    ∙ ap (λ n. k * f x * l + j * g x + n) (sum_two f g k l j xs)
    ∙ gather k l j (f x) (sum_by f xs) (g x) (sum_by g xs)
    ∙ ap (λ n. k * n * l + j * (g x + sum_by g xs)) (sym (sum_by-cons f x xs))
    ∙ ap (λ n. k * sum_by f (x ∷ xs) * l + j * n) (sym (sum_by-cons g x xs))
  where
    gather : (k l j a s b t : ℕ) → k * a * l + j * b + (k * s * l + j * t) ≡ k * (a + s) * l + j * (b + t)
    gather k l j a s b t = omega arith

-- ---- what the moments are made of

pub mean_is : (table : PayTable) (coin k : ℕ) → mean_sum table coin k ≡ k * sum_of_best table coin
unfolding mean_sum first_moment sum_of_best
mean_is table coin k = sym (sum_times k (best table coin) (deals table.deck))

pub second_is : (table : PayTable) (coin k : ℕ) → second_sum table coin k ≡ k * sum_by (printed_square table coin) (deals table.deck) * common table.deck + k * (k - 1) * sum_by (squared_value table coin) (deals table.deck)
unfolding second_sum second_moment
second_is table coin k = sum_two (printed_square table coin) (squared_value table coin) k (common table.deck) (k * (k - 1)) (deals table.deck)

parts_of_one : (table : PayTable) (coin : ℕ) (cards : List ℕ) → squared_value table coin cards ≤ printed_square table coin cards * common table.deck
    → variance_within table coin cards + squared_value table coin cards ≡ printed_square table coin cards * common table.deck
unfolding variance_within
parts_of_one table coin cards le = omega (arith, le)

pub within_is : (table : PayTable) (coin : ℕ) → IsTable table
    → within_sum table coin + sum_by (squared_value table coin) (deals table.deck) ≡ sum_by (printed_square table coin) (deals table.deck) * common table.deck
unfolding within_sum
within_is table coin t =
    sym (sum_by-plus (variance_within table coin) (squared_value table coin) (deals table.deck))
    ∙ deals_agree table.deck (λ cards. variance_within table coin cards + squared_value table coin cards) (λ cards. printed_square table coin cards * common table.deck)
    (λ cards d. parts_of_one table coin cards (within_fits table coin cards t d))
    ∙ sum_of_times (printed_square table coin) (common table.deck) (deals table.deck)

pub between_fits : (table : PayTable) (coin : ℕ) → sum_of_best table coin * sum_of_best table coin ≤ choose table.deck 5 * sum_by (squared_value table coin) (deals table.deck)
unfolding sum_of_best squared_value
between_fits table coin =
    let many : length (deals table.deck) ≡ choose table.deck 5 = length-combos 5 (deck table.deck) ∙ ap (λ m. choose m 5) (length-deck table.deck) in
    subst (λ m. sum_by (best table coin) (deals table.deck) * sum_by (best table coin) (deals table.deck) ≤ m * sum_by (λ cards. best table coin cards * best table coin cards) (deals table.deck)) many (square_of_sum (best table coin) (deals table.deck))

pub variance_has_two_parts : (table : PayTable) (coin k : ℕ) → IsTable table
    → choose table.deck 5 * second_sum table coin k ≡ mean_sum table coin k * mean_sum table coin k + (k * (choose table.deck 5 * within_sum table coin) + k * k * between_sum table coin)
unfolding between_sum
variance_has_two_parts table coin k t =
    let n : ℕ = choose table.deck 5 in
    let a : ℕ = sum_of_best table coin in
    let s : ℕ = sum_by (printed_square table coin) (deals table.deck) in
    let q : ℕ = sum_by (squared_value table coin) (deals table.deck) in
    let l : ℕ = common table.deck in
    let inside : within_sum table coin ≡ s * l - q = omega (arith, within_is table coin t) in
    rw (mean_is table coin k, second_is table coin k, inside) (parts_law n k a s q l (omega (arith, within_is table coin t)) (between_fits table coin))

-- ---- they fit

pub record TheyFit (n s q : ℕ) : Type 0 where
  pub squares : s < 2 ^ 83
  pub squared : q < 2 ^ 106
  pub deals : n * q < 2 ^ 128

squares_le : (table : PayTable) (coin : ℕ) → IsTable table → sum_by (printed_square table coin) (deals table.deck) ≤ 250000000000 * common table.deck * choose table.deck 5
unfolding printed_square
squares_le table coin t =
    deals_le table.deck (250000000000 * common table.deck) (printed_square table coin) (λ cards d.
    value2_small table coin (representative cards) (least_best table coin (representative cards)) t (dealt_is table.deck (representative cards) (representative_deal table.deck cards t.known_deck.0 d)))

square_le : (b m : ℕ) → b ≤ m → b * b ≤ m * m
square_le b m l =
    let x : b * b ≤ m * b = mul-le-mul_right b l in
    let y : m * b ≤ m * m = mul-le-mul_left m l in
    omega arith

squared_le : (table : PayTable) (coin : ℕ) → IsTable table → sum_by (squared_value table coin) (deals table.deck) ≤ 500000 * common table.deck * (500000 * common table.deck) * choose table.deck 5
unfolding squared_value
squared_le table coin t =
    deals_le table.deck (500000 * common table.deck * (500000 * common table.deck)) (squared_value table coin) (λ cards d.
    square_le (best table coin cards) (500000 * common table.deck) (best_small table coin cards t (dealt_is table.deck cards d)))

pub they_fit : (table : PayTable) (coin : ℕ) → IsTable table → TheyFit (choose table.deck 5) (sum_by (printed_square table coin) (deals table.deck)) (sum_by (squared_value table coin) (deals table.deck))
they_fit table coin t = fit (common table.deck) (choose table.deck 5) _ _ (common_small table.deck t.known_deck) (room table.deck t.known_deck) (squares_le table coin t) (squared_le table coin t)
  where
    regroup : (x n : ℕ) → x * x * n ≡ x * (x * n)
    regroup x n = omega arith

    spread : (x n : ℕ) → n * (x * x * n) ≡ x * n * (x * n)
    spread x n = omega arith

    halves : (l n : ℕ) → 250000000000 * l * n ≡ 500000 * (500000 * l * n)
    halves l n = omega arith

    deals_fit : (y : ℕ) → y < 2 ^ 64 → y * y < 2 ^ 128
    deals_fit y h =
        let a : y * y ≤ 18446744073709551615 * y = mul-le-mul_right y (omega arith) in
        omega arith

    squared_fit : (x n : ℕ) → x ≤ 4280760000000 → x * n < 2 ^ 64 → x * x * n < 2 ^ 106
    squared_fit x n small rm =
        let a : x * (x * n) ≤ 4280760000000 * (x * n) = mul-le-mul_right (x * n) small in
        let b : 4280760000000 * (x * n) ≤ 4280760000000 * 18446744073709551615 = mul-le-mul_left {n = 18446744073709551615} 4280760000000 (omega arith) in
        omega (arith, regroup x n, a, b)

    fit : (l n s q : ℕ) → l ≤ 8561520 → 500000 * l * n < 2 ^ 64 → s ≤ 250000000000 * l * n → q ≤ 500000 * l * (500000 * l) * n → TheyFit n s q
    fit l n s q small rm sl ql = record {
      squares = omega (arith, halves l n);
      squared = (let a = squared_fit (500000 * l) n (omega arith) rm in omega (arith, a));
      deals = (let a : n * q ≤ n * (500000 * l * (500000 * l) * n) = mul-le-mul_left n ql in omega (arith, a, spread (500000 * l) n, deals_fit (500000 * l * n) rm));
    }
