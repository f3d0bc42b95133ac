-- The moments of several hands from one deal.
use Rattle.std.proofs.Common.{◌≡◌, ℕ, zero, suc, ◌+◌, ◌-◌, ◌*◌, ◌^◌, ◌<◌, ◌≤◌, List, length, ap, sym, subst, ◌∙◌, arith, refl}
use Rattle.std.specs.Prelude.{sum_by}
use Rattle.std.proofs.Math.Nat.{mul-le-mul_right}
use Rattle.vp_pay.specs.declared.table.PayTable.{PayTable}
use Rattle.vp_pay.specs.Table.{IsTable}
use Rattle.vp_sets.specs.Draws.{common, draws, sum_over_draws}
use Rattle.vp_suit.specs.Classes.{IsDeal}
use Rattle.vp_suit.proofs.TurnedDraws.{dealt_is}
use Rattle.vp_draws.specs.Draws.{IsPrintedHold, total, total2, value, value2}
use Rattle.vp_draws.proofs.Printed.{has_printed_hold}
use Rattle.vp_draws.proofs.Values.{value_mean, value2_mean}
use Rattle.vp_multi.specs.Moments.{AreMoments, paid, total_of, squares_of}
use Rattle.vp_multi.specs.Sums.{printed_square, squared_value, first_moment, second_moment}
use Rattle.vp_multi.proofs.Tuples.{total_is, squares_is, first_total, second_total, cancel, power_zero, power_suc}
use Rattle.vp_multi.proofs.Squares.{square_of_sum, le_cancel}
use Rattle.vp_multi.proofs.Printed.{printed_alike}
use Rattle.vp_sets.specs.Draws.{discarded}
use Rattle.vp_sets.proofs.Binomials.{choose_pos}
use Rattle.vp_sets.proofs.Holds.{length-draws, length-held}

-- the totals of a hold as sums over its draws
total_sum : (table : PayTable) (coin : ℕ) (cards : List ℕ) (mask : ℕ) → total table coin cards mask ≡ sum_by (paid table coin cards mask) (draws table.deck cards mask)
unfolding total sum_over_draws
total_sum table coin cards mask = refl

total2_sum : (table : PayTable) (coin : ℕ) (cards : List ℕ) (mask : ℕ) → total2 table coin cards mask ≡ sum_by (λ drawn. paid table coin cards mask drawn * paid table coin cards mask drawn) (draws table.deck cards mask)
unfolding total2 sum_over_draws
total2_sum table coin cards mask = refl

-- each hold has a draw
some_draw : (table : PayTable) (cards : List ℕ) (mask : ℕ) → IsTable table → IsDeal table.deck cards → 0 < length (draws table.deck cards mask)
some_draw table cards mask t d =
    let k : ℕ = length (discarded mask cards) in
    let few : k ≤ 5 = omega (arith, length-held mask cards, d.five) in
    rw (length-draws table.deck cards mask (dealt_is table.deck cards d)) (choose_pos (table.deck - 5) k (omega (arith, t.known_deck.0)))

power_pos : (q k : ℕ) → 0 < q → 0 < q ^ k
power_pos q zero pos = rw (power_zero q) (omega arith)
power_pos q (suc k) pos = (let a : 1 * q ≤ q ^ k * q = mul-le-mul_right q (power_pos q k pos) in omega (arith, a, power_suc q k))

means : (table : PayTable) (coin : ℕ) (cards : List ℕ) (mask : ℕ) → IsTable table → IsDeal table.deck cards
    → value table coin cards mask * length (draws table.deck cards mask) ≡ sum_by (paid table coin cards mask) (draws table.deck cards mask) * common table.deck
means table coin cards mask t d = value_mean table coin cards mask t (dealt_is table.deck cards d) ∙ ap (λ s. s * common table.deck) (total_sum table coin cards mask)

means2 : (table : PayTable) (coin : ℕ) (cards : List ℕ) (mask : ℕ) → IsTable table → IsDeal table.deck cards
    → value2 table coin cards mask * length (draws table.deck cards mask) ≡ sum_by (λ drawn. paid table coin cards mask drawn * paid table coin cards mask drawn) (draws table.deck cards mask) * common table.deck
means2 table coin cards mask t d = value2_mean table coin cards mask t (dealt_is table.deck cards d) ∙ ap (λ s. s * common table.deck) (total2_sum table coin cards mask)

pub moments_exist : (table : PayTable) (coin k : ℕ) (cards : List ℕ) (mask : ℕ) → IsTable table → IsDeal table.deck cards → IsPrintedHold table coin cards mask
    → AreMoments table coin k cards mask (first_moment table coin k cards) (second_moment table coin k cards)
unfolding first_moment second_moment squared_value
moments_exist table coin k cards mask t d p =
    let xs : List (List ℕ) = draws table.deck cards mask in
    let f : List ℕ → ℕ = paid table coin cards mask in
    let alike = printed_alike table coin cards mask t d p in
    record {
      mean =
          first_total (total_of f k xs) (sum_by f xs) (length xs) (length xs ^ k) k (common table.deck) (value table coin cards mask) (some_draw table cards mask t d) (total_is f k xs) (means table coin cards mask t d)
          ∙ ap (λ v. k * v * length xs ^ k) alike.0;
      square =
          second_total (squares_of f k xs) (sum_by (λ x. f x * f x) xs) (sum_by f xs) (length xs) (length xs ^ k) k (k * (k - 1)) (common table.deck) (value table coin cards mask) (value2 table coin cards mask)
          (some_draw table cards mask t d) (squares_is f k xs) (means table coin cards mask t d) (means2 table coin cards mask t d)
          ∙ ap (λ w. (k * w * common table.deck + k * (k - 1) * (value table coin cards mask * value table coin cards mask)) * length xs ^ k) alike.1
          ∙ ap (λ v. (k * printed_square table coin cards * common table.deck + k * (k - 1) * (v * v)) * length xs ^ k) alike.0;
    }

pub moments_are_unique : (table : PayTable) (coin k : ℕ) (cards : List ℕ) (mask first second : ℕ) → IsTable table → IsDeal table.deck cards → IsPrintedHold table coin cards mask
    → AreMoments table coin k cards mask first second → (first ≡ first_moment table coin k cards) × (second ≡ second_moment table coin k cards)
moments_are_unique table coin k cards mask first second t d p m =
    let is = moments_exist table coin k cards mask t d p in
    let q : ℕ = length (draws table.deck cards mask) in
    let pos : 0 < q ^ k = power_pos q k (some_draw table cards mask t d) in
    (cancel first (first_moment table coin k cards) (q ^ k) pos (sym m.mean ∙ is.mean), cancel second (second_moment table coin k cards) (q ^ k) pos (sym m.square ∙ is.square))

-- ---- the variance within the draws of a deal is not below 0

ring : (v q s l w u : ℕ) → v * q ≡ s * l → u * q ≡ w * l → v * v * (q * q) ≡ s * s * (l * l)
ring v q s l w u e f = left v q ∙ rw e (right s l)
  where
    left : (v q : ℕ) → v * v * (q * q) ≡ v * q * (v * q)
    left v q = omega arith

    right : (s l : ℕ) → s * l * (s * l) ≡ s * s * (l * l)
    right s l = omega arith

ring2 : (q l w u : ℕ) → u * q ≡ w * l → u * l * (q * q) ≡ q * w * (l * l)
ring2 q l w u f = left u l q ∙ rw f (right q w l)
  where
    left : (u l q : ℕ) → u * l * (q * q) ≡ q * l * (u * q)
    left u l q = omega arith

    right : (q w l : ℕ) → q * l * (w * l) ≡ q * w * (l * l)
    right q w l = omega arith

square_le_mean : (v q s l w u : ℕ) → 0 < q → s * s ≤ q * w → v * q ≡ s * l → u * q ≡ w * l → v * v ≤ u * l
square_le_mean v q s l w u pos c e f =
    let scaled : s * s * (l * l) ≤ q * w * (l * l) = mul-le-mul_right (l * l) c in
    let low = ring v q s l w u e f in
    let high = ring2 q l w u f in
    le_cancel (v * v) (u * l) (q * q) (grind arith) (omega arith)

pub within_fits : (table : PayTable) (coin : ℕ) (cards : List ℕ) → IsTable table → IsDeal table.deck cards → squared_value table coin cards ≤ printed_square table coin cards * common table.deck
unfolding squared_value
within_fits table coin cards t d =
    let hold = has_printed_hold table coin table.deck cards d in
    let mask : ℕ = hold.0 in
    let xs : List (List ℕ) = draws table.deck cards mask in
    let alike = printed_alike table coin cards mask t d hold.2 in
    let le : value table coin cards mask * value table coin cards mask ≤ value2 table coin cards mask * common table.deck =
    square_le_mean (value table coin cards mask) (length xs) (sum_by (paid table coin cards mask) xs) (common table.deck) (sum_by (λ x. paid table coin cards mask x * paid table coin cards mask x) xs) (value2 table coin cards mask)
    (some_draw table cards mask t d) (square_of_sum (paid table coin cards mask) xs) (means table coin cards mask t d) (means2 table coin cards mask t d) in
    subst (λ v. v * v ≤ printed_square table coin cards * common table.deck) alike.0 (subst (λ w. value table coin cards mask * value table coin cards mask ≤ w * common table.deck) alike.1 le)
