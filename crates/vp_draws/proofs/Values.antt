-- How large totals and values are.
use Rattle.std.proofs.Common.{◌≡◌, ℕ, ◌-◌, ◌*◌, ◌^◌, ◌<◌, ◌≤◌, List, length, refl, ap, ◌∙◌, arith}
use Rattle.std.proofs.Math.Nat.{mul-le-mul_right, mul_assoc, mul_comm}
use Rattle.vp_card.specs.Cards.{IsDeck}
use Rattle.vp_pay.specs.declared.table.PayTable.{PayTable}
use Rattle.vp_pay.specs.Table.{IsTable}
use Rattle.vp_wild.specs.Payment.{pay}
use Rattle.vp_sets.specs.Sets.{choose}
use Rattle.vp_sets.specs.Draws.{discarded, common, scale}
use Rattle.vp_sets.proofs.Binomials.{choose_small}
use Rattle.vp_sets.proofs.Denominators.{common_small, scale_exact}
use Rattle.vp_sets.proofs.Holds.{Dealt, length-held, length-draws, sum_over_draws_le}
use Rattle.vp_draws.specs.Draws.{IsMean, total, total2, value, value2}
use Rattle.vp_draws.proofs.Payments.{pay_le}

pub total_le : (table : PayTable) (coin : ℕ) (hand : List ℕ) (mask : ℕ) → IsTable table → Dealt table.deck hand
    → total table coin hand mask ≤ 500000 * choose (table.deck - 5) (length (discarded mask hand))
unfolding total
total_le table coin hand mask t d = sum_over_draws_le (pay table coin) 500000 table.deck hand mask d (λ h. pay_le table coin h t)

pub total_fits : (table : PayTable) (coin : ℕ) (hand : List ℕ) (mask : ℕ) → IsTable table → Dealt table.deck hand → total table coin hand mask < 2 ^ 64
total_fits table coin hand mask t d =
    let few : length (discarded mask hand) ≤ 5 = omega (arith, length-held mask hand, d.five) in
    omega (arith, total_le table coin hand mask t d, choose_small (table.deck - 5) (length (discarded mask hand)) (omega (arith, t.known_deck.1)) few)

-- a bound on a sum bounds what it is scaled to
pub scaled_le : (x m c s l : ℕ) → x ≤ m * c → s * c ≡ l → x * s ≤ m * l
scaled_le x m c s l h e =
    let p : x * s ≤ (m * c) * s = mul-le-mul_right s h in
    let q : (m * c) * s ≡ m * l = mul_assoc m c s ∙ ap (λ y. m * y) (mul_comm c s ∙ e) in
    rw q at p

pub value_le : (table : PayTable) (coin : ℕ) (hand : List ℕ) (mask : ℕ) → IsTable table → Dealt table.deck hand
    → total table coin hand mask * scale table.deck (length (discarded mask hand)) ≤ 500000 * common table.deck
value_le table coin hand mask t d =
    let k : ℕ = length (discarded mask hand) in
    let few : k ≤ 5 = omega (arith, length-held mask hand, d.five) in
    scaled_le _ 500000 (choose (table.deck - 5) k) (scale table.deck k) (common table.deck) (total_le table coin hand mask t d) (scale_exact table.deck k t.known_deck few)

pub value_fits : (table : PayTable) (coin : ℕ) (hand : List ℕ) (mask : ℕ) → IsTable table → Dealt table.deck hand
    → total table coin hand mask * scale table.deck (length (discarded mask hand)) < 2 ^ 64
value_fits table coin hand mask t d =
    omega (arith, value_le table coin hand mask t d, common_small table.deck t.known_deck)

pub value_is : (table : PayTable) (coin : ℕ) (hand : List ℕ) (mask : ℕ) → total table coin hand mask * scale table.deck (length (discarded mask hand)) ≡ value table coin hand mask
unfolding value
value_is table coin hand mask = refl

-- ---- means

-- what a sum over the draws is scaled to is their mean over the common denominator
pub scaled_mean : (n : ℕ) (hand : List ℕ) (mask sum : ℕ) → IsDeck n → Dealt n hand → IsMean n hand mask sum (sum * scale n (length (discarded mask hand)))
scaled_mean n hand mask sum deck d =
    let k : ℕ = length (discarded mask hand) in
    let few : k ≤ 5 = omega (arith, length-held mask hand, d.five) in
    let exact : scale n k * choose (n - 5) k ≡ common n = scale_exact n k deck few in
    rw (length-draws n hand mask d) (mul_assoc sum (scale n k) (choose (n - 5) k) ∙ ap (λ l. sum * l) exact)

-- the value over the common denominator is the total over the number of draws
pub value_mean : (table : PayTable) (coin : ℕ) (hand : List ℕ) (mask : ℕ) → IsTable table → Dealt table.deck hand
    → IsMean table.deck hand mask (total table coin hand mask) (value table coin hand mask)
unfolding value
value_mean table coin hand mask t d = scaled_mean table.deck hand mask (total table coin hand mask) t.known_deck d

pub value2_mean : (table : PayTable) (coin : ℕ) (hand : List ℕ) (mask : ℕ) → IsTable table → Dealt table.deck hand
    → IsMean table.deck hand mask (total2 table coin hand mask) (value2 table coin hand mask)
unfolding value2
value2_mean table coin hand mask t d = scaled_mean table.deck hand mask (total2 table coin hand mask) t.known_deck d

-- ---- squares

square_le : (p : ℕ) → p ≤ 500000 → p * p ≤ 250000000000
square_le p l =
    let x : p * p ≤ 500000 * p = mul-le-mul_right p l in
    omega arith

total2_le : (table : PayTable) (coin : ℕ) (hand : List ℕ) (mask : ℕ) → IsTable table → Dealt table.deck hand
    → total2 table coin hand mask ≤ 250000000000 * choose (table.deck - 5) (length (discarded mask hand))
unfolding total2
total2_le table coin hand mask t d =
    sum_over_draws_le (λ h. pay table coin h * pay table coin h) 250000000000 table.deck hand mask d (λ h. square_le (pay table coin h) (pay_le table coin h t))

pub value2_small : (table : PayTable) (coin : ℕ) (hand : List ℕ) (mask : ℕ) → IsTable table → Dealt table.deck hand
    → value2 table coin hand mask ≤ 250000000000 * common table.deck
unfolding value2
value2_small table coin hand mask t d =
    let k : ℕ = length (discarded mask hand) in
    let few : k ≤ 5 = omega (arith, length-held mask hand, d.five) in
    scaled_le _ 250000000000 (choose (table.deck - 5) k) (scale table.deck k) (common table.deck) (total2_le table coin hand mask t d) (scale_exact table.deck k t.known_deck few)

pub value2_fits : (table : PayTable) (coin : ℕ) (hand : List ℕ) (mask : ℕ) → IsTable table → Dealt table.deck hand → value2 table coin hand mask < 2 ^ 64
value2_fits table coin hand mask t d = omega (arith, value2_small table coin hand mask t d, common_small table.deck t.known_deck)
