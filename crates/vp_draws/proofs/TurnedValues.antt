-- Totals, values and best values of deals whose suits are turned.
use Rattle.std.proofs.Common.{◌≡◌, ℕ, ◌*◌, ◌^◌, ◌<◌, ◌≤◌, Option, List, length, ap, sym, subst, ◌∙◌, arith, sum_by}
use Rattle.vp_sets.specs.Draws.{discarded, scale, sum_over_draws}
use Rattle.vp_sets.specs.Sets.{combos, deck}
use Rattle.vp_pay.specs.declared.table.PayTable.{PayTable}
use Rattle.vp_suit.specs.Turns.{turn, carried}
use Rattle.vp_suit.specs.Classes.{IsDeal, IsKept, representative, representatives, weight}
use Rattle.vp_suit.proofs.Group.{inverse, inverse_inside}
use Rattle.vp_suit.proofs.Cards.{turn-length, turn_back}
use Rattle.vp_suit.proofs.Masks.{discarded_carried, carried_small}
use Rattle.vp_suit.proofs.Deals.{deal_rises, turned_deal, sum_by_classes}
use Rattle.vp_suit.proofs.TurnedDraws.{draws_turned}
use Rattle.vp_suit.proofs.CarriedBack.{carried_back}
use Rattle.vp_wild.specs.Payment.{line, pay}
use Rattle.vp_wild.proofs.SuitTurns.{line_kept, pay_kept}
use Rattle.vp_draws.specs.Draws.{total, total2, value, value2, best, sum_of_best}
use Rattle.vp_draws.proofs.Chosen.{value_le_best, best_le}

-- the sum over the draws of what is made of the payment, or of the pay line
pub payments_turned : (n t mask coin : ℕ) (table : PayTable) (g : ℕ → ℕ) (cards : List ℕ) → 52 ≤ n → t < 24 → IsDeal n cards
    → sum_over_draws (λ hand. g (pay table coin hand)) n (turn t cards) (carried t cards mask) ≡ sum_over_draws (λ hand. g (pay table coin hand)) n cards mask
payments_turned n t mask coin table g cards big l d = draws_turned (λ hand. g (pay table coin hand)) n t mask cards big l d (pay_kept n coin table g)

pub lines_turned : (n t mask : ℕ) (table : PayTable) (g : Option ℕ → ℕ) (cards : List ℕ) → 52 ≤ n → t < 24 → IsDeal n cards
    → sum_over_draws (λ hand. g (line table hand)) n (turn t cards) (carried t cards mask) ≡ sum_over_draws (λ hand. g (line table hand)) n cards mask
lines_turned n t mask table g cards big l d = draws_turned (λ hand. g (line table hand)) n t mask cards big l d (line_kept n table g)

-- the carried mask discards as many cards
pub discards_turned : (n t mask : ℕ) (cards : List ℕ) → t < 24 → IsDeal n cards → length (discarded (carried t cards mask) (turn t cards)) ≡ length (discarded mask cards)
discards_turned n t mask cards l d = ap (λ (x : List ℕ). length x) (discarded_carried t mask cards l (deal_rises n cards d)) ∙ turn-length t (discarded mask cards)

pub total_turned : (t mask coin : ℕ) (table : PayTable) (cards : List ℕ) → 52 ≤ table.deck → t < 24 → IsDeal table.deck cards
    → total table coin (turn t cards) (carried t cards mask) ≡ total table coin cards mask
unfolding total
total_turned t mask coin table cards big l d = payments_turned table.deck t mask coin table (λ p. p) cards big l d

pub value_turned : (t mask coin : ℕ) (table : PayTable) (cards : List ℕ) → 52 ≤ table.deck → t < 24 → IsDeal table.deck cards
    → value table coin (turn t cards) (carried t cards mask) ≡ value table coin cards mask
unfolding value
value_turned t mask coin table cards big l d =
    ap (λ k. total table coin (turn t cards) (carried t cards mask) * scale table.deck k) (discards_turned table.deck t mask cards l d)
    ∙ ap (λ m. m * scale table.deck (length (discarded mask cards))) (total_turned t mask coin table cards big l d)

pub total2_turned : (t mask coin : ℕ) (table : PayTable) (cards : List ℕ) → 52 ≤ table.deck → t < 24 → IsDeal table.deck cards
    → total2 table coin (turn t cards) (carried t cards mask) ≡ total2 table coin cards mask
unfolding total2
total2_turned t mask coin table cards big l d = payments_turned table.deck t mask coin table (λ p. p * p) cards big l d

pub value2_turned : (t mask coin : ℕ) (table : PayTable) (cards : List ℕ) → 52 ≤ table.deck → t < 24 → IsDeal table.deck cards
    → value2 table coin (turn t cards) (carried t cards mask) ≡ value2 table coin cards mask
unfolding value2
value2_turned t mask coin table cards big l d =
    ap (λ k. total2 table coin (turn t cards) (carried t cards mask) * scale table.deck k) (discards_turned table.deck t mask cards l d)
    ∙ ap (λ m. m * scale table.deck (length (discarded mask cards))) (total2_turned t mask coin table cards big l d)

-- no hold of a deal is worth more than the best hold of the turned deal
best_le_turned : (t coin : ℕ) (table : PayTable) (cards : List ℕ) → 52 ≤ table.deck → t < 24 → IsDeal table.deck cards → best table coin cards ≤ best table coin (turn t cards)
best_le_turned t coin table cards big l d =
    best_le table coin cards (best table coin (turn t cards)) (λ mask small.
    omega (arith, value_turned t mask coin table cards big l d, value_le_best table coin (turn t cards) (carried t cards mask) (carried_small t mask cards d.five)))

pub best_turned : (t coin : ℕ) (table : PayTable) (cards : List ℕ) → 52 ≤ table.deck → t < 24 → IsDeal table.deck cards → best table coin (turn t cards) ≡ best table coin cards
best_turned t coin table cards big l d =
    let there : IsDeal table.deck (turn t cards) = turned_deal table.deck t cards big l d in
    let back : turn (inverse t) (turn t cards) ≡ cards = turn_back t cards l (deal_rises table.deck cards d) in
    let low : best table coin cards ≤ best table coin (turn t cards) = best_le_turned t coin table cards big l d in
    let high : best table coin (turn t cards) ≤ best table coin cards =
    subst (λ (x : List ℕ). best table coin (turn t cards) ≤ best table coin x) back (best_le_turned (inverse t) coin table (turn t cards) big (inverse_inside t l) there) in
    omega arith

-- the best value is kept by turns, so it is summed by classes
pub best_kept : (coin : ℕ) (table : PayTable) → 52 ≤ table.deck → IsKept table.deck (best table coin)
best_kept coin table big t cards l d = best_turned t coin table cards big l d

pub best_by_classes : (coin : ℕ) (table : PayTable) → 52 ≤ table.deck → sum_by (λ cards. weight cards * best table coin cards) (representatives table.deck) ≡ sum_of_best table coin
unfolding sum_of_best
best_by_classes coin table big = sum_by_classes table.deck big (best table coin) (best_kept coin table big)

pub best_sum_is : (table : PayTable) (coin sum : ℕ) → sum ≡ sum_by (best table coin) (combos 5 (deck table.deck)) → sum ≡ sum_of_best table coin
unfolding sum_of_best
best_sum_is table coin sum is = is

-- a hold that is carried along to a best hold is a best hold
pub best_from : (t mask coin : ℕ) (table : PayTable) (cards : List ℕ) → 52 ≤ table.deck → t < 24 → IsDeal table.deck cards
    → value table coin (turn t cards) (carried t cards mask) ≡ best table coin (turn t cards) → value table coin cards mask ≡ best table coin cards
best_from t mask coin table cards big l d h = sym (value_turned t mask coin table cards big l d) ∙ h ∙ best_turned t coin table cards big l d

-- as the representative of the deal's class shows it
pub best_by_representative : (t mask coin : ℕ) (table : PayTable) (cards : List ℕ) → 52 ≤ table.deck → t < 24 → IsDeal table.deck cards → turn t cards ≡ representative cards
    → value table coin (representative cards) (carried t cards mask) ≡ best table coin (representative cards) → value table coin cards mask ≡ best table coin cards
best_by_representative t mask coin table cards big l d e h =
    best_from t mask coin table cards big l d (subst (λ (x : List ℕ). value table coin x (carried t cards mask) ≡ best table coin x) (sym e) h)

-- each mask is carried to from one
pub carried_from : (n t mask : ℕ) (cards : List ℕ) → t < 24 → IsDeal n cards → mask < 32 → (from : ℕ) × (from < 32) × (carried t cards from ≡ mask)
carried_from n t mask cards l d small =
    let five : length (turn t cards) ≡ 5 = turn-length t cards ∙ d.five in
    let low : mask < 2 ^ length cards = subst (λ k. mask < 2 ^ k) (sym d.five) small in
    (carried (inverse t) (turn t cards) mask, carried_small (inverse t) mask (turn t cards) five, carried_back t mask cards l (deal_rises n cards d) low)
