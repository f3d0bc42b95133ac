-- The printed holds of a deal are alike: they have the value and the mean square of the representative's least best hold.
use Rattle.std.proofs.Common.{◌≡◌, ℕ, ◌*◌, ◌≤◌, List, ap, sym}
use Rattle.vp_pay.specs.declared.table.PayTable.{PayTable}
use Rattle.vp_pay.specs.Table.{IsTable}
use Rattle.vp_suit.specs.Classes.{IsDeal, IsKept, representative}
use Rattle.vp_suit.proofs.ClassLaws.{representative_kept}
use Rattle.vp_draws.specs.Draws.{IsPrintedHold, best, least_best, value, value2}
use Rattle.vp_draws.proofs.Printed.{at_printed, printed_best}
use Rattle.vp_draws.proofs.TurnedValues.{value2_turned, best_turned}
use Rattle.vp_multi.specs.Sums.{printed_square, squared_value}

pub printed_alike : (table : PayTable) (coin : ℕ) (cards : List ℕ) (mask : ℕ) → IsTable table → IsDeal table.deck cards → IsPrintedHold table coin cards mask
    → (value table coin cards mask ≡ best table coin cards) × (value2 table coin cards mask ≡ printed_square table coin cards)
unfolding printed_square
printed_alike table coin cards mask t d p =
    let big : 52 ≤ table.deck = t.known_deck.0 in
    (printed_best table coin cards mask big d p, at_printed (value2 table coin) table coin cards mask (λ u l. value2_turned u mask coin table cards big l d) p)

-- turns keep both
pub printed_square_kept : (table : PayTable) (coin : ℕ) → 52 ≤ table.deck → IsKept table.deck (printed_square table coin)
unfolding printed_square
printed_square_kept table coin big t cards l d =
    ap (λ (r : List ℕ). value2 table coin r (least_best table coin r)) (representative_kept table.deck cards t big d l)

pub squared_value_kept : (table : PayTable) (coin : ℕ) → 52 ≤ table.deck → IsKept table.deck (squared_value table coin)
unfolding squared_value
squared_value_kept table coin big t cards l d = ap (λ b. b * b) (best_turned t coin table cards big l d)

-- at a representative
pub own_square : (table : PayTable) (coin : ℕ) (cards : List ℕ) → representative cards ≡ cards → value2 table coin cards (least_best table coin cards) ≡ printed_square table coin cards
unfolding printed_square
own_square table coin cards own = ap (λ (r : List ℕ). value2 table coin r (least_best table coin r)) (sym own)
