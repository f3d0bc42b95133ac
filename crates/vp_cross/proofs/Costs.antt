-- Crossed values and costs of deals.
use Rattle.std.proofs.Common.{◌≡◌, ℕ, ◌+◌, ◌-◌, ◌≤◌, List, ap, sym, ◌∙◌, arith}
use Rattle.vp_pay.specs.declared.table.PayTable.{PayTable}
use Rattle.vp_pay.specs.Table.{IsTable}
use Rattle.vp_suit.specs.Turns.{turn}
use Rattle.vp_suit.specs.Classes.{IsDeal, IsKept, representative}
use Rattle.vp_suit.proofs.ClassLaws.{representative_kept}
use Rattle.vp_draws.specs.Draws.{IsPrintedHold, best, least_best, value}
use Rattle.vp_draws.proofs.Chosen.{least_best_small, least_best_value, value_le_best}
use Rattle.vp_draws.proofs.Printed.{at_printed, best_of_class}
use Rattle.vp_draws.proofs.TurnedValues.{value_turned, best_turned}
use Rattle.vp_cross.specs.Crossings.{crossed_value, cost}

-- ---- turns keep both

pub crossed_kept : (played priced : PayTable) (coin : ℕ) → 52 ≤ priced.deck → IsKept priced.deck (crossed_value played priced coin)
unfolding crossed_value
crossed_kept played priced coin big t cards l d =
    ap (λ (r : List ℕ). value priced coin r (least_best played coin r)) (representative_kept priced.deck cards t big d l)

pub cost_kept : (played priced : PayTable) (coin : ℕ) → 52 ≤ priced.deck → IsKept priced.deck (cost played priced coin)
unfolding cost
cost_kept played priced coin big t cards l d =
    ap (λ b. b - crossed_value played priced coin (turn t cards)) (best_turned t coin priced cards big l d)
    ∙ ap (λ v. best priced coin cards - v) (crossed_kept played priced coin big t cards l d)

-- at a representative
pub own_crossed : (played priced : PayTable) (coin : ℕ) (cards : List ℕ) → representative cards ≡ cards → value priced coin cards (least_best played coin cards) ≡ crossed_value played priced coin cards
unfolding crossed_value
own_crossed played priced coin cards own = ap (λ (r : List ℕ). value priced coin r (least_best played coin r)) (sym own)

-- ---- a deal and the representative of its class

crossed_le : (played priced : PayTable) (coin : ℕ) (cards : List ℕ) → 52 ≤ priced.deck → IsDeal priced.deck cards → crossed_value played priced coin cards ≤ best priced coin cards
unfolding crossed_value
crossed_le played priced coin cards big d =
    omega (arith, value_le_best priced coin (representative cards) (least_best played coin (representative cards)) (least_best_small played coin (representative cards)), best_of_class priced coin cards big d)

pub make_up : (played priced : PayTable) (coin : ℕ) (cards : List ℕ) → 52 ≤ priced.deck → IsDeal priced.deck cards
    → crossed_value played priced coin cards + cost played priced coin cards ≡ best priced coin cards
unfolding cost
make_up played priced coin cards big d = omega (arith, crossed_le played priced coin cards big d)

-- a table's own play
pub own_play : (table : PayTable) (coin : ℕ) (cards : List ℕ) → 52 ≤ table.deck → IsDeal table.deck cards → crossed_value table table coin cards ≡ best table coin cards
unfolding crossed_value
own_play table coin cards big d = least_best_value table coin (representative cards) ∙ best_of_class table coin cards big d

-- ---- printed holds

pub printed_value : (played priced : PayTable) (coin mask : ℕ) (cards : List ℕ) → IsTable priced → IsDeal priced.deck cards → IsPrintedHold played coin cards mask → value priced coin cards mask ≡ crossed_value played priced coin cards
unfolding crossed_value
printed_value played priced coin mask cards t d p = at_printed (value priced coin) played coin cards mask (λ u l. value_turned u mask coin priced cards t.known_deck.0 l d) p
