-- Printed holds: each deal has one, and all that it has are alike in whatever turns keep.
use Rattle.std.proofs.Common.{◌≡◌, ℕ, ◌<◌, ◌≤◌, List, ap, sym, refl, ◌∙◌}
use Rattle.vp_pay.specs.declared.table.PayTable.{PayTable}
use Rattle.vp_suit.specs.Turns.{carried, turn}
use Rattle.vp_suit.specs.Classes.{IsDeal, least_turn, representative}
use Rattle.vp_suit.proofs.Deals.{deal_rises}
use Rattle.vp_suit.proofs.Representatives.{represented}
use Rattle.vp_draws.specs.Draws.{IsPrintedHold, best, least_best, value}
use Rattle.vp_draws.specs.Laws.{HasPrintedHold}
use Rattle.vp_draws.proofs.Chosen.{least_best_small, least_best_value}
use Rattle.vp_draws.proofs.TurnedValues.{value_turned, best_turned, carried_from}

by_least_turn : (cards : List ℕ) → turn (least_turn cards) cards ≡ representative cards
unfolding representative
by_least_turn cards = refl

turns_to : (n : ℕ) (cards : List ℕ) → IsDeal n cards → least_turn cards < 24
turns_to n cards d = (represented cards (deal_rises n cards d)).inside

pub has_printed_hold : HasPrintedHold
has_printed_hold table coin n cards d =
    let inside : least_turn cards < 24 = turns_to n cards d in
    let from = carried_from n (least_turn cards) (least_best table coin (representative cards)) cards inside d (least_best_small table coin (representative cards)) in
    (from.0, from.1, record { turning = least_turn cards; within = inside; deal = by_least_turn cards; hold = from.2 })

-- what each turn keeps of a deal and a mask, a printed hold has from the representative's least best hold
pub at_printed : (f : List ℕ → ℕ → ℕ) (table : PayTable) (coin : ℕ) (cards : List ℕ) (mask : ℕ) → ((t : ℕ) → t < 24 → f (turn t cards) (carried t cards mask) ≡ f cards mask) → IsPrintedHold table coin cards mask
    → f cards mask ≡ f (representative cards) (least_best table coin (representative cards))
at_printed f table coin cards mask kept p =
    sym (kept p.turning p.within) ∙ ap (λ (x : List ℕ). f x (carried p.turning cards mask)) p.deal ∙ ap (f (representative cards)) p.hold

-- a deal and the representative of its class have the same best value
pub best_of_class : (table : PayTable) (coin : ℕ) (cards : List ℕ) → 52 ≤ table.deck → IsDeal table.deck cards → best table coin (representative cards) ≡ best table coin cards
best_of_class table coin cards big d =
    ap (best table coin) (sym (by_least_turn cards)) ∙ best_turned (least_turn cards) coin table cards big (turns_to table.deck cards d) d

-- and each printed hold has it
pub printed_best : (table : PayTable) (coin : ℕ) (cards : List ℕ) (mask : ℕ) → 52 ≤ table.deck → IsDeal table.deck cards → IsPrintedHold table coin cards mask → value table coin cards mask ≡ best table coin cards
printed_best table coin cards mask big d p =
    at_printed (value table coin) table coin cards mask (λ t l. value_turned t mask coin table cards big l d) p
    ∙ least_best_value table coin (representative cards)
    ∙ best_of_class table coin cards big d
