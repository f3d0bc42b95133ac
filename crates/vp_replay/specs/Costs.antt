-- What the hold of a lawful game costs: the best expected payment of its deal less that of the hold (vp_draws, Draws).
use Rattle.std.specs.Prelude.{◌≡◌, ℕ, ◌+◌, ◌-◌, ◌<◌, ◌≤◌}
use Rattle.vp_card.specs.Cards.{held, in_order}
use Rattle.vp_pay.specs.declared.table.PayTable.{PayTable}
use Rattle.vp_sets.specs.Draws.{mask_of}
use Rattle.vp_draws.specs.Draws.{IsMean, best, total, value}
use Rattle.vp_loggram.specs.declared.event.Event.{Event}

-- the mask of the held cards, over the dealt ones in rising order
abbrev pub hold_of : Event → ℕ
hold_of e = mask_of e.hold.items (in_order e.deal)

-- the best value of the deal, less the value of the hold, at the bet
abbrev pub cost_of : PayTable → Event → ℕ
cost_of table e = best table e.bet (in_order e.deal) - value table e.bet (in_order e.deal) (hold_of e)

-- what the hold of a game costs, as a mean payment over the common denominator: its mask holds the held cards of the deal, in rising
-- order; it is worth the best value less the cost; no hold of the deal is worth more than that best value; and the value of each hold
-- over the common denominator is its mean payment over all draws
pub record IsCost (table : PayTable) (e : Event) (cost : ℕ) : Type 0 where
  pub mask : hold_of e < 32
  pub held : held (hold_of e) (in_order e.deal) ≡ in_order e.hold.items
  pub worth : value table e.bet (in_order e.deal) (hold_of e) + cost ≡ best table e.bet (in_order e.deal)
  pub greatest : (other : ℕ) → other < 32 → value table e.bet (in_order e.deal) other ≤ best table e.bet (in_order e.deal)
  pub mean : (other : ℕ) → other < 32
      → IsMean table.deck (in_order e.deal) other (total table e.bet (in_order e.deal) other) (value table e.bet (in_order e.deal) other)
