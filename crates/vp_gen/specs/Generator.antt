-- Logs out of a number: the generator of numbers, a linear congruence as in any textbook on random numbers, and the games that are made
-- from them, by this program's own rule (docs/FORMATS.md, `vpoker play`). No chance is claimed of them.
use Rattle.std.specs.Prelude.{ℕ, zero, suc, ◌+◌, ◌-◌, ◌*◌, ◌/◌, ◌%◌, ◌^◌, ◌==◌, List, [], ◌∷◌, ◌++◌, length, get_or, if◌then◌else◌}
use Rattle.std.specs.List.{remove}
use Rattle.vp_card.specs.Cards.{held, in_order}
use Rattle.vp_sets.specs.Sets.{deck}
use Rattle.vp_pay.specs.declared.table.PayTable.{PayTable}
use Rattle.vp_wild.specs.Payment.{pay}
use Rattle.vp_draws.specs.Draws.{least_best}
use Rattle.vp_loggram.specs.Logs.{LogValue}
use Rattle.vp_loggram.specs.declared.event.Event.{Event}

-- ---- numbers

-- the state behind a state: a linear congruence over 64 bits
unfoldable pub next_state : ℕ → ℕ
next_state x = (6364136223846793005 * x + 1442695040888963407) % 2 ^ 64

-- a number below m: the upper half of the state behind x, by its remainder
unfoldable pub pick : ℕ → ℕ → ℕ
pick m x = next_state x / 2 ^ 32 % m

-- ---- cards

-- cards in the order of drawing, the cards that remain, and the state behind them
pub record Drawn : Type 0 where
  pub cards : List ℕ
  pub rest : List ℕ
  pub state : ℕ

-- the card at a place, in front of those that are drawn when it is removed
abbrev pub with_first : ℕ → Drawn → Drawn
with_first card more = record more { cards = card ∷ more.cards }

-- k cards, each at a picked place of those that remain, and removed
unfoldable pub drawn : ℕ → ℕ → List ℕ → Drawn
drawn zero x rest = record { cards = []; rest = rest; state = x }
drawn (suc k) x rest = let place = pick (length rest) x in with_first (get_or rest place 0) (drawn k (next_state x) (remove rest place))

-- ---- games

-- a mask over the hand in rising order, and the state behind it
pub record Masked : Type 0 where
  pub mask : ℕ
  pub state : ℕ

-- once in four any of the 32 masks, else the least best
unfoldable pub masked : PayTable → ℕ → List ℕ → ℕ → Masked
masked table coin hand x =
    if pick 4 x == 0
    then record { mask = pick 32 (next_state x); state = next_state (next_state x) }
    else record { mask = least_best table coin hand; state = next_state x }

-- a game and the state behind it
pub record Made : Type 0 where
  pub event : Event
  pub state : ℕ

-- a game at these credits: five cards are dealt, some are held, the others are drawn again, and the hand is paid
unfoldable pub made : PayTable → ℕ → ℕ → ℕ → Made
made table coin credits x =
    let deal = drawn 5 x (deck table.deck) in
    let choice = masked table coin (in_order deal.cards) deal.state in
    let hold = held choice.mask (in_order deal.cards) in
    let draw = drawn (5 - length hold) choice.state deal.rest in
    let paid = pay table coin (in_order (hold ++ draw.cards)) in
    record {
      event = record { bet = coin; deal = deal.cards; hold = record { items = hold }; draw = record { items = draw.cards }; pay = paid; credits = credits - coin + paid };
      state = draw.state;
    }

-- ---- logs

-- so many games, each at the credits and the state that the one before it leaves
unfoldable pub games_from : PayTable → ℕ → ℕ → ℕ → ℕ → List Event
games_from table coin credits x zero = []
games_from table coin credits x (suc games) = let game = made table coin credits x in game.event ∷ games_from table coin game.event.credits game.state games

-- the log of so many games: its credits at the start are the bets of all, and the first state is the seed
unfoldable pub generated : PayTable → ℕ → ℕ → ℕ → LogValue
generated table coin seed games = record { start = coin * games; events = games_from table coin (coin * games) seed games }
