-- What a log says, and which logs are in the grammar: this program's own (docs/FORMATS.md, The game log).
use Rattle.std.specs.Prelude.{◌≡◌, ℕ, ◌≤◌, ◌<◌, ◌^◌, Bool, true, ◌&&◌, List, length}
use Rattle.std.specs.List.{AllByRecursion}
use Rattle.vp_card.specs.Cards.{in_deck}
use Rattle.vp_loggram.specs.declared.event.Event.{Event}

-- a log: the credits at its start, and its games
pub record LogValue : Type 0 where
  pub start : ℕ
  pub events : List Event

-- the cards of a game are of a deck of n
abbrev pub is_of_deck : ℕ → Event → Bool
is_of_deck n e = in_deck n e.deal && in_deck n e.hold.items && in_deck n e.draw.items

-- a game in the grammar: five dealt cards, at most five held and at most five drawn ones, all of a deck of n, and numbers
pub record IsEvent (n : ℕ) (e : Event) : Type 0 where
  pub bet : e.bet < 2 ^ 64
  pub deal : length e.deal ≡ 5
  pub hold : length e.hold.items ≤ 5
  pub draw : length e.draw.items ≤ 5
  pub cards : is_of_deck n e ≡ true
  pub pay : e.pay < 2 ^ 64
  pub credits : e.credits < 2 ^ 64

-- a log in the grammar, with cards of a deck of n
pub record IsLog (n : ℕ) (log : LogValue) : Type 0 where
  pub start : log.start ≤ 1000000000000
  pub events : AllByRecursion (IsEvent n) log.events
