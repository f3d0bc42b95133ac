-- What it says that a game breaks no law, and that no game of a log does: the laws as dealers and pay tables state them, in no order
-- (docs/FORMATS.md, The game log).
use Rattle.std.specs.Prelude.{◌≡◌, ℕ, ◌+◌, ◌≤◌, true, List, [], ◌∷◌, length}
use Rattle.std.specs.List.{All}
use Rattle.vp_card.specs.Cards.{absent, all_differ}
use Rattle.vp_sets.specs.Sets.{has}
use Rattle.vp_pay.specs.declared.table.PayTable.{PayTable}
use Rattle.vp_loggram.specs.declared.event.Event.{Event}
use Rattle.vp_replay.specs.Rules.{paid}

-- the cards of a game that breaks no law: no dealt card stands twice; the held ones were dealt, and none stands twice; the drawn ones
-- were not dealt, and none stands twice; held and drawn ones are five
pub record AreLawfulCards (e : Event) : Type 0 where
  pub deal : all_differ e.deal ≡ true
  pub hold : all_differ e.hold.items ≡ true
  pub dealt : All (λ card. has e.deal card ≡ true) e.hold.items
  pub count : length e.hold.items + length e.draw.items ≡ 5
  pub draw : all_differ e.draw.items ≡ true
  pub fresh : All (λ card. absent card e.deal ≡ true) e.draw.items

-- a game that breaks no law of a table, whatever the credits are: a bet that the table has, lawful cards, and the payment of the
-- held and drawn ones
pub record IsLawfulEvent (table : PayTable) (e : Event) : Type 0 where
  pub bet_from : 1 ≤ e.bet
  pub bet_to : e.bet ≤ table.coins
  pub cards : AreLawfulCards e
  pub pay : e.pay ≡ paid table e

-- a game that breaks no law: it is paid for out of the credits before it, and the credits behind it are those less the bet, plus the pay
pub record IsLawfulGame (table : PayTable) (credits : ℕ) (e : Event) : Type 0 where
  pub event : IsLawfulEvent table e
  pub funds : e.bet ≤ credits
  pub left : e.credits + e.bet ≡ credits + e.pay

-- no game breaks a law; each starts from the credits of the one before it, and the first from these
abbrev pub AreLawfulGames : PayTable → ℕ → List Event → Type 0
AreLawfulGames table credits [] = Unit {0}
AreLawfulGames table credits (e ∷ es) = IsLawfulGame table credits e × AreLawfulGames table e.credits es
