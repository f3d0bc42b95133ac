-- The laws of a game, in the order of testing, and the first that is broken. They are the rules of five-card draw as dealers and pay tables
-- state them: a bet out of the credits, five different cards, a hold of dealt cards, new cards drawn, the line paid. Their order and their
-- two numbers are this program's own (docs/FORMATS.md, The game log).
use Rattle.std.specs.Prelude.{ℕ, ◌+◌, ◌-◌, Bool, not, ◌||◌, nat_lt, ◌==◌, List, [], ◌∷◌, ◌++◌, length, Option, Some, None, option_map, if◌then◌else◌}
use Rattle.vp_card.specs.Cards.{in_order}
use Rattle.vp_sets.specs.Sets.{has}
use Rattle.vp_pay.specs.declared.table.PayTable.{PayTable}
use Rattle.vp_wild.specs.Payment.{pay}
use Rattle.vp_answer.specs.Firsts.{first_of}
use Rattle.vp_loggram.specs.Logs.{LogValue}
use Rattle.vp_loggram.specs.declared.event.Event.{Event}
use Rattle.vp_replay.specs.declared.rule.Breach.{Breach}
use Rattle.vp_replay.specs.declared.rule.Broken.{Broken}
use Rattle.vp_replay.specs.declared.rule.LogRule.{LogRule}
use Rattle.vp_replay.specs.declared.rule.LogRule.TheVariants.{Bet, Funds, Deal, Hold, Count, Draw, Pay, Credits}

-- where it is broken: the number that the log says, and the number due
abbrev pub broken_if : Bool → LogRule → ℕ → ℕ → Option Breach
broken_if broken rule said due = if broken then Some (record { rule = rule; said = said; due = due }) else None

-- ---- cards

-- the first card that is wrong behind the cards before it: its place, counted from 1, and its number
unfoldable pub first_wrong : (List ℕ → ℕ → Bool) → List ℕ → List ℕ → Option (ℕ × ℕ)
first_wrong wrong front [] = None
first_wrong wrong front (card ∷ cards) = if wrong front card then Some (length front + 1, card) else first_wrong wrong (front ++ card ∷ []) cards

abbrev pub misplaced : LogRule → Option (ℕ × ℕ) → Option Breach
misplaced rule wrong = option_map (λ card. record { rule = rule; said = card.0; due = card.1 }) wrong

-- a dealt card is wrong where it equals an earlier one
abbrev pub wrong_deal : List ℕ → ℕ → Bool
wrong_deal earlier card = has earlier card

-- a held card is wrong where it was not dealt, or equals an earlier held one
abbrev pub wrong_hold : List ℕ → List ℕ → ℕ → Bool
wrong_hold deal earlier card = not (has deal card) || has earlier card

-- a drawn card is wrong where it was dealt, or equals an earlier drawn one
abbrev pub wrong_draw : List ℕ → List ℕ → ℕ → Bool
wrong_draw deal earlier card = has deal card || has earlier card

-- what a table pays to held and drawn cards
abbrev pub paid : PayTable → Event → ℕ
paid table e = pay table e.bet (in_order (e.hold.items ++ e.draw.items))

-- ---- the laws

-- bet: it is 1 to the coins of the table
unfoldable pub bet_breach : PayTable → Event → Option Breach
bet_breach table e = broken_if (nat_lt e.bet 1 || nat_lt table.coins e.bet) Bet e.bet table.coins

-- funds: the bet does not exceed the credits
unfoldable pub funds_breach : ℕ → Event → Option Breach
funds_breach credits e = broken_if (nat_lt credits e.bet) Funds e.bet credits

-- deal: no dealt card is wrong
unfoldable pub deal_breach : Event → Option Breach
deal_breach e = misplaced Deal (first_wrong wrong_deal [] e.deal)

-- hold: no held card is wrong
unfoldable pub hold_breach : Event → Option Breach
hold_breach e = misplaced Hold (first_wrong (wrong_hold e.deal) [] e.hold.items)

-- count: held and drawn cards together are five
unfoldable pub count_breach : Event → Option Breach
count_breach e = broken_if (not (length e.hold.items + length e.draw.items == 5)) Count (length e.draw.items) (5 - length e.hold.items)

-- draw: no drawn card is wrong
unfoldable pub draw_breach : Event → Option Breach
draw_breach e = misplaced Draw (first_wrong (wrong_draw e.deal) [] e.draw.items)

-- pay: it is what the table pays
unfoldable pub pay_breach : PayTable → Event → Option Breach
pay_breach table e = broken_if (not (e.pay == paid table e)) Pay e.pay (paid table e)

-- credits: they are those before the game, less the bet, plus the pay
unfoldable pub credits_breach : ℕ → Event → Option Breach
credits_breach credits e = broken_if (not (e.credits == credits - e.bet + e.pay)) Credits e.credits (credits - e.bet + e.pay)

-- the first broken law of the cards of a game
unfoldable pub cards_breach : Event → Option Breach
cards_breach e = first_of (deal_breach e ∷ hold_breach e ∷ count_breach e ∷ draw_breach e ∷ [])

-- the first broken law of a game that these credits stand before
unfoldable pub break_of : PayTable → ℕ → Event → Option Breach
break_of table credits e = first_of (bet_breach table e ∷ funds_breach credits e ∷ cards_breach e ∷ pay_breach table e ∷ credits_breach credits e ∷ [])

-- ---- logs

-- a broken law of the game with this number; else what is broken later
abbrev pub or_later : Option Breach → ℕ → Option Broken → Option Broken
or_later None game later = later
or_later (Some b) game later = Some (record { game = game; rule = b.rule; said = b.said; due = b.due })

-- the first broken law of games, which are counted from this number; each starts from the credits of the one before it
unfoldable pub first_break : PayTable → ℕ → ℕ → List Event → Option Broken
first_break table game credits [] = None
first_break table game credits (e ∷ es) = or_later (break_of table credits e) game (first_break table (game + 1) e.credits es)

-- the first broken law of a log, whose first game starts from the credits at its start
abbrev pub break_in : PayTable → LogValue → Option Broken
break_in table log = first_break table 1 log.start log.events

-- ---- what it takes to find it

-- 1 for a law that is tested once the table has paid the final hand
abbrev pub asks_pay : LogRule → ℕ
asks_pay Pay = 1
asks_pay Credits = 1
asks_pay _ = 0

-- how many games were paid by the table where this law is the first that is broken
abbrev pub ranked : Broken → ℕ
ranked b = b.game - 1 + asks_pay b.rule
