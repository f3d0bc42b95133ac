-- What is told of a lawful log: this program's own choice of numbers, and its own lines (docs/FORMATS.md, `vpoker replay`).
use Rattle.std.specs.Prelude.{◌≡◌, ℕ, ◌+◌, Bool, true, ◌&&◌, nat_lt, List, [], ◌∷◌, ◌++◌, length, codes, sum_by, if◌then◌else◌}
use Rattle.std.specs.Fmt.{decimal}
use Rattle.std.specs.List.{AllByRecursion}
use Rattle.vp_text.specs.Lines.{Word}
use Rattle.vp_text.specs.Sections.{Text}
use Rattle.vp_text.specs.Written.{fraction}
use Rattle.vp_pay.specs.declared.table.PayTable.{PayTable}
use Rattle.vp_sets.specs.Draws.{common}
use Rattle.vp_loggram.specs.Logs.{LogValue}
use Rattle.vp_loggram.specs.declared.event.Event.{Event}
use Rattle.vp_replay.specs.Costs.{cost_of}
use Rattle.vp_replay.specs.declared.summary.Summary.{Summary}

-- ---- the lines of costs

-- the line of a game whose hold costs something
abbrev pub cost_words : ℕ → ℕ → List Word
cost_words game cost = codes "cost" ∷ decimal game ∷ decimal cost ∷ []

-- a line where costs are shown and there is one
abbrev pub cost_line : Bool → ℕ → ℕ → Text
cost_line show game cost = if show && nat_lt 0 cost then cost_words game cost ∷ [] else []

-- the lines of games, which are counted from this number
unfoldable pub cost_lines : PayTable → Bool → ℕ → List Event → Text
cost_lines table show game [] = []
cost_lines table show game (e ∷ es) = cost_line show game (cost_of table e) ++ cost_lines table show (game + 1) es

-- ---- the numbers of a log

-- the credits behind games
unfoldable pub last_credits : ℕ → List Event → ℕ
last_credits credits [] = credits
last_credits credits (e ∷ es) = last_credits e.credits es

-- 1 for a game whose hold costs something, else 0
abbrev pub slip_of : PayTable → Event → ℕ
slip_of table e = if nat_lt 0 (cost_of table e) then 1 else 0

-- how many games there are; what was bet, and what was paid in all; the credits at the end; how many holds cost something, and what
-- they cost in all
abbrev pub summary_of : PayTable → LogValue → Summary
summary_of table log = record {
  games = length log.events;
  bet = sum_by (λ e. e.bet) log.events;
  paid = sum_by (λ e. e.pay) log.events;
  credits = last_credits log.start log.events;
  slips = sum_by (slip_of table) log.events;
  loss = sum_by (cost_of table) log.events;
}

-- each game bets this much
abbrev pub AllBet : ℕ → List Event → Type 0
AllBet coin events = AllByRecursion (λ e. e.bet ≡ coin) events

-- ---- the lines of the numbers

-- the lines of a summary; the loss stands over the common denominator of a deck of n
abbrev pub summary_lines : ℕ → Summary → Text
summary_lines n s =
    (codes "games" ∷ decimal s.games ∷ []) ∷
    (codes "bet" ∷ decimal s.bet ∷ []) ∷
    (codes "paid" ∷ decimal s.paid ∷ []) ∷
    (codes "credits" ∷ decimal s.credits ∷ []) ∷
    (codes "slips" ∷ decimal s.slips ∷ []) ∷
    (codes "loss" ∷ fraction s.loss (common n)) ∷ []

-- the lines of a log: its costs, and its numbers
abbrev pub replay_lines : PayTable → LogValue → Text
replay_lines table log = cost_lines table true 1 log.events ++ summary_lines table.deck (summary_of table log)
