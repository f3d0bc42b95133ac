-- How a log is read.
use Rattle.std.specs.Prelude.{◌≡◌, ℕ, ◌<◌, List, [], ◌∷◌, length, Option, Some, None, Result, Ok, Err, codes}
use Rattle.vp_text.specs.Lines.{Feed, WordLine}
use Rattle.vp_text.specs.Numbers.{number_within}
use Rattle.vp_text.specs.Sequences.{keyed}
use Rattle.vp_text.specs.Reading.{◌>>=◌, one_line, both, closed, mapped}
use Rattle.vp_text.specs.ExactReaders.{Reader}
use Rattle.vp_text.specs.Streams.{always, any_behind, front_items, skipped}
use Rattle.vp_text.specs.declared.refused.Refused.{Refused}
use Rattle.vp_loggram.specs.Logs.{LogValue}
use Rattle.vp_loggram.specs.Reading.{event_of}
use Rattle.vp_loggram.specs.declared.event.Event.{Event}

-- `log` and the credits at the start
abbrev pub start_line : Reader ℕ
start_line = one_line (keyed (codes "log") (number_within 0 1000000000000))

-- games up to `end`
abbrev pub games_at : ℕ → Reader (List Event)
games_at n = closed (codes "end") always (any_behind (event_of n))

abbrev pub log_from : ℕ × List Event → LogValue
log_from p = record { start = p.0; events = p.1 }

-- a log with cards of a deck of n
unfoldable pub log_at : ℕ → Reader LogValue
log_at n = mapped log_from (both start_line (λ start. games_at n))

-- ---- games that are not kept

-- the games in front of these lines, up to the first line that is none
unfoldable pub events_in_front : ℕ → List WordLine → List Event
events_in_front n lines = front_items (event_of n) lines

-- the games up to `end`, of which nothing is kept
unfoldable pub games_skipped : ℕ → Reader (Unit {0})
games_skipped n = skipped (codes "end") (event_of n)

-- a log whose first line is read: its games are those in front of the lines behind it
unfoldable pub log_opened : ℕ → Reader LogValue
log_opened n feed = do
  start ← start_line feed
  Ok (record { start = start.0; events = events_in_front n start.1.lines }, start.1)

-- a log, its games being skipped and read again
unfoldable pub log_read : ℕ → Reader LogValue
log_read n feed = do
  log ← log_opened n feed
  left ← games_skipped n log.1
  Ok (log.0, left.1)

-- a game in front of the games that are left, behind which as much is skipped
pub record HasGame (n : ℕ) (old new : Feed) (e : Event) : Type 0 where
  pub front : events_in_front n old.lines ≡ e ∷ events_in_front n new.lines
  pub skipped : games_skipped n old ≡ games_skipped n new
  pub fewer : length new.lines < length old.lines

-- no game is in front, and the log ends with this line
pub record HasEnd (n : ℕ) (old new : Feed) : Type 0 where
  pub front : events_in_front n old.lines ≡ []
  pub skipped : games_skipped n old ≡ Ok (tt, new)

-- what the next line of a log gives: a game, its end, or the line that is refused
abbrev pub GivesGame : ℕ → Feed → Feed → Result (Option Event) Refused → Type 0
GivesGame n old new (Ok (Some e)) = HasGame n old new e
GivesGame n old new (Ok None) = HasEnd n old new
GivesGame n old new (Err e) = games_skipped n old ≡ Err e.line
