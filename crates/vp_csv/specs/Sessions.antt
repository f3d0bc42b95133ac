-- What the sessions of a text are: the log of each has its opening number as start, and its game records, in their order, as games. The
-- form is this program's own (docs/FORMATS.md, Logs of many sessions).
use Rattle.std.specs.Prelude.{◌≡◌, ℕ, ◌<◌, List, [], ◌∷◌, length, filter, map, flat_map, get_or, Option, Some, None, option_to_list, bytes_eq}
use Rattle.vp_text.specs.Lines.{Word}
use Rattle.vp_loggram.specs.Logs.{LogValue}
use Rattle.vp_loggram.specs.declared.event.Event.{Event}
use Rattle.vp_csv.specs.Records.{Record, records_in}
use Rattle.vp_csv.specs.Rules.{name_of, names_of, start_of, game_of}

-- a session: its name, and its log
pub record Session : Type 0 where
  pub name : Word
  pub log : LogValue

-- the records of a session
abbrev pub own : Word → List Record → List Record
own name rs = filter (λ r. bytes_eq name (name_of r)) rs

abbrev pub or_zero : Option ℕ → ℕ
or_zero None = 0
or_zero (Some n) = n

-- the games of these records, with cards of a deck of n
abbrev pub games_of : ℕ → List Record → List Event
games_of n rs = flat_map (λ r. option_to_list (game_of n r)) rs

-- the log of the records of one session, the first of which opens it
abbrev pub log_of : ℕ → List Record → LogValue
log_of n [] = record { start = 0; events = [] }
log_of n (opening ∷ games) = record { start = or_zero (start_of opening); events = games_of n games }

-- a session among records: it is told by its own records alone
unfoldable pub session_of : ℕ → List Record → Word → Session
session_of n rs name = record { name = name; log = log_of n (own name rs) }

-- the sessions of records, in the order of the records that open them
unfoldable pub sessions_in : ℕ → List Record → List Session
sessions_in n rs = map (session_of n rs) (names_of rs)

abbrev pub behind_first : List Record → List Record
behind_first [] = []
behind_first (r ∷ rs) = rs

-- the sessions of a text, behind its header
unfoldable pub sessions_of : ℕ → List ℕ → List Session
sessions_of n bytes = sessions_in n (behind_first (records_in bytes))

-- what a text of sessions says, with cards of a deck of n
pub record Sorted : Type 0 where
  pub deck : ℕ
  pub sessions : List Session

-- the session at a place
abbrev pub session_at : Sorted → ℕ → Session
session_at s i = get_or s.sessions i (record { name = []; log = record { start = 0; events = [] } })

abbrev pub sorted : ℕ → List ℕ → Sorted
sorted n bytes = record { deck = n; sessions = sessions_of n bytes }

-- the records of a session of a text
abbrev pub own_in : Word → List ℕ → List Record
own_in name bytes = own name (behind_first (records_in bytes))

-- Two texts have, at these places, sessions of one name, whose records are the same, in the same order.
pub record AreAlike (n : ℕ) (a b : List ℕ) (i j : ℕ) : Type 0 where
  pub first : i < length (sessions_of n a)
  pub second : j < length (sessions_of n b)
  pub name : (session_at (sorted n a) i).name ≡ (session_at (sorted n b) j).name
  pub records : own_in (session_at (sorted n a) i).name a ≡ own_in (session_at (sorted n b) j).name b
