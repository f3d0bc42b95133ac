-- How sessions are kept while their records are read: each by its name, and by the text of its log so far.
use Rattle.std.specs.Prelude.{◌≡◌, ℕ, ◌<◌, ◌≤◌, ◌+◌, ◌*◌, ◌%◌, ◌^◌, Bool, true, List, [], ◌∷◌, ◌++◌, length, map, get_or, slice_set, Option, Some, None, Result, Ok, Err, bytes_eq, codes, if◌then◌else◌}
use Rattle.std.specs.List.{list_any, AllByRecursion}
use Rattle.vp_card.specs.Cards.{IsDeck}
use Rattle.vp_text.specs.Lines.{Word, Feed, feed_of}
use Rattle.vp_text.specs.Written.{line_of, written}
use Rattle.vp_loggram.specs.Logs.{IsLog, LogValue}
use Rattle.vp_loggram.specs.Sections.{log_at}
use Rattle.vp_loggram.specs.Spelling.{event_words, key_number, log_text}
use Rattle.vp_loggram.specs.declared.event.Event.{Event}
use Rattle.vp_csv.specs.Records.{Record}
use Rattle.vp_csv.specs.Rules.{name_of, names_of, start_of, game_of, is_header, IsHeadless}
use Rattle.vp_csv.specs.declared.stop.CsvStop.{CsvStop}
use Rattle.vp_csv.specs.declared.stop.CsvStop.TheVariants as stop
use Rattle.vp_csv.specs.Sessions.{Session, Sorted, log_of, own, or_zero}

pub record Kept : Type 0 where
  pub name : Word
  pub text : List ℕ

-- a number of a name, which two names seldom share: no public clause rests on it
unfoldable pub mark_of : Word → ℕ
mark_of [] = 0
mark_of (byte ∷ name) = (mark_of name * 31 + byte) % 2 ^ 32

-- ---- one more record

-- the line of the credits at the start
unfoldable pub start_line : ℕ → List ℕ
start_line start = line_of (key_number (codes "log") start)

-- the line of a game
abbrev pub game_line : Option Event → List ℕ
game_line None = []
game_line (Some event) = line_of (event_words event)

abbrev pub has_name : Word → Kept → Bool
has_name name k = bytes_eq k.name name

abbrev pub is_kept : Word → List Kept → Bool
is_kept name ks = list_any (has_name name) ks

abbrev pub names_kept : List Kept → List Word
names_kept ks = map (λ k. k.name) ks

-- a session with more text
abbrev pub with_text : List ℕ → Kept → Kept
with_text text k = record { name = k.name; text = k.text ++ text }

-- more text for the first session with this name
unfoldable pub with_text_for : Word → List ℕ → List Kept → List Kept
with_text_for name text [] = []
with_text_for name text (k ∷ ks) = if bytes_eq k.name name then with_text text k ∷ ks else k ∷ with_text_for name text ks

abbrev pub kept_at : List Kept → ℕ → Kept
kept_at ks place = get_or ks place (record { name = []; text = [] })

-- more text for the session at a place
abbrev pub with_text_at : ℕ → List ℕ → List Kept → List Kept
with_text_at place text ks = slice_set ks place (with_text text (kept_at ks place))

abbrev pub opened : Word → Option ℕ → Kept
opened name start = record { name = name; text = start_line (or_zero start) }

-- the sessions with one more record, with cards of a deck of n
unfoldable pub updated : ℕ → Record → List Kept → List Kept
updated n r ks = if is_kept (name_of r) ks then with_text_for (name_of r) (game_line (game_of n r)) ks else ks ++ opened (name_of r) (start_of r) ∷ []

-- the text of a log without its last line
abbrev pub open_text : LogValue → List ℕ
open_text log = start_line log.start ++ written (map event_words log.events)

-- a session among records, its log not being ended
unfoldable pub kept_of : ℕ → List Record → Word → Kept
kept_of n rs name = record { name = name; text = open_text (log_of n (own name rs)) }

unfoldable pub kept_in : ℕ → List Record → List Kept
kept_in n rs = map (kept_of n rs) (names_of rs)

-- a session whose log is ended
abbrev pub closed : Kept → Kept
closed k = record { name = k.name; text = k.text ++ line_of (codes "end" ∷ []) }

-- ---- what the kept sessions say

abbrev pub log_or_none : Result (LogValue × Feed) ℕ → LogValue
log_or_none (Ok r) = r.0
log_or_none (Err line) = record { start = 0; events = [] }

-- the log that a text spells, with cards of a deck of n
unfoldable pub log_in : ℕ → List ℕ → LogValue
log_in n text = log_or_none (log_at n (feed_of text))

abbrev pub said_by : ℕ → Kept → Session
said_by n k = record { name = k.name; log = log_in n k.text }

abbrev pub sorted_of : ℕ → List Kept → Sorted
sorted_of n ks = record { deck = n; sessions = map (said_by n) ks }

-- the text of a session is the spelling of its log, and short enough to be read as lines
pub record IsKept (n : ℕ) (k : Kept) : Type 0 where
  pub log : IsLog n (log_in n k.text)
  pub spelled : k.text ≡ written (log_text (log_in n k.text))
  pub short : length k.text < 67108864

pub record AreKept (n : ℕ) (ks : List Kept) : Type 0 where
  pub deck : IsDeck n
  pub few : length ks ≤ 1000
  pub all : AllByRecursion (IsKept n) ks

-- ---- the header

-- the first record is a header, and these are behind it
abbrev pub IsBehindHeader : List Record → List Record → Type 0
IsBehindHeader [] left = ⊥
IsBehindHeader (r ∷ rs) left = (is_header r ≡ true) × (rs ≡ left)

-- it is stopped where the header is due, or for want of memory
abbrev pub IsRefusedHeader : CsvStop → List Record → Type 0
IsRefusedHeader (stop.Record place) records = (place ≡ 1) × IsHeadless records
IsRefusedHeader stop.NoMemory records = Unit {0}
