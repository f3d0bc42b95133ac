-- Which records may stand in a log of many sessions, and which record breaks its rule first. The rules are this program's own
-- (docs/FORMATS.md, Logs of many sessions).
use Rattle.std.specs.Prelude.{◌≡◌, ℕ, ◌+◌, ◌&&◌, nat_lt, Bool, true, false, List, [], ◌∷◌, ◌++◌, length, Option, Some, None, is_some, ◌⊎◌, bytes_eq, codes, if◌then◌else◌}
use Rattle.std.specs.List.{list_any}
use Rattle.vp_text.specs.ExactReaders.{Keeps}
use Rattle.vp_text.specs.Lines.{Word, is_empty}
use Rattle.vp_text.specs.Numbers.{number_of, number_within}
use Rattle.vp_text.specs.Pieces.{◌>>=◌}
use Rattle.vp_text.specs.Streams.{passing}
use Rattle.vp_pay.specs.Names.{is_name}
use Rattle.vp_loggram.specs.Logs.{is_of_deck}
use Rattle.vp_loggram.specs.declared.event.Event.{Event}
use Rattle.vp_csv.specs.Records.{Record, records_in}
use Rattle.vp_csv.specs.Fields.{Row, row_of, cards_of, five_of}
use Rattle.vp_csv.specs.declared.stop.CsvStop.{CsvStop}
use Rattle.vp_csv.specs.declared.stop.CsvStop.TheVariants as stop

-- ---- what a record says

-- the first record: the names of the seven fields
abbrev pub is_head : Row → Bool
is_head r =
    bytes_eq r.session (codes "session") && bytes_eq r.bet (codes "bet") && bytes_eq r.deal (codes "deal") && bytes_eq r.hold (codes "hold")
    && bytes_eq r.draw (codes "draw") && bytes_eq r.pay (codes "pay") && bytes_eq r.credits (codes "credits")

abbrev pub is_head_of : Option Row → Bool
is_head_of None = false
is_head_of (Some r) = is_head r

unfoldable pub is_header : Record → Bool
is_header r = is_head_of (row_of r)

-- the name of the session that a record is of: its first field
abbrev pub name_of : Record → Word
name_of [] = []
name_of (field ∷ fields) = field

-- no game is told: the fields between the first and the last are empty
abbrev pub tells_no_game : Row → Bool
tells_no_game r = is_empty r.bet && is_empty r.deal && is_empty r.hold && is_empty r.draw && is_empty r.pay

-- the credits at the start of a session
unfoldable pub start_in : Row → Option ℕ
start_in r = if tells_no_game r then number_within 0 1000000000000 r.credits else None

-- the same, of an opening record
unfoldable pub start_of : Record → Option ℕ
start_of fields = row_of fields >>= start_in

-- a game with cards of a deck of n
unfoldable pub game_in : ℕ → Row → Option Event
game_in n r = do
  bet ← number_of r.bet
  dealt ← cards_of r.deal
  deal ← five_of dealt
  hold ← cards_of r.hold
  draw ← cards_of r.draw
  pay ← number_of r.pay
  credits ← number_of r.credits
  passing (is_of_deck n) (Some (record { bet = bet; deal = deal; hold = record { items = hold }; draw = record { items = draw }; pay = pay; credits = credits }))

-- the same, of a game record
unfoldable pub game_of : ℕ → Record → Option Event
game_of n fields = row_of fields >>= game_in n

-- ---- the names of sessions

abbrev pub knows : Word → List Word → Bool
knows name names = list_any (λ other. bytes_eq other name) names

abbrev pub with_name : List Word → Word → List Word
with_name names name = if knows name names then names else names ++ name ∷ []

-- these names, and those of the records that are none of them, each where it stands first
unfoldable pub names_behind : List Word → List Record → List Word
names_behind names [] = names
names_behind names (r ∷ rs) = names_behind (with_name names (name_of r)) rs

-- the names of records in the order in which they open: each where it stands first
abbrev pub names_of : List Record → List Word
names_of rs = names_behind [] rs

-- ---- the rules

-- Whether a record keeps its rule, behind so many records and these names: where its name is one of them it is a game, else it is an opening. At most
-- 400000 records stand behind the header, and they are of at most 1000 sessions.
abbrev pub keeps_rule : ℕ → ℕ → List Word → Record → Bool
keeps_rule n count names r =
    nat_lt count 400000 && is_name (name_of r)
    && (if knows (name_of r) names then is_some (game_of n r) else nat_lt (length names) 1000 && is_some (start_of r))

-- whether a record keeps its rule behind the header and these records
abbrev pub may_follow : ℕ → List Record → Record → Bool
may_follow n front r = keeps_rule n (length front) (names_of front) r

-- the place of the first record that breaks its rule, behind the header and these records
unfoldable pub break_behind : ℕ → List Record → List Record → Option ℕ
break_behind n front [] = None
break_behind n front (r ∷ rs) = if may_follow n front r then break_behind n (front ++ r ∷ []) rs else Some (length front + 2)

-- the place of the first record that breaks its rule, counted from 1; 1 where there is no first record
unfoldable pub first_break : ℕ → List Record → Option ℕ
first_break n [] = Some 1
first_break n (r ∷ rs) = if is_header r then break_behind n [] rs else Some 1

-- the same, of a text
unfoldable pub refused_record : ℕ → List ℕ → Option ℕ
refused_record n bytes = first_break n (records_in bytes)

-- it is stopped at this record, or for want of memory
abbrev pub IsStop : CsvStop → Option ℕ → Type 0
IsStop (stop.Record place) o = o ≡ Some place
IsStop stop.NoMemory o = Unit {0}

-- ---- the same, without an order of reading

-- the first record is the header, and each later one keeps its rule behind those before it
pub record KeepRules (n : ℕ) (all : List Record) : Type 0 where
  pub header : Record
  pub records : List Record
  pub split : all ≡ header ∷ records
  pub named : is_header header ≡ true
  pub each : Keeps (λ front r. may_follow n front r ≡ true) [] records

-- no record is the first, or one that is no header
abbrev pub IsHeadless : List Record → Type 0
IsHeadless [] = Unit {0}
IsHeadless (r ∷ rs) = is_header r ≡ false

-- the header and the records in front keep their rules, and the next, which has this number, breaks its rule
pub record BreaksAt (n : ℕ) (all : List Record) (place : ℕ) : Type 0 where
  pub header : Record
  pub front : List Record
  pub broken : Record
  pub back : List Record
  pub split : all ≡ header ∷ front ++ broken ∷ back
  pub named : is_header header ≡ true
  pub each : Keeps (λ front r. may_follow n front r ≡ true) [] front
  pub breaks : may_follow n front broken ≡ false
  pub number : place ≡ length front + 2

-- the first record that breaks its rule: the header, or a later one
abbrev pub BreaksFirst : ℕ → List Record → ℕ → Type 0
BreaksFirst n all place = ((place ≡ 1) × IsHeadless all) ⊎ BreaksAt n all place
