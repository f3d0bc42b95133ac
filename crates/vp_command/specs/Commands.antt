-- The words of the commands. They are this program's own (docs/FORMATS.md, Commands).
use Rattle.std.specs.Prelude.{◌≡◌, ◌↔◌, ℕ, ◌^◌, ◌<◌, ◌≤◌, Bool, true, false, List, [], ◌∷◌, Option, Some, None, option_map, bytes_eq, codes, if◌then◌else◌}
use Rattle.std.specs.Fmt.{decimal}
use Rattle.vp_text.specs.Lines.{Word}
use Rattle.vp_text.specs.Numbers.{number_of, number_within}
use Rattle.vp_text.specs.Pieces.{◌>>=◌}
use Rattle.vp_pay.specs.Names.{is_name}
use Rattle.vp_command.specs.declared.command.Command.{Command}
use Rattle.vp_command.specs.declared.command.Command.TheVariants.{Over, Tables}
use Rattle.vp_command.specs.declared.command.Task.{Task}
use Rattle.vp_command.specs.declared.command.Task.TheVariants.{Certify, Check, Deal, Holds, Replay, Sessions, Meter, Audit, Multi, Play, Compile, Cross, Hits}

-- ---- how a command is spelled

-- the words of a task: its name, and its numbers in decimal digits
abbrev pub task_words : Task → List Word
task_words (Deal coin) = codes "deal" ∷ decimal coin ∷ []
task_words (Holds coin) = codes "holds" ∷ decimal coin ∷ []
task_words (Certify coin) = codes "certify" ∷ decimal coin ∷ []
task_words (Audit coin) = codes "audit" ∷ decimal coin ∷ []
task_words (Cross coin) = codes "cross" ∷ decimal coin ∷ []
task_words (Check from count) = codes "check" ∷ decimal from ∷ decimal count ∷ []
task_words Replay = codes "replay" ∷ []
task_words Sessions = codes "sessions" ∷ []
task_words (Meter coin line lo hi) =
    codes "meter" ∷ decimal coin ∷ line ∷ decimal lo ∷ decimal hi ∷ []
task_words (Multi coin hands) = codes "multi" ∷ decimal coin ∷ decimal hands ∷ []
task_words (Hits coin) = codes "hits" ∷ decimal coin ∷ []
task_words (Play coin seed games) =
    codes "play" ∷ decimal coin ∷ decimal seed ∷ decimal games ∷ []
task_words (Compile coin millionths) =
    codes "compile" ∷ decimal coin ∷ decimal millionths ∷ []

-- the words of a command
abbrev pub command_words : Command → List Word
command_words Tables = codes "tables" ∷ []
command_words (Over task) = task_words task

-- the first class line that is walked is 1 to 200000, and 0 to 200000 are
pub record IsRange (from count : ℕ) : Type 0 where
  pub some : 1 ≤ from
  pub most_from : from ≤ 200000
  pub most_count : count ≤ 200000

-- a bet is 1 to 5, the line is a name, and the payments go from the least to the greatest, which is at most 500000
pub record IsMeter (coin : ℕ) (line : Word) (lo hi : ℕ) : Type 0 where
  pub some : 1 ≤ coin
  pub most : coin ≤ 5
  pub name : is_name line ≡ true
  pub order : lo ≤ hi
  pub most_payment : hi ≤ 500000

-- a bet is 1 to 5, and 1 to 100 hands are drawn
pub record AreHands (coin hands : ℕ) : Type 0 where
  pub some_coin : 1 ≤ coin
  pub most_coin : coin ≤ 5
  pub some : 1 ≤ hands
  pub most : hands ≤ 100

-- a bet is 1 to 5, a seed has 64 bits, and 1 to 100000 games are made
pub record IsPlay (coin seed games : ℕ) : Type 0 where
  pub some_coin : 1 ≤ coin
  pub most_coin : coin ≤ 5
  pub most_seed : seed < 2 ^ 64
  pub some : 1 ≤ games
  pub most : games ≤ 100000

-- a bet is 1 to 5, and 0 to 1000000 millionths may be lost
pub record IsCompile (coin millionths : ℕ) : Type 0 where
  pub some_coin : 1 ≤ coin
  pub most_coin : coin ≤ 5
  pub most : millionths ≤ 1000000

-- the numbers of a task are in range: a bet is 1 to 5
abbrev pub InRange : Task → Type 0
InRange (Deal coin) = (1 ≤ coin) × (coin ≤ 5)
InRange (Holds coin) = (1 ≤ coin) × (coin ≤ 5)
InRange (Certify coin) = (1 ≤ coin) × (coin ≤ 5)
InRange (Audit coin) = (1 ≤ coin) × (coin ≤ 5)
InRange (Cross coin) = (1 ≤ coin) × (coin ≤ 5)
InRange (Check from count) = IsRange from count
InRange Replay = Unit {0}
InRange Sessions = Unit {0}
InRange (Meter coin line lo hi) = IsMeter coin line lo hi
InRange (Multi coin hands) = AreHands coin hands
InRange (Hits coin) = (1 ≤ coin) × (coin ≤ 5)
InRange (Play coin seed games) = IsPlay coin seed games
InRange (Compile coin millionths) = IsCompile coin millionths

-- the same of a command
abbrev pub AreInRange : Command → Type 0
AreInRange Tables = Unit {0}
AreInRange (Over task) = InRange task

-- ---- how it is read

-- the bet that a word spells
unfoldable pub coin_of : Word → Option ℕ
coin_of word = number_within 1 5 word

-- a bet, for this task
abbrev pub bet : (ℕ → Task) → List Word → Option Task
bet task (number ∷ []) = option_map task (coin_of number)
bet task _ = None

-- the place of the first class line that is walked, and how many are
abbrev pub lines_of : Word → Word → Option Task
lines_of first second = do
  from ← number_within 1 200000 first
  count ← number_within 0 200000 second
  Some (Check from count)

-- the same, of two words
abbrev pub check : List Word → Option Task
check (first ∷ second ∷ []) = lines_of first second
check _ = None

-- a bet, the name of a line, and the least and the greatest payment
abbrev pub meter_of : Word → Word → Word → Word → Option Task
meter_of bet line least greatest = do
  coin ← coin_of bet
  name ← (if is_name line then Some line else None)
  hi ← number_within 0 500000 greatest
  lo ← number_within 0 hi least
  Some (Meter coin name lo hi)

-- the same, of four words
abbrev pub meter : List Word → Option Task
meter (coin ∷ line ∷ lo ∷ hi ∷ []) = meter_of coin line lo hi
meter _ = None

-- a bet, and the number of hands
abbrev pub hands_of : Word → Word → Option Task
hands_of first second = do
  coin ← coin_of first
  hands ← number_within 1 100 second
  Some (Multi coin hands)

-- the same, of two words
abbrev pub multi : List Word → Option Task
multi (first ∷ second ∷ []) = hands_of first second
multi _ = None

-- a bet, a seed, and the number of games
abbrev pub play_of : Word → Word → Word → Option Task
play_of first second third = do
  coin ← coin_of first
  seed ← number_of second
  games ← number_within 1 100000 third
  Some (Play coin seed games)

-- the same, of three words
abbrev pub play : List Word → Option Task
play (first ∷ second ∷ third ∷ []) = play_of first second third
play _ = None

-- a bet, and how many millionths may be lost
abbrev pub compile_of : Word → Word → Option Task
compile_of first second = do
  coin ← coin_of first
  millionths ← number_within 0 1000000 second
  Some (Compile coin millionths)

-- the same, of two words
abbrev pub compile : List Word → Option Task
compile (first ∷ second ∷ []) = compile_of first second
compile _ = None

-- the task that a word and its numbers are
unfoldable pub task_of : Word → List Word → Option Task
task_of word numbers =
    if bytes_eq word (codes "deal") then bet Deal numbers
    else (if bytes_eq word (codes "holds") then bet Holds numbers
    else (if bytes_eq word (codes "certify") then bet Certify numbers
    else (if bytes_eq word (codes "audit") then bet Audit numbers
    else (if bytes_eq word (codes "cross") then bet Cross numbers
    else (if bytes_eq word (codes "check") then check numbers
    else (if bytes_eq word (codes "meter") then meter numbers
    else (if bytes_eq word (codes "multi") then multi numbers
    else (if bytes_eq word (codes "hits") then bet Hits numbers
    else (if bytes_eq word (codes "play") then play numbers
    else (if bytes_eq word (codes "compile") then compile numbers
    else None))))))))))

-- the command of a word alone
abbrev pub alone : Word → Option Command
alone word =
    if bytes_eq word (codes "tables") then Some Tables
    else (if bytes_eq word (codes "replay") then Some (Over Replay)
    else (if bytes_eq word (codes "sessions") then Some (Over Sessions)
    else None))

-- the command that the words are, if they are one
unfoldable pub command_of : List Word → Option Command
command_of [] = None
command_of (word ∷ []) = alone word
command_of (word ∷ number ∷ more) = option_map Over (task_of word (number ∷ more))

-- the command reads its input
abbrev pub reads : Command → Bool
reads Tables = false
reads (Over task) = true

-- ---- words are a command exactly where they spell it with its numbers in range
abbrev pub CommandsAreSpelled : Type 0
CommandsAreSpelled = (words : List Word) (command : Command)
    → command_of words ≡ Some command ↔ (words ≡ command_words command) × AreInRange command
