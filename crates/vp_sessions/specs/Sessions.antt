-- `sessions`: what its input says, what is said of each session, and what is answered. Input and text are this program's own
-- (docs/FORMATS.md, `vpoker sessions`).
use Rattle.std.specs.Prelude.{◌≡◌, ◌==◌, ◌<◌, ◌*◌, ℕ, Bool, List, [], ◌∷◌, ◌++◌, filter, flat_map, length, Option, Some, None, is_some, Result, Ok, codes, if◌then◌else◌}
use Rattle.std.specs.Fmt.{decimal}
use Rattle.vp_text.specs.Lines.{Feed, feed_of, rest_of}
use Rattle.vp_text.specs.Reading.{◌>>=◌}
use Rattle.vp_text.specs.Sections.{Refuses, Starts}
use Rattle.vp_text.specs.Written.{line_of}
use Rattle.vp_pay.specs.Inputs.{AreRead}
use Rattle.vp_pay.specs.Sections.{table_at}
use Rattle.vp_pay.specs.Spelling.{table_text}
use Rattle.vp_pay.specs.Table.{IsTable}
use Rattle.vp_pay.specs.declared.table.PayTable.{PayTable}
use Rattle.vp_count.specs.Table.{first_word}
use Rattle.vp_loggram.specs.Logs.{LogValue}
use Rattle.vp_csv.specs.Rules.{refused_record}
use Rattle.vp_csv.specs.Sessions.{Session, sessions_of}
use Rattle.vp_replay.specs.Replay.{judged_log, replay_answer}
use Rattle.vp_replay.specs.Rules.{break_in}
use Rattle.vp_answer.specs.Answers.{Answer, Said, record_refusal}
use Rattle.vp_answer.specs.Jobs.{DueOf, read_as}
use Rattle.vp_answer.proofs.SomeAnswers.{line_behind, line_some}
use Rattle.vp_answer.specs.declared.ending.Ending.{Ending}
use Rattle.vp_answer.specs.declared.ending.Ending.TheVariants.{Done, Finding, Refused}
use Rattle.vp_answer.specs.declared.stop.Stop.{Stop}

-- what an input of `sessions` says: a pay table, and all bytes behind the line feed of its last line, which are the CSV text; or the line
-- where the table is refused
abbrev pub sessions_input : List ℕ → Result (PayTable × List ℕ) ℕ
sessions_input bytes = do
  read ← table_at (feed_of bytes)
  Ok (read.0, rest_of read.1)

-- a pay table, and the CSV text behind it
pub record Mixed : Type 0 where
  pub table : PayTable
  pub csv : List ℕ

-- ---- one session

-- what `replay` answers to a log: what its holds cost and its numbers, or its first broken law
abbrev pub log_answer : PayTable → LogValue → Answer
log_answer table log = replay_answer (judged_log table log)

-- the lines of a session: its name, and what `replay` answers to its log
unfoldable pub session_text : PayTable → Session → List ℕ
session_text table s = line_of (codes "session" ∷ s.name ∷ []) ++ (log_answer table s.log).text

-- its log breaks a law
abbrev pub is_unlawful : PayTable → Session → Bool
is_unlawful table s = is_some (break_in table s.log)

-- ---- all sessions

-- how many sessions break a law
unfoldable pub unlawful : PayTable → List Session → ℕ
unlawful table sessions = length (filter (is_unlawful table) sessions)

-- the lines of each session, in their order, and then how many there are and how many are unlawful
unfoldable pub sessions_text : PayTable → List Session → List ℕ
sessions_text table sessions =
    flat_map (session_text table) sessions ++ line_of (codes "sessions" ∷ decimal (length sessions) ∷ decimal (unlawful table sessions) ∷ [])

-- an unlawful session is a finding, so many being unlawful
abbrev pub ending_by : ℕ → Ending
ending_by count = if count == 0 then Done else Finding

-- what is said of sessions whose records keep their rules
abbrev pub found : PayTable → List Session → Said
found table sessions = record { ending = ending_by (unlawful table sessions); text = sessions_text table sessions }

-- what is said where this record is the first that breaks its rule
abbrev pub by_record : Mixed → Option ℕ → Said
by_record m (Some place) = record { ending = Refused; text = (record_refusal place).text }
by_record m None = found m.table (sessions_of m.table.deck m.csv)

-- what `sessions` says of a pay table and a CSV text
unfoldable pub sessions_said : Mixed → Said
sessions_said m = by_record m (refused_record m.table.deck m.csv)

-- a table of sums for each bet, and what is said
abbrev pub sessions_due : Mixed → DueOf
sessions_due m = record { words = m.table.coins * first_word m.table.deck 6; said = sessions_said m }

-- that of a refused record, or the last line
abbrev pub said_some : (m : Mixed) (o : Option ℕ) → 0 < length (by_record m o).text
unfolding sessions_text
said_some m (Some place) = line_some (codes "refused" ∷ codes "record" ∷ decimal place ∷ [])
said_some m None =
    let sessions = sessions_of m.table.deck m.csv in
    line_behind (flat_map (session_text m.table) sessions) (codes "sessions" ∷ decimal (length sessions) ∷ decimal (unlawful m.table sessions) ∷ [])

-- it has a line
abbrev pub sessions_some : (m : Mixed) → 0 < length (sessions_due m).said.text
unfolding sessions_said
sessions_some m = said_some m (refused_record m.table.deck m.csv)

-- what an input leaves to do
abbrev pub sessions_job : List ℕ → Result Mixed Stop
sessions_job bytes = read_as (λ read. record { table = read.0; csv = read.1 }) (sessions_input bytes)

-- ---- its input

-- a valid table stands at the front, and these are the bytes behind the line feed of its last line
pub record IsMixed (bytes : List ℕ) (read : PayTable × List ℕ) : Type 0 where
  pub table : IsTable read.0
  pub left : Feed
  pub front : Starts table_text (feed_of bytes) read.0 left
  pub csv : read.1 ≡ rest_of left

-- a pay table, whatever follows; it is refused at the first line with which the lines so far begin no table, or past the end
abbrev pub SessionsInputsAreRead : Type 0
SessionsInputsAreRead = AreRead sessions_input IsMixed (λ bytes line. Refuses table_text IsTable (feed_of bytes) line)
