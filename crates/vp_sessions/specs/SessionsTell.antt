-- What the answer of `sessions` tells.
use Rattle.std.specs.Prelude.{◌≡◌, ◌↔◌, ◌⊎◌, ◌<◌, ◌≤◌, ℕ, true, List, [], ◌∷◌, ◌++◌, length, Some, None, Ok, codes}
use Rattle.std.specs.List.{AllByRecursion}
use Rattle.vp_text.specs.Lines.{Word}
use Rattle.vp_text.specs.Written.{line_of}
use Rattle.vp_pay.specs.declared.table.PayTable.{PayTable}
use Rattle.vp_loggram.specs.Logs.{IsLog}
use Rattle.vp_csv.specs.Records.{Record, records_in}
use Rattle.vp_csv.specs.Rules.{knows, names_of, refused_record}
use Rattle.vp_csv.specs.Sessions.{Session, behind_first, own, session_of, sessions_of}
use Rattle.vp_replay.specs.Replay.{log_file, replay_answer, replay_job}
use Rattle.vp_answer.specs.Answers.{Answer, answer_of, record_refusal}
use Rattle.vp_answer.specs.declared.status.Status.TheVariants.{Done, Finding}
use Rattle.vp_sessions.specs.Sessions.{is_unlawful, session_text, sessions_due, sessions_input, sessions_text, unlawful}

-- what `sessions` answers to a pay table and a CSV text
abbrev pub sessions_answer : PayTable → List ℕ → Answer
sessions_answer table csv = answer_of (sessions_due (record { table = table; csv = csv })).said

-- ---- each session is replayed by itself

-- what is written of the pay table and the log of a session is short enough to be an input of `replay`; the lines of the session are its
-- name, and the answer of `replay` to it; it is unlawful where that is a finding
pub record IsReplayedAlone (table : PayTable) (s : Session) : Type 0 where
  pub log : IsLog table.deck s.log
  pub short : length (log_file table s.log) ≤ 67108864
  pub lines : session_text table s ≡ line_of (codes "session" ∷ s.name ∷ []) ++ (replay_answer (replay_job (log_file table s.log))).text
  pub judged : is_unlawful table s ≡ true ↔ ((replay_answer (replay_job (log_file table s.log))).status ≡ Finding)

-- each record keeps its rule, and the answer is the lines of each session, in the order of the records that open them, and then how many
-- there are and how many are unlawful; it is a finding where any is
pub record TellsSessions (table : PayTable) (csv : List ℕ) (due : Answer) : Type 0 where
  pub kept : refused_record table.deck csv ≡ None
  pub text : due.text ≡ sessions_text table (sessions_of table.deck csv)
  pub finding : due.status ≡ Finding ↔ 0 < unlawful table (sessions_of table.deck csv)
  pub lawful : due.status ≡ Done ↔ (unlawful table (sessions_of table.deck csv) ≡ 0)
  pub alone : AllByRecursion (IsReplayedAlone table) (sessions_of table.deck csv)

-- a record breaks its rule, and the answer names the first that does
pub record NamesRecord (table : PayTable) (csv : List ℕ) (due : Answer) : Type 0 where
  pub place : ℕ
  pub first : refused_record table.deck csv ≡ Some place
  pub named : due ≡ record_refusal place

-- the answer of `sessions` to each pay table and CSV text that it takes
abbrev pub SessionsAreReplayed : Type 0
SessionsAreReplayed = (bytes : List ℕ) (table : PayTable) (csv : List ℕ) → sessions_input bytes ≡ Ok (table, csv)
    → TellsSessions table csv (sessions_answer table csv) ⊎ NamesRecord table csv (sessions_answer table csv)

-- ---- no session changes another

-- the records behind the header
abbrev pub games_in : List ℕ → List Record
games_in csv = behind_first (records_in csv)

-- these lines stand in the text
pub record HasLines (text lines : List ℕ) : Type 0 where
  pub front : List ℕ
  pub behind : List ℕ
  pub is : text ≡ front ++ (lines ++ behind)

-- the lines of a session in the answer to an input
abbrev pub lines_of : PayTable → List ℕ → Word → List ℕ
lines_of table csv name = session_text table (session_of table.deck (games_in csv) name)

-- Each session that a CSV text names has its lines in the answer. Where it has the same records in the same order in another text, these
-- lines are the same, whatever the other sessions' records are and wherever they stand.
pub record SessionsAreApart : Type 0 where
  pub lines : (bytes : List ℕ) (table : PayTable) (csv : List ℕ) (name : Word) → sessions_input bytes ≡ Ok (table, csv) → refused_record table.deck csv ≡ None
      → knows name (names_of (games_in csv)) ≡ true → HasLines (sessions_answer table csv).text (lines_of table csv name)
  pub same : (table : PayTable) (csv other : List ℕ) (name : Word) → own name (games_in csv) ≡ own name (games_in other)
      → lines_of table csv name ≡ lines_of table other name
