-- What is known of the answers, command by command, from the words and the bytes on.
use Rattle.std.specs.Prelude.{◌≡◌, ◌≤◌, ◌⊎◌, ◌↔◌, ℕ, true, List, [], ◌∷◌, ◌++◌, length, Some, None, Result, Ok, codes}
use Rattle.std.specs.List.{All, AllByRecursion}
use Rattle.vp_text.specs.Lines.{Word}
use Rattle.vp_text.specs.Written.{line_of, written}
use Rattle.vp_pay.specs.Spelling.{table_text}
use Rattle.vp_pay.specs.declared.table.PayTable.{PayTable}
use Rattle.vp_answer.specs.Answers.{Answer, done}
use Rattle.vp_answer.specs.declared.status.Status.TheVariants.{Done, Finding}
use Rattle.vp_command.specs.Commands.{command_of}
use Rattle.vp_command.specs.declared.command.Command.TheVariants.{Over}
use Rattle.vp_command.specs.declared.command.Task.{Task}
use Rattle.vp_command.specs.declared.command.Task.TheVariants as task
use Rattle.vp_audit.specs.Audit.{audit_input, audit_lines}
use Rattle.vp_audit.specs.AuditTells.{PrintsLoss}
use Rattle.vp_audit.specs.Compile.{Pooled, compile_input}
use Rattle.vp_audit.specs.CompileTells.{IsAudited, TellsList, listed}
use Rattle.vp_cert.specs.Certify.{certify_input}
use Rattle.vp_cert.specs.CertifyTells.{PrintsAll}
use Rattle.vp_check.specs.Certificates.{Certificate}
use Rattle.vp_check.specs.EveryDeal.{TellsEveryDeal, TellsWalkedDeals}
use Rattle.vp_check.specs.Parts.{AreWalked, Walk}
use Rattle.vp_check.specs.Spelling.{SpellsCertificate}
use Rattle.vp_cross.specs.Cross.{cross_input}
use Rattle.vp_cross.specs.CrossTells.{PrintsCross}
use Rattle.vp_csv.specs.Rules.{knows, names_of, refused_record}
use Rattle.vp_csv.specs.Sessions.{Session, sessions_of}
use Rattle.vp_deal.specs.Deal.{deal_input}
use Rattle.vp_deal.specs.DealTells.{PrintsHold}
use Rattle.vp_gen.specs.Play.{Played, log_of, play_input}
use Rattle.vp_gen.specs.PlayTells.{TellsPlay}
use Rattle.vp_hits.specs.HitsJob.{hits_input}
use Rattle.vp_hits.specs.HitsTells.{PrintsChances}
use Rattle.vp_holds.specs.HoldsTell.{PrintsHolds}
use Rattle.vp_meter.specs.Meter.{meter_input}
use Rattle.vp_meter.specs.MeterTells.{PrintsMeter}
use Rattle.vp_multi.specs.Multi.{multi_input}
use Rattle.vp_multi.specs.MultiTells.{PrintsMoments}
use Rattle.vp_replay.specs.Replay.{log_file, replay_input}
use Rattle.vp_replay.specs.ReplayTells.{NamesBreak, TellsCosts}
use Rattle.vp_replay.specs.Summaries.{replay_lines}
use Rattle.vp_sessions.specs.Sessions.{is_unlawful, session_text, sessions_input}
use Rattle.vp_sessions.specs.SessionsTell.{HasLines, NamesRecord, TellsSessions, games_in, lines_of}
use Rattle.vp_run.specs.Answer.{answer}

-- words are this task
abbrev pub Asks : List Word → Task → Type 0
Asks words task = command_of words ≡ Some (Over task)

-- whatever an input of a task says, the answer tells it so
abbrev pub Tells : {A : Type 0} → Task → (List ℕ → Result A ℕ) → (A → Answer → Type 0) → Type 0
Tells {A} task input IsTold = (words : List Word) (bytes : List ℕ) (read : A)
    → Asks words task → input bytes ≡ Ok read → IsTold read (answer words bytes)

-- ---- the commands over a pay table, alone or with a section behind it

-- `deal` prints a best hold of the deal
abbrev pub DealsPrintBestHolds : Type 0
DealsPrintBestHolds = (coin : ℕ) → Tells (task.Deal coin) (deal_input coin)
    (λ read. PrintsHold (record { table = read.0; coin = coin; hand = read.1 }))

-- `holds` prints each hold of the deal, with its mean payment and how many of its draws end on each pay line
abbrev pub HoldsTellEveryHold : Type 0
HoldsTellEveryHold = (coin : ℕ) → Tells (task.Holds coin) (deal_input coin)
    (λ read. PrintsHolds (record { table = read.0; coin = coin; hand = read.1 }))

-- `certify` prints a certificate that tells the best hold and the value of every deal
abbrev pub CertificatesTellEveryDeal : Type 0
CertificatesTellEveryDeal = (coin : ℕ) → Tells (task.Certify coin) (certify_input coin)
    (λ read. PrintsAll read.0 coin)

-- `audit` prints what the list loses
abbrev pub AuditsPrintLosses : Type 0
AuditsPrintLosses = (coin : ℕ) → Tells (task.Audit coin) (audit_input coin)
    (λ read. PrintsLoss (record { table = read.0; coin = coin; list = read.1 }))

-- `cross` prints what the best play of the first pay table is worth on the second
abbrev pub CrossesPricePlay : Type 0
CrossesPricePlay = (coin : ℕ) → Tells (task.Cross coin) (cross_input coin)
    (λ read. PrintsCross (record { played = read.0; priced = read.1; coin = coin }))

-- `multi` prints the moments of the total payment of several hands from one deal
abbrev pub MultisPrintMoments : Type 0
MultisPrintMoments = (coin hands : ℕ) → Tells (task.Multi coin hands) (multi_input coin)
    (λ read. PrintsMoments (record { table = read.0; coin = coin; hands = hands }))

-- `hits` prints the chances of the pay lines under the printed holds
abbrev pub HitsPrintChances : Type 0
HitsPrintChances = (coin : ℕ) → Tells (task.Hits coin) (hits_input coin)
    (λ read. PrintsChances (record { table = read.0; coin = coin }))

-- `meter` prints the best holds of every deal at every whole payment of its range
abbrev pub MetersAreTold : Type 0
MetersAreTold = (coin lo hi : ℕ) (name : Word) → Tells (task.Meter coin name lo hi) (meter_input coin name)
    (λ read. PrintsMeter read.0 coin name lo hi)

-- `compile` prints a list out of the pool, with what it loses
abbrev pub CompiledListsLoseLittle : Type 0
CompiledListsLoseLittle = (coin millionths : ℕ) → Tells (task.Compile coin millionths) (compile_input coin)
    (λ read. TellsList (record { table = read.0; coin = coin; millionths = millionths; pool = read.1 }))

-- behind its pay table the list is an input of `audit`, which answers what it loses
pub record IsAuditedSo (p : Pooled) (due : Answer) : Type 0 where
  pub audited : IsAudited p due.text
  pub answered : (words : List Word) (file : List ℕ) → file ≡ written (table_text p.table) ++ due.text → Asks words (task.Audit p.coin)
      → answer words file ≡ done (written (audit_lines (listed p)))

-- each list that `compile` prints is audited so
abbrev pub CompiledListsAreAudited : Type 0
CompiledListsAreAudited = (coin millionths : ℕ) → Tells (task.Compile coin millionths) (compile_input coin)
    (λ read. IsAuditedSo (record { table = read.0; coin = coin; millionths = millionths; pool = read.1 }))

-- ---- logs

-- `replay` prints what the holds of the log cost, or names the first game that breaks a law
abbrev pub ReplaysTellCosts : Type 0
ReplaysTellCosts = Tells task.Replay replay_input
    (λ read due. TellsCosts read.0 read.1 due ⊎ NamesBreak read.0 read.1 due)

-- the log that is made breaks no law, and `replay` answers it with the same numbers
pub record TellsPlayed (p : Played) (due : Answer) : Type 0 where
  pub played : TellsPlay p due
  pub replayed : (words : List Word) → Asks words task.Replay
      → answer words (log_file p.table (log_of p)) ≡ done (written (replay_lines p.table (log_of p)))

-- `play` prints the numbers of such a log
abbrev pub PlaysAreReplayed : Type 0
PlaysAreReplayed = (coin seed games : ℕ) → Tells (task.Play coin seed games) (play_input coin)
    (λ read. TellsPlayed (record { table = read.0; coin = coin; seed = seed; games = games }))

-- the lines of a session are its name, and what `replay` answers to its log alone; it is unlawful where that is a finding
pub record IsAnsweredAlone (table : PayTable) (s : Session) : Type 0 where
  pub lines : (words : List Word) → Asks words task.Replay
      → session_text table s ≡ line_of (codes "session" ∷ s.name ∷ []) ++ (answer words (log_file table s.log)).text
  pub judged : (words : List Word) → Asks words task.Replay
      → is_unlawful table s ≡ true ↔ ((answer words (log_file table s.log)).status ≡ Finding)

-- each session is answered as `replay` answers it alone
pub record TellsEachSession (table : PayTable) (csv : List ℕ) (due : Answer) : Type 0 where
  pub sessions : TellsSessions table csv due
  pub alone : AllByRecursion (IsAnsweredAlone table) (sessions_of table.deck csv)

-- `sessions` prints the lines of each session, or names the first record that breaks its rule
abbrev pub SessionsAreReplayed : Type 0
SessionsAreReplayed = Tells task.Sessions sessions_input
    (λ read due. TellsEachSession read.0 read.1 due ⊎ NamesRecord read.0 read.1 due)

-- each session that a CSV text names has its lines in the answer
abbrev pub HasEachSession : PayTable × List ℕ → Answer → Type 0
HasEachSession read due = (name : Word) → refused_record read.0.deck read.1 ≡ None
    → knows name (names_of (games_in read.1)) ≡ true
    → HasLines due.text (lines_of read.0 read.1 name)

-- `sessions` leaves out no session that the CSV text names
abbrev pub SessionsAreInTheAnswer : Type 0
SessionsAreInTheAnswer = Tells task.Sessions sessions_input HasEachSession

-- ---- certificates that are checked

-- a check of all class lines that finds no broken rule
abbrev pub ChecksTellEveryDeal : Type 0
ChecksTellEveryDeal = (words : List Word) (count : ℕ) (bytes : List ℕ) (c : Certificate)
    → Asks words (task.Check 1 count) → SpellsCertificate bytes c → length c.classes ≤ count
    → (answer words bytes).status ≡ Done → TellsEveryDeal c

-- a check of some class lines that finds no broken rule
abbrev pub ChecksTellWalkedDeals : Type 0
ChecksTellWalkedDeals = (words : List Word) (from count : ℕ) (bytes : List ℕ) (c : Certificate)
    → Asks words (task.Check from count) → SpellsCertificate bytes c
    → (answer words bytes).status ≡ Done → TellsWalkedDeals from count c

-- `check`, walking these class lines, finds no broken rule in this text
pub record IsYes (bytes : List ℕ) (walk : Walk) : Type 0 where
  pub words : List Word
  pub asks : Asks words (task.Check walk.from walk.count)
  pub yes : (answer words bytes).status ≡ Done

-- some calls of `check`, of one text, of which each is a yes
pub record AreYes (bytes : List ℕ) (walks : List Walk) : Type 0 where
  pub some : 1 ≤ length walks
  pub each : All (IsYes bytes) walks

-- together they tell the deals of all class lines of a range that some of them walks
abbrev pub PartsTellWalkedDeals : Type 0
PartsTellWalkedDeals = (bytes : List ℕ) (c : Certificate) (walks : List Walk) (from count : ℕ)
    → SpellsCertificate bytes c → AreYes bytes walks → AreWalked walks from count c → TellsWalkedDeals from count c

-- where they walk all class lines they tell every deal
abbrev pub PartsTellEveryDeal : Type 0
PartsTellEveryDeal = (bytes : List ℕ) (c : Certificate) (walks : List Walk)
    → SpellsCertificate bytes c → AreYes bytes walks → AreWalked walks 1 (length c.classes) c → TellsEveryDeal c

-- the text is an input of `check`, short enough to be read, in which it finds no broken rule, whatever class lines are walked
pub record IsCheckedWell (due : Answer) : Type 0 where
  pub short : length due.text ≤ 67108864
  pub well : (words : List Word) (from count : ℕ) → Asks words (task.Check from count) → (answer words due.text).status ≡ Done

-- `certify` prints a certificate that `check` finds no broken rule in
abbrev pub CertificatesAreChecked : Type 0
CertificatesAreChecked = (coin : ℕ) → Tells (task.Certify coin) (certify_input coin)
    (λ read. IsCheckedWell)
