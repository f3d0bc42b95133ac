-- What the job of a command says is what the words and the bytes are answered with.
use Rattle.std.proofs.Common.{◌≡◌, ◌≤◌, ℕ, true, List, [], ◌∷◌, ◌++◌, length, inl, inr, refl, sym, ap, subst, ◌∙◌, Some, None, Result, Ok, Err}
use Rattle.std.specs.Prelude.{◌⊎◌, codes}
use Rattle.std.specs.List.{All, AllByRecursion}
use Rattle.vp_text.specs.Lines.{Word}
use Rattle.vp_text.specs.Written.{line_of, written}
use Rattle.vp_pay.specs.declared.table.PayTable.{PayTable}
use Rattle.vp_answer.specs.Answers.{Answer, answer_of, answer_read, done}
use Rattle.vp_answer.specs.Jobs.{as_job, job_answer, read_as}
use Rattle.vp_answer.specs.declared.status.Status.TheVariants.{Done}
use Rattle.vp_answer.specs.declared.stop.Stop.{Stop}
use Rattle.vp_answer.specs.declared.stop.Stop.TheVariants.{Finding as Found, Record, Refused as Refusal}
use Rattle.vp_answer.specs.declared.work.Job.{Job}
use Rattle.vp_answer.specs.declared.work.Job.TheVariants.{Lent, Heap}
use Rattle.vp_command.specs.Commands.{InRange, command_of}
use Rattle.vp_command.specs.declared.command.Command.TheVariants.{Over}
use Rattle.vp_command.specs.declared.command.Task.{Task}
use Rattle.vp_command.specs.declared.command.Task.TheVariants as task
use Rattle.vp_command.proofs.CommandWords.{in_range}
use Rattle.vp_audit.specs.Audit.{audit_input, audit_job}
use Rattle.vp_audit.specs.Compile.{Pooled, compile_input}
use Rattle.vp_rule.specs.Lists.{RulePool}
use Rattle.vp_audit.specs.AuditTells.{PrintsLoss}
use Rattle.vp_audit.specs.CompileTells.{TellsList}
use Rattle.vp_audit.proofs.AuditTells.{losses_printed}
use Rattle.vp_audit.proofs.CompileTells.{lists_audited, lists_lose_little}
use Rattle.vp_cert.specs.Certify.{certify_input}
use Rattle.vp_cert.specs.CertifyTells.{PrintsAll}
use Rattle.vp_cert.proofs.CertifyTells.{certificates_checked, certificates_tell}
use Rattle.vp_check.specs.Certificates.{Certificate}
use Rattle.vp_check.specs.CheckJob.{check_job, check_read}
use Rattle.vp_check.specs.CheckedInParts.{AreYes as AreYesJobs, IsYes as IsYesJob}
use Rattle.vp_check.specs.Parts.{Walk}
use Rattle.vp_check.specs.declared.finding.Checked.{Checked}
use Rattle.vp_check.proofs.CheckTells.{checks_tell, checks_tell_walked}
use Rattle.vp_check.proofs.CheckedInParts.{parts_tell, parts_tell_walked}
use Rattle.vp_cross.specs.Cross.{cross_input}
use Rattle.vp_cross.specs.CrossTells.{PrintsCross}
use Rattle.vp_cross.proofs.CrossTells.{crosses_price}
use Rattle.vp_csv.specs.Sessions.{Session, sessions_of}
use Rattle.vp_deal.specs.Deal.{deal_input}
use Rattle.vp_deal.specs.DealTells.{PrintsHold}
use Rattle.vp_deal.proofs.DealTells.{deals_print}
use Rattle.vp_gen.specs.Play.{play_input}
use Rattle.vp_gen.proofs.PlayTells.{plays_replayed}
use Rattle.vp_hits.specs.HitsJob.{hits_input}
use Rattle.vp_hits.specs.HitsTells.{PrintsChances}
use Rattle.vp_hits.proofs.HitsTells.{hits_print}
use Rattle.vp_holds.specs.HoldsTell.{PrintsHolds}
use Rattle.vp_holds.proofs.HoldsTell.{holds_tell}
use Rattle.vp_meter.specs.Meter.{meter_input, metering_of}
use Rattle.vp_meter.specs.MeterTells.{PrintsMeter}
use Rattle.vp_meter.proofs.MeterTells.{meters_told}
use Rattle.vp_multi.specs.Multi.{multi_input}
use Rattle.vp_multi.specs.MultiTells.{PrintsMoments}
use Rattle.vp_multi.proofs.MultiTells.{multis_print}
use Rattle.vp_replay.specs.ReplayTells.{NamesBreak, TellsCosts}
use Rattle.vp_replay.specs.Replay.{Logged, log_file, replay_answer, replay_input, replay_job}
use Rattle.vp_replay.proofs.ReplayTells.{replays_tell}
use Rattle.vp_sessions.specs.Sessions.{session_text, sessions_input}
use Rattle.vp_sessions.specs.SessionsTell.{IsReplayedAlone, NamesRecord, TellsSessions}
use Rattle.vp_sessions.proofs.SessionsTell.{sessions_apart, sessions_replayed}
use Rattle.vp_run.specs.Answer.{answer, heap_due, job_of, lent_due, task_answer}
use Rattle.vp_run.specs.CommandLaws.{Asks, AreYes, AuditsPrintLosses, CertificatesAreChecked, CertificatesTellEveryDeal, ChecksTellEveryDeal, ChecksTellWalkedDeals, CompiledListsAreAudited, CompiledListsLoseLittle, CrossesPricePlay, DealsPrintBestHolds, HasEachSession, HitsPrintChances, HoldsTellEveryHold, IsAnsweredAlone, IsAuditedSo, IsCheckedWell, IsYes, MetersAreTold, MultisPrintMoments, PartsTellEveryDeal, PartsTellWalkedDeals, PlaysAreReplayed, ReplaysTellCosts, SessionsAreInTheAnswer, SessionsAreReplayed, Tells, TellsEachSession, TellsPlayed}
use Rattle.vp_run.specs.declared.job.HeapJob.{HeapJob}
use Rattle.vp_run.specs.declared.job.HeapJob.TheVariants as heap
use Rattle.vp_run.specs.declared.job.LentJob.{LentJob}
use Rattle.vp_run.specs.declared.job.LentJob.TheVariants as lent
use Rattle.vp_run.proofs.NoCommand.{of_tasks}

-- the answer of what is left to do
abbrev left_answer : Result (Job LentJob HeapJob) Stop → Answer
left_answer read = answer_read (job_answer lent_due heap_due) read

-- the answer to the words of a task is that of what the task leaves to do
due : (words : List Word) (task : Task) (bytes : List ℕ) (read : Result (Job LentJob HeapJob) Stop) → Asks words task → job_of task bytes ≡ read → left_answer read ≡ answer words bytes
due words task bytes read asks left = ap left_answer (sym left) ∙ sym (of_tasks words task bytes asks)

-- what holds of it where the input says something, and the numbers of the task are in range
told : {A : Type 0} (task : Task) (input : List ℕ → Result A ℕ) (work : A → Job LentJob HeapJob) (IsTold : A → Answer → Type 0)
    → ((bytes : List ℕ) (read : A) → input bytes ≡ Ok read → job_of task bytes ≡ Ok (work read))
    → ((bytes : List ℕ) (read : A) → InRange task → input bytes ≡ Ok read → IsTold read (left_answer (Ok (work read))))
    → Tells task input IsTold
told task input work IsTold is law words bytes read asks says =
    subst (IsTold read) (due words task bytes (Ok (work read)) asks (is bytes read says)) (law bytes read (in_range words task asks) says)

pub deals : DealsPrintBestHolds
deals coin = told (task.Deal coin) (deal_input coin) (λ read. Lent (lent.Deal (record { table = read.0; coin = coin; hand = read.1 }))) (λ read. PrintsHold (record { table = read.0; coin = coin; hand = read.1 }))
    (λ bytes read says. ap (λ r. as_job (λ job. Lent (lent.Deal job)) (read_as (λ read. record { table = read.0; coin = coin; hand = read.1 }) r)) says)
    (λ bytes read range says. deals_print coin bytes read.0 read.1 says)

pub holds : HoldsTellEveryHold
holds coin = told (task.Holds coin) (deal_input coin) (λ read. Lent (lent.Holds (record { table = read.0; coin = coin; hand = read.1 }))) (λ read. PrintsHolds (record { table = read.0; coin = coin; hand = read.1 }))
    (λ bytes read says. ap (λ r. as_job (λ job. Lent (lent.Holds job)) (read_as (λ read. record { table = read.0; coin = coin; hand = read.1 }) r)) says)
    (λ bytes read range says. holds_tell coin bytes read.0 read.1 says)

pub certificates : CertificatesTellEveryDeal
certificates coin = told (task.Certify coin) (certify_input coin) (λ read. Lent (lent.Certify (record { table = read.0; coin = coin }))) (λ read. PrintsAll read.0 coin)
    (λ bytes read says. ap (λ r. as_job (λ job. Lent (lent.Certify job)) (read_as (λ read. record { table = read.0; coin = coin }) r)) says)
    (λ bytes read range says. certificates_tell coin bytes read.0 range.0 says)

pub audits : AuditsPrintLosses
audits coin = told (task.Audit coin) (audit_input coin) (λ read. Lent (lent.Audit (record { table = read.0; coin = coin; list = read.1 }))) (λ read. PrintsLoss (record { table = read.0; coin = coin; list = read.1 }))
    (λ bytes read says. ap (λ r. as_job (λ job. Lent (lent.Audit job)) (read_as (λ read. record { table = read.0; coin = coin; list = read.1 }) r)) says)
    (λ bytes read range says. losses_printed coin bytes read.0 read.1 range.0 says)

pub crosses : CrossesPricePlay
crosses coin = told (task.Cross coin) (cross_input coin) (λ read. Lent (lent.Cross (record { played = read.0; priced = read.1; coin = coin }))) (λ read. PrintsCross (record { played = read.0; priced = read.1; coin = coin }))
    (λ bytes read says. ap (λ r. as_job (λ job. Lent (lent.Cross job)) (read_as (λ read. record { played = read.0; priced = read.1; coin = coin }) r)) says)
    (λ bytes read range says. crosses_price coin bytes read.0 read.1 says)

pub multis : MultisPrintMoments
multis coin hands = told (task.Multi coin hands) (multi_input coin) (λ read. Lent (lent.Multi (record { table = read.0; coin = coin; hands = hands }))) (λ read. PrintsMoments (record { table = read.0; coin = coin; hands = hands }))
    (λ bytes read says. ap (λ r. as_job (λ job. Lent (lent.Multi job)) (read_as (λ read. record { table = read.0; coin = coin; hands = hands }) r)) says)
    (λ bytes read range says. multis_print coin hands bytes read.0 says)

pub hits : HitsPrintChances
hits coin = told (task.Hits coin) (hits_input coin) (λ read. Lent (lent.Hits (record { table = read.0; coin = coin }))) (λ read. PrintsChances (record { table = read.0; coin = coin }))
    (λ bytes read says. ap (λ r. as_job (λ job. Lent (lent.Hits job)) (read_as (λ read. record { table = read.0; coin = coin }) r)) says)
    (λ bytes read range says. hits_print coin bytes read.0 says)

pub meters : MetersAreTold
meters coin lo hi name = told (task.Meter coin name lo hi) (meter_input coin name) (λ read. Lent (lent.Meter (record { metering = metering_of coin name read.0; lo = lo; hi = hi }))) (λ read. PrintsMeter read.0 coin name lo hi)
    (λ bytes read says. ap (λ r. as_job (λ job. Lent (lent.Meter job)) (read_as (λ read. record { metering = metering_of coin name read.0; lo = lo; hi = hi }) r)) says)
    (λ bytes read range says. meters_told coin lo hi name bytes read.0 range.some says)

-- what is left to do of a pool
compile_left : (coin millionths : ℕ) (bytes : List ℕ) (read : PayTable × RulePool) → compile_input coin bytes ≡ Ok read
    → job_of (task.Compile coin millionths) bytes ≡ Ok (Heap (heap.Compile (record { table = read.0; coin = coin; millionths = millionths; pool = read.1 })))
compile_left coin millionths bytes read says =
    ap (λ r. as_job (λ job. Heap (heap.Compile job)) (read_as (λ read. record { table = read.0; coin = coin; millionths = millionths; pool = read.1 }) r)) says

pub compiles : CompiledListsLoseLittle
compiles coin millionths = told (task.Compile coin millionths) (compile_input coin) (λ read. Heap (heap.Compile (record { table = read.0; coin = coin; millionths = millionths; pool = read.1 }))) (λ read. TellsList (record { table = read.0; coin = coin; millionths = millionths; pool = read.1 }))
    (compile_left coin millionths)
    (λ bytes read range says. lists_lose_little coin millionths bytes read.0 read.1 range.some_coin range.most says)

pub compiles_audited : CompiledListsAreAudited
compiles_audited coin millionths = told (task.Compile coin millionths) (compile_input coin) (λ read. Heap (heap.Compile (record { table = read.0; coin = coin; millionths = millionths; pool = read.1 }))) (λ read. IsAuditedSo (record { table = read.0; coin = coin; millionths = millionths; pool = read.1 }))
    (compile_left coin millionths)
    (λ bytes read range says.
    let is = lists_audited coin millionths bytes read.0 read.1 range.some_coin range.most says in
    record {
      audited = is;
      answered = λ words file same asks. sym (due words (task.Audit coin) file _ asks (ap (as_job (λ job. Lent (lent.Audit job))) (ap (audit_job coin) same ∙ is.job))) ∙ is.answered;
    })

-- ---- logs

-- the answer of `replay` to an input is that of its job
replayed : (words : List Word) (bytes : List ℕ) → Asks words task.Replay → replay_answer (replay_job bytes) ≡ answer words bytes
replayed words bytes asks = of_job (replay_job bytes) refl ∙ due words task.Replay bytes (as_job (λ job. Lent (lent.Replay job)) (replay_job bytes)) asks refl
  where
    of_job : (read : Result Logged Stop) → replay_job bytes ≡ read → replay_answer read ≡ left_answer (as_job (λ job. Lent (lent.Replay job)) read)
    of_job (Ok log) is = refl
    of_job (Err stop) is = refl

pub replays : ReplaysTellCosts
replays words bytes read asks says =
    subst (λ a. TellsCosts read.0 read.1 a ⊎ NamesBreak read.0 read.1 a) (replayed words bytes asks) (replays_tell bytes read.0 read.1 says)

pub plays : PlaysAreReplayed
plays coin seed games = told (task.Play coin seed games) (play_input coin) (λ read. Heap (heap.Play (record { table = read.0; coin = coin; seed = seed; games = games }))) (λ read. TellsPlayed (record { table = read.0; coin = coin; seed = seed; games = games }))
    (λ bytes read says. ap (λ r. as_job (λ job. Heap (heap.Play job)) (read_as (λ read. record { table = read.0; coin = coin; seed = seed; games = games }) r)) says)
    (λ bytes read range says.
    let is = plays_replayed coin seed games bytes read.0 range.some_coin range.some range.most says in
    record {
      played = is;
      replayed = λ words asks. sym (due words task.Replay _ _ asks (ap (as_job (λ job. Lent (lent.Replay job))) is.replayed.job)) ∙ ap done is.replayed.text;
    })

answered_alone : (table : PayTable) (sessions : List Session) → AllByRecursion (IsReplayedAlone table) sessions → AllByRecursion (IsAnsweredAlone table) sessions
answered_alone table [] all = tt
answered_alone table (s ∷ more) all = (
  record {
    lines = λ words asks. all.0.lines ∙ ap (λ (a : Answer). line_of (codes "session" ∷ s.name ∷ []) ++ a.text) (replayed words (log_file table s.log) asks);
    judged = λ words asks. (
      λ is. ap (λ (a : Answer). a.status) (sym (replayed words (log_file table s.log) asks)) ∙ all.0.judged.0 is,
      λ finding. all.0.judged.1 (ap (λ (a : Answer). a.status) (replayed words (log_file table s.log) asks) ∙ finding),
    );
  },
  answered_alone table more all.1,
)

-- what is left to do of a CSV text
sessions_left : (bytes : List ℕ) (read : PayTable × List ℕ) → sessions_input bytes ≡ Ok read → job_of task.Sessions bytes ≡ Ok (Heap (heap.Sessions (record { table = read.0; csv = read.1 })))
sessions_left bytes read says = ap (λ r. as_job (λ job. Heap (heap.Sessions job)) (read_as (λ read. record { table = read.0; csv = read.1 }) r)) says

pub sessions : SessionsAreReplayed
sessions = told task.Sessions sessions_input (λ read. Heap (heap.Sessions (record { table = read.0; csv = read.1 }))) (λ read due. TellsEachSession read.0 read.1 due ⊎ NamesRecord read.0 read.1 due) sessions_left
    (λ bytes read range says. of_either read.0 read.1 _ (sessions_replayed bytes read.0 read.1 says))
  where
    of_either : (table : PayTable) (csv : List ℕ) (a : Answer) → TellsSessions table csv a ⊎ NamesRecord table csv a → TellsEachSession table csv a ⊎ NamesRecord table csv a
    of_either table csv a (inl tells) = inl (record { sessions = tells; alone = answered_alone table (sessions_of table.deck csv) tells.alone })
    of_either table csv a (inr names) = inr names

pub sessions_in : SessionsAreInTheAnswer
sessions_in = told task.Sessions sessions_input (λ read. Heap (heap.Sessions (record { table = read.0; csv = read.1 }))) HasEachSession sessions_left
    (λ bytes read range says name kept knows. sessions_apart.lines bytes read.0 read.1 name says kept knows)

-- ---- certificates that are checked

-- an answer that is done is that of a check that finds no broken rule
yes_job : (read : Result Checked Stop) → (left_answer (as_job (λ job. Lent (lent.Checked job)) read)).status ≡ Done → (said : Checked) × (read ≡ Ok said)
yes_job (Ok said) done = (said, refl)
yes_job (Err (Refusal line)) done = absurd cc
yes_job (Err (Record place)) done = absurd cc
yes_job (Err (Found at rule said so)) done = absurd cc

yes_said : (words : List Word) (from count : ℕ) (bytes : List ℕ) → Asks words (task.Check from count) → (answer words bytes).status ≡ Done → (said : Checked) × (check_job from count bytes ≡ Ok said)
yes_said words from count bytes asks done =
    yes_job (check_job from count bytes) (ap (λ (a : Answer). a.status) (due words (task.Check from count) bytes (as_job (λ job. Lent (lent.Checked job)) (check_job from count bytes)) asks refl) ∙ done)

pub checks : ChecksTellEveryDeal
checks words count bytes c asks spells many done =
    let is = yes_said words 1 count bytes asks done in
    checks_tell count bytes c is.0 spells many is.1

pub checks_walked : ChecksTellWalkedDeals
checks_walked words from count bytes c asks spells done =
    let is = yes_said words from count bytes asks done in
    checks_tell_walked from count bytes c is.0 spells is.1

yes_jobs : (bytes : List ℕ) (walks : List Walk) → AreYes bytes walks → AreYesJobs bytes walks
yes_jobs bytes walks all = record {
  some = all.some;
  each = λ i d l. let one = all.each i d l in let is = yes_said one.words _ _ bytes one.asks one.yes in record { said = is.0; yes = is.1 };
}

pub parts_walked : PartsTellWalkedDeals
parts_walked bytes c walks from count spells all walked = parts_tell_walked bytes c walks from count spells (yes_jobs bytes walks all) walked

pub parts : PartsTellEveryDeal
parts bytes c walks spells all walked = parts_tell bytes c walks spells (yes_jobs bytes walks all) walked

pub certificates_well : CertificatesAreChecked
certificates_well coin = told (task.Certify coin) (certify_input coin) (λ read. Lent (lent.Certify (record { table = read.0; coin = coin }))) (λ read. IsCheckedWell)
    (λ bytes read says. ap (λ r. as_job (λ job. Lent (lent.Certify job)) (read_as (λ read. record { table = read.0; coin = coin }) r)) says)
    (λ bytes read range says.
    let is = certificates_checked coin bytes read.0 range.0 says in
    record {
      short = is.short;
      well = λ words from count asks.
          let checked = is.well from count in
          ap (λ (a : Answer). a.status) (sym (due words (task.Check from count) _ _ asks (ap (λ r. as_job (λ job. Lent (lent.Checked job)) (check_read r)) checked.1)));
    })
