-- What `sessions` answers to a pay table and a CSV text.
use Rattle.std.proofs.Common.{◌≡◌, ◌<◌, ◌≤◌, ◌==◌, ℕ, if◌then◌else◌, Bool, true, false, List, [], ◌∷◌, ◌++◌, length, refl, sym, ap, subst, ◌∙◌, arith, inl, inr, append_assoc, Option, Some, None}
use Rattle.std.specs.Prelude.{◌↔◌, ◌⊎◌, ◌||◌, bytes_eq, codes, flat_map, is_some, map}
use Rattle.std.specs.List.{AllByRecursion}
use Rattle.std.proofs.lemmas.Bool.Decides.{nat_tests}
use Rattle.std.proofs.lemmas.Slice.Eq.{bytes_eq-Decides}
use Rattle.vp_text.specs.Lines.{Word}
use Rattle.vp_text.specs.Written.{line_of, written}
use Rattle.vp_pay.specs.Table.{IsTable}
use Rattle.vp_pay.specs.declared.table.PayTable.{PayTable}
use Rattle.vp_loggram.specs.Logs.{IsLog, LogValue}
use Rattle.vp_loggram.specs.Spelling.{log_text}
use Rattle.vp_csv.specs.Records.{Record, records_in}
use Rattle.vp_csv.specs.Rules.{knows, names_of, refused_record}
use Rattle.vp_csv.specs.Sessions.{Session, own, session_of, sessions_in, sessions_of}
use Rattle.vp_csv.proofs.Closing.{few_games, is_log, log_short}
use Rattle.vp_csv.proofs.Isolation.{apart}
use Rattle.vp_replay.specs.Rules.{break_in}
use Rattle.vp_replay.specs.declared.rule.Broken.{Broken}
use Rattle.vp_replay.specs.Replay.{judged_by, log_file, log_read, replay_answer, replay_job}
use Rattle.vp_replay.proofs.LogFiles.{file_says, file_short}
use Rattle.vp_answer.specs.Answers.{Answer, answer_of, status_of}
use Rattle.vp_answer.specs.declared.ending.Ending.TheVariants as ending
use Rattle.vp_answer.specs.declared.status.Status.{Status}
use Rattle.vp_answer.specs.declared.status.Status.TheVariants.{Done, Finding}
use Rattle.vp_sessions.specs.Sessions.{Mixed, by_record, ending_by, log_answer, session_text, sessions_said, sessions_text, unlawful}
use Rattle.vp_sessions.specs.SessionsTell.{HasLines, IsReplayedAlone, NamesRecord, SessionsAreApart, SessionsAreReplayed, TellsSessions, games_in, lines_of, sessions_answer}
use Rattle.vp_sessions.proofs.SessionInputs.{inputs_read}
use Rattle.vp_sessions.proofs.SessionLines.{last_line, session_lines}

-- ---- what `replay` answers to a session

-- `replay` answers it so
replayed : (table : PayTable) (log : LogValue) → IsTable table → IsLog table.deck log → replay_answer (replay_job (log_file table log)) ≡ log_answer table log
replayed table log rules is = ap (λ r. replay_answer (log_read r)) (file_says table log rules is)

finding_is : (table : PayTable) (log : LogValue) (o : Option Broken) → is_some o ≡ true ↔ ((replay_answer (judged_by table log o)).status ≡ Finding)
finding_is table log None = (λ e. absurd cc, λ e. absurd cc)
finding_is table log (Some b) = (λ e. refl, λ e. refl)

alone : (table : PayTable) (s : Session) → IsTable table → IsLog table.deck s.log → length (written (log_text s.log)) ≤ 60000000 → IsReplayedAlone table s
alone table s rules is short = record {
  log = is;
  short = file_short table s.log rules short;
  lines = session_lines table s ∙ ap (λ (a : Answer). line_of (codes "session" ∷ s.name ∷ []) ++ a.text) (sym (replayed table s.log rules is));
  judged = subst (λ (a : Answer). is_some (break_in table s.log) ≡ true ↔ (a.status ≡ Finding)) (sym (replayed table s.log rules is)) (finding_is table s.log (break_in table s.log));
}

all_alone : (table : PayTable) (rs : List Record) (names : List Word) → IsTable table → length rs ≤ 400000 → AllByRecursion (IsReplayedAlone table) (map (session_of table.deck rs) names)
unfolding session_of
all_alone table rs [] rules few = tt
all_alone table rs (name ∷ names) rules few =
    (alone table (session_of table.deck rs name) rules (is_log table.deck (own name rs)) (log_short table.deck rs name few), all_alone table rs names rules few)

each_alone : (table : PayTable) (csv : List ℕ) → IsTable table → refused_record table.deck csv ≡ None → AllByRecursion (IsReplayedAlone table) (sessions_of table.deck csv)
unfolding refused_record sessions_of sessions_in
each_alone table csv rules kept = all_alone table (games_in csv) (names_of (games_in csv)) rules (few_games table.deck (records_in csv) kept)

-- ---- the answer

abbrev as_status : Bool → Status
as_status b = status_of (if b then ending.Done else ending.Finding)

finding_not : (b : Bool) → as_status b ≡ Finding → b ≡ false
finding_not true e = absurd cc
finding_not false e = refl

done_so : (b : Bool) → as_status b ≡ Done → b ≡ true
done_so true e = refl
done_so false e = absurd cc

not_zero : (count : ℕ) → 0 < count → (count == 0) ≡ false
not_zero count low = grind (arith, nat_tests)

some_of : (count : ℕ) → (count == 0) ≡ false → 0 < count
some_of count e = grind (arith, nat_tests)

zero_is : (count : ℕ) → count ≡ 0 → (count == 0) ≡ true
zero_is count e = grind (arith, nat_tests)

none_of : (count : ℕ) → (count == 0) ≡ true → count ≡ 0
none_of count e = grind (arith, nat_tests)

finding_counts : (count : ℕ) → status_of (ending_by count) ≡ Finding ↔ 0 < count
finding_counts count = (λ e. some_of count (finding_not (count == 0) e), λ low. ap as_status (not_zero count low))

done_counts : (count : ℕ) → status_of (ending_by count) ≡ Done ↔ (count ≡ 0)
done_counts count = (λ e. none_of count (done_so (count == 0) e), λ e. ap as_status (zero_is count e))

by_first : (table : PayTable) (csv : List ℕ) (due : Answer) (o : Option ℕ) → IsTable table → refused_record table.deck csv ≡ o → answer_of (by_record (record { table = table; csv = csv }) o) ≡ due
    → TellsSessions table csv due ⊎ NamesRecord table csv due
by_first table csv due (Some place) rules first is = inr (record { place = place; first = first; named = sym is })
by_first table csv due None rules kept is =
    let count = unlawful table (sessions_of table.deck csv) in
    inl (record {
      kept = kept;
      text = ap (λ (a : Answer). a.text) (sym is);
      finding = subst (λ (a : Answer). a.status ≡ Finding ↔ 0 < count) is (finding_counts count);
      lawful = subst (λ (a : Answer). a.status ≡ Done ↔ (count ≡ 0)) is (done_counts count);
      alone = each_alone table csv rules kept;
    })

answer_is : (m : Mixed) → answer_of (by_record m (refused_record m.table.deck m.csv)) ≡ answer_of (sessions_said m)
unfolding sessions_said
answer_is m = refl

pub sessions_replayed : SessionsAreReplayed
sessions_replayed bytes table csv says =
    let rules = (inputs_read.spelled bytes (table, csv)).0 says in
    by_first table csv (sessions_answer table csv) (refused_record table.deck csv) rules.table refl (answer_is (record { table = table; csv = csv }))

-- ---- no session changes another

has_more : (front text lines : List ℕ) → HasLines text lines → HasLines (front ++ text) lines
has_more front text lines h = record {
  front = front ++ h.front;
  behind = h.behind;
  is = ap (λ (t : List ℕ). front ++ t) h.is ∙ sym (append_assoc front h.front (lines ++ h.behind));
}

has_in_front : (text more lines : List ℕ) → HasLines text lines → HasLines (text ++ more) lines
has_in_front text more lines h = record {
  front = h.front;
  behind = h.behind ++ more;
  is = ap (λ (t : List ℕ). t ++ more) h.is ∙ append_assoc h.front (lines ++ h.behind) more ∙ ap (λ (t : List ℕ). h.front ++ t) (append_assoc lines h.behind more);
}

stands_among : (text : Word → List ℕ) (name : Word) (names : List Word) → knows name names ≡ true → HasLines (flat_map text names) (text name)
stands_among text name [] among = absurd cc
stands_among text name (x ∷ xs) among = by_test (bytes_eq x name) refl (λ later. stands_among text name xs later)
  where
    by_test : (b : Bool) → bytes_eq x name ≡ b → (knows name xs ≡ true → HasLines (flat_map text xs) (text name)) → HasLines (text x ++ flat_map text xs) (text name)
    by_test true is later = record { front = []; behind = flat_map text xs; is = ap (λ (w : Word). text w ++ flat_map text xs) ((bytes_eq-Decides x name).0 is) }
    by_test false other later = has_more (text x) (flat_map text xs) (text name) (later (ap (λ (b : Bool). b || knows name xs) (sym other) ∙ among))

mapped_text : (table : PayTable) (rs : List Record) (names : List Word)
    → flat_map (session_text table) (map (session_of table.deck rs) names) ≡ flat_map (λ name. session_text table (session_of table.deck rs name)) names
mapped_text table rs [] = refl
mapped_text table rs (name ∷ names) = ap (λ (t : List ℕ). session_text table (session_of table.deck rs name) ++ t) (mapped_text table rs names)

sessions_hold : (table : PayTable) (csv : List ℕ) (name : Word) → knows name (names_of (games_in csv)) ≡ true → HasLines (sessions_text table (sessions_of table.deck csv)) (lines_of table csv name)
unfolding sessions_text sessions_of sessions_in
sessions_hold table csv name among =
    let rs = games_in csv in
    has_in_front (flat_map (session_text table) (map (session_of table.deck rs) (names_of rs))) (last_line table (map (session_of table.deck rs) (names_of rs))) (lines_of table csv name)
    (subst (λ (t : List ℕ). HasLines t (lines_of table csv name)) (sym (mapped_text table rs (names_of rs)))
    (stands_among (λ n. session_text table (session_of table.deck rs n)) name (names_of rs) among))

pub sessions_apart : SessionsAreApart
sessions_apart = record {
  lines = λ bytes table csv name says kept among.
      subst (λ (a : Answer). HasLines a.text (lines_of table csv name))
      (ap (λ (o : Option ℕ). answer_of (by_record (record { table = table; csv = csv }) o)) (sym kept) ∙ answer_is (record { table = table; csv = csv }))
      (sessions_hold table csv name among);
  same = λ table csv other name records. ap (session_text table) (apart table.deck (games_in csv) (games_in other) name records);
}
