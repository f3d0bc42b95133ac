-- The lines of the sessions that are left to put, and how many of them are unlawful.
use Rattle.std.proofs.Common.{◌≡◌, ◌+◌, ◌<◌, ◌≤◌, ℕ, zero, suc, Bool, true, false, List, [], ◌∷◌, ◌++◌, length, drop, drop-cons, get_or, refl, ap, sym, ◌∙◌, arith, append-nil, append_assoc, if◌then◌else◌, Option}
use Rattle.std.specs.Prelude.{codes, flat_map, is_some}
use Rattle.std.specs.Fmt.{decimal}
use Rattle.vp_text.specs.Lines.{Word}
use Rattle.vp_text.specs.Written.{line_of}
use Rattle.vp_pay.specs.declared.table.PayTable.{PayTable}
use Rattle.vp_loggram.specs.Logs.{LogValue}
use Rattle.vp_csv.specs.Sessions.{Session, Sorted, session_at}
use Rattle.vp_replay.specs.Rules.{break_in}
use Rattle.vp_replay.specs.declared.rule.Broken.{Broken}
use Rattle.vp_sessions.specs.Sessions.{is_unlawful, log_answer, session_text, sessions_text, unlawful}

-- the two parts of the lines of a session
pub session_lines : (table : PayTable) (s : Session) → session_text table s ≡ line_of (codes "session" ∷ s.name ∷ []) ++ (log_answer table s.log).text
unfolding session_text
session_lines table s = refl

-- the same, of this name
pub named_lines : (table : PayTable) (s : Session) (name : Word) → name ≡ s.name → line_of (codes "session" ∷ name ∷ []) ++ (log_answer table s.log).text ≡ session_text table s
named_lines table s name is = ap (λ (w : Word). line_of (codes "session" ∷ w ∷ []) ++ (log_answer table s.log).text) is ∙ sym (session_lines table s)

-- the last line of the answer
abbrev pub last_line : PayTable → List Session → List ℕ
last_line table sessions = line_of (codes "sessions" ∷ decimal (length sessions) ∷ decimal (unlawful table sessions) ∷ [])

-- the lines from the session at a place on
pub lines_left : PayTable → List Session → ℕ → List ℕ
lines_left table sessions place = flat_map (session_text table) (drop place sessions) ++ last_line table sessions

pub all_left : (table : PayTable) (sessions : List Session) → sessions_text table sessions ≡ lines_left table sessions 0
unfolding sessions_text lines_left
all_left table sessions = refl

-- the session at a place, and those behind it
next_of : (sessions : List Session) (place : ℕ) (other : Session) → place < length sessions → drop place sessions ≡ get_or sessions place other ∷ drop (place + 1) sessions
next_of sessions place other low =
    let next : suc place ≡ place + 1 = omega arith in
    drop-cons sessions place other low ∙ ap (λ n. get_or sessions place other ∷ drop n sessions) next

none_of : (sessions : List Session) (place : ℕ) → length sessions ≤ place → drop place sessions ≡ []
none_of [] zero high = refl
none_of [] (suc k) high = refl
none_of (s ∷ ss) zero high = absurd (omega arith)
none_of (s ∷ ss) (suc k) high = none_of ss k (omega arith)

pub next_left : (table : PayTable) (sessions : List Session) (place : ℕ) (other : Session) → place < length sessions
    → lines_left table sessions place ≡ session_text table (get_or sessions place other) ++ lines_left table sessions (place + 1)
unfolding lines_left
next_left table sessions place other low =
    let s = get_or sessions place other in
    ap (λ (ss : List Session). flat_map (session_text table) ss ++ last_line table sessions) (next_of sessions place other low)
    ∙ append_assoc (session_text table s) (flat_map (session_text table) (drop (place + 1) sessions)) (last_line table sessions)

pub none_left : (table : PayTable) (sessions : List Session) (place : ℕ) → length sessions ≤ place → lines_left table sessions place ≡ last_line table sessions
unfolding lines_left
none_left table sessions place high = ap (λ (ss : List Session). flat_map (session_text table) ss ++ last_line table sessions) (none_of sessions place high)

-- ---- how many are unlawful

count_cons : (table : PayTable) (s : Session) (ss : List Session) (b : Bool) → is_unlawful table s ≡ b → unlawful table (s ∷ ss) ≡ (if b then 1 else 0) + unlawful table ss
unfolding unlawful
count_cons table s ss true is = rw is (omega arith)
count_cons table s ss false is = rw is (omega arith)

no_one : (table : PayTable) → unlawful table [] ≡ 0
unfolding unlawful
no_one table = refl

-- so many of those before a place are unlawful
pub record Counted (table : PayTable) (sessions : List Session) (place count : ℕ) : Type 0 where
  pub all : count + unlawful table (drop place sessions) ≡ unlawful table sessions
  pub few : count ≤ place

pub counted_none : (table : PayTable) (sessions : List Session) → Counted table sessions 0 0
counted_none table sessions = record { all = omega arith; few = omega arith }

at_most : (count place : ℕ) (b : Bool) → count ≤ place → count + (if b then 1 else 0) ≤ place + 1
at_most count place true few = omega (arith, few)
at_most count place false few = omega (arith, few)

pub counted_next : (table : PayTable) (sorted : Sorted) (place count after : ℕ) (log : LogValue) (broken : Option Broken) → place < length sorted.sessions → log ≡ (session_at sorted place).log
    → broken ≡ break_in table log → after ≡ count + (if is_some broken then 1 else 0) → Counted table sorted.sessions place count → Counted table sorted.sessions (place + 1) after
counted_next table sorted place count after log broken low same is more so =
    let s = session_at sorted place in
    let behind = drop (place + 1) sorted.sessions in
    let next : unlawful table (drop place sorted.sessions) ≡ unlawful table (s ∷ behind) = ap (unlawful table) (next_of sorted.sessions place _ low) in
    let judged : is_unlawful table s ≡ is_some broken = sym (ap (λ (o : Option Broken). is_some o) is ∙ ap (λ (l : LogValue). is_some (break_in table l)) same) in
    let one : unlawful table (s ∷ behind) ≡ (if is_some broken then 1 else 0) + unlawful table behind = count_cons table s behind (is_some broken) judged in
    let few = at_most count place (is_some broken) so.few in
    record { all = omega (arith, so.all, next, one, more); few = omega (arith, few, more) }

pub counted_all : (table : PayTable) (sessions : List Session) (place count : ℕ) → length sessions ≤ place → Counted table sessions place count → count ≡ unlawful table sessions
counted_all table sessions place count high so =
    let none : unlawful table (drop place sessions) ≡ 0 = ap (unlawful table) (none_of sessions place high) ∙ no_one table in
    omega (arith, so.all, none)

-- ---- what a step of the loop puts

pub session_next : (table : PayTable) (sorted : Sorted) (place : ℕ) (name : Word) (log : LogValue) → place < length sorted.sessions → name ≡ (session_at sorted place).name → log ≡ (session_at sorted place).log
    → lines_left table sorted.sessions place ≡ session_text table (record { name = name; log = log }) ++ lines_left table sorted.sessions (place + 1)
session_next table sorted place name log low is_name is_log =
    let s = session_at sorted place in
    let same : session_text table s ≡ session_text table (record { name = name; log = log }) =
    ap (λ (n : Word). session_text table (record { name = n; log = s.log })) (sym is_name) ∙ ap (λ (l : LogValue). session_text table (record { name = name; log = l })) (sym is_log) in
    next_left table sorted.sessions place _ low ∙ ap (λ (text : List ℕ). text ++ lines_left table sorted.sessions (place + 1)) same

pub last_left : (table : PayTable) (sessions : List Session) (place count found : ℕ) → length sessions ≤ place → count ≡ length sessions → Counted table sessions place found
    → lines_left table sessions place ≡ line_of (codes "sessions" ∷ decimal count ∷ decimal found ∷ []) ++ []
last_left table sessions place count found high all so =
    none_left table sessions place high
    ∙ ap (λ n. line_of (codes "sessions" ∷ decimal n ∷ decimal (unlawful table sessions) ∷ [])) (sym all)
    ∙ ap (λ n. line_of (codes "sessions" ∷ decimal count ∷ decimal n ∷ [])) (sym (counted_all table sessions place found high so))
    ∙ sym (append-nil (line_of (codes "sessions" ∷ decimal count ∷ decimal found ∷ [])))
