-- The texts of sessions, when their logs are ended, are the spellings of their logs.
use Rattle.std.proofs.Common.{◌≡◌, ◌<◌, ◌≤◌, ℕ, zero, suc, get_or, Bool, true, false, List, [], ◌∷◌, ◌++◌, map, length, refl, sym, ap, subst, ◌∙◌, arith, Some, None, append_assoc}
use Rattle.std.specs.Prelude.{Option, Ok, codes, option_to_list, if◌then◌else◌}
use Rattle.std.specs.List.{AllByRecursion}
use Rattle.std.proofs.lemmas.Grind.{flat_map-append}
use Rattle.std.proofs.lemmas.List.{append-nil}
use Rattle.vp_card.specs.Cards.{IsDeck}
use Rattle.vp_text.specs.Lines.{Word, feed_of}
use Rattle.vp_text.specs.Sections.{Starts}
use Rattle.vp_text.specs.Written.{line_of, written}
use Rattle.vp_pay.specs.Written.{IsReadAgain, StandsIn}
use Rattle.vp_loggram.specs.Logs.{IsEvent, IsLog, LogValue}
use Rattle.vp_loggram.specs.Sections.{log_at}
use Rattle.vp_loggram.specs.Spelling.{event_words, key_number, log_text}
use Rattle.vp_loggram.specs.declared.event.Event.{Event}
use Rattle.vp_loggram.proofs.Logs_grammar.{Exact-log}
use Rattle.vp_loggram.proofs.Log_laws.{written_again}
use Rattle.vp_csv.specs.Records.{Record}
use Rattle.vp_csv.specs.Rules.{break_behind, first_break, game_of, is_header, names_of, start_of}
use Rattle.vp_csv.specs.Sessions.{Session, behind_first, games_of, log_of, or_zero, own, session_of, sessions_in}
use Rattle.vp_csv.specs.Kept.{AreKept, IsKept, Kept, closed, kept_in, kept_of, log_in, open_text, said_by, sorted_of, start_line}
use Rattle.vp_csv.proofs.Counts.{few_events, few_records}
use Rattle.vp_csv.proofs.RecordLaws as laws
use Rattle.vp_csv.proofs.Sizes.{log_most}

-- ---- the logs of sessions are in the grammar

start_least : (o : Option ℕ) → ((start : ℕ) → o ≡ Some start → start ≤ 1000000000000) → or_zero o ≤ 1000000000000
start_least None most = omega arith
start_least (Some start) most = most start refl

one_event : (n : ℕ) (o : Option Event) (more : List Event) → ((e : Event) → o ≡ Some e → IsEvent n e) → AllByRecursion (IsEvent n) more → AllByRecursion (IsEvent n) (option_to_list o ++ more)
one_event n None more is all = all
one_event n (Some e) more is all = (is e refl, all)

are_events : (n : ℕ) (rs : List Record) → AllByRecursion (IsEvent n) (games_of n rs)
are_events n [] = tt
are_events n (r ∷ rs) = one_event n (game_of n r) (games_of n rs) (laws.game_valid n r) (are_events n rs)

pub is_log : (n : ℕ) (rs : List Record) → IsLog n (log_of n rs)
is_log n [] = record { start = omega arith; events = tt }
is_log n (opening ∷ games) = record { start = start_least (start_of opening) (laws.start_most opening); events = are_events n games }

-- ---- an ended log is the spelling of its log, and is read as it

ended : (log : LogValue) → open_text log ++ line_of (codes "end" ∷ []) ≡ written (log_text log)
unfolding start_line log_text
ended log =
    let start = line_of (key_number (codes "log") log.start) in
    let games = map event_words log.events in
    let last = line_of (codes "end" ∷ []) in
    append_assoc start (written games) last
    ∙ ap (λ (l : List ℕ). start ++ l) (sym (flat_map-append line_of games ((codes "end" ∷ []) ∷ []) ∙ ap (λ (l : List ℕ). written games ++ l) (append-nil last)))

pub stands : (n : ℕ) (log : LogValue) → IsDeck n → IsLog n log → StandsIn log_text log (written (log_text log))
stands n log deck is =
    let again : IsReadAgain log_text log [] = written_again n log [] deck is in
    record { left = again.left; front = subst (λ (bytes : List ℕ). Starts log_text (feed_of bytes) log again.left) (append-nil (written (log_text log))) again.front }

log_read : (n : ℕ) (log : LogValue) → IsDeck n → IsLog n log → log_in n (written (log_text log)) ≡ log
unfolding log_in
log_read n log deck is =
    let s = stands n log deck is in
    let read : log_at n (feed_of (written (log_text log))) ≡ Ok (log, s.left) = (Exact-log n deck).again (feed_of (written (log_text log))) s.left log is s.front in
    rw read refl

-- ---- the sessions

closed_is : (n : ℕ) (rs : List Record) (name : Word) → closed (kept_of n rs name) ≡ record { name = name; text = written (log_text (log_of n (own name rs))) }
unfolding kept_of
closed_is n rs name = ap (λ (text : List ℕ). record { name = name; text = text }) (ended (log_of n (own name rs)))

abbrev session : Word → LogValue → Session
session name log = record { name = name; log = log }

says : (n : ℕ) (rs : List Record) (name : Word) → IsDeck n → said_by n (closed (kept_of n rs name)) ≡ session_of n rs name
unfolding session_of
says n rs name deck =
    let log = log_of n (own name rs) in
    ap (said_by n) (closed_is n rs name) ∙ ap (λ (said : LogValue). session name said) (log_read n log deck (is_log n (own name rs)))

says_all : (n : ℕ) (rs : List Record) (names : List Word) → IsDeck n → map (said_by n) (map closed (map (kept_of n rs) names)) ≡ map (session_of n rs) names
says_all n rs [] deck = refl
says_all n rs (name ∷ names) deck = rw (says n rs name deck, says_all n rs names deck) refl

-- how long the text of a session's log is
pub log_short : (n : ℕ) (rs : List Record) (name : Word) → length rs ≤ 400000 → length (written (log_text (log_of n (own name rs)))) ≤ 60000000
unfolding start_line
log_short n rs name few =
    let log = log_of n (own name rs) in
    rw (← ended log) (log_most n log (is_log n (own name rs)) (few_events n name rs few))

is_kept : (n : ℕ) (rs : List Record) (name : Word) → IsDeck n → length rs ≤ 400000 → IsKept n (closed (kept_of n rs name))
is_kept n rs name deck few =
    let log = log_of n (own name rs) in
    let is = is_log n (own name rs) in
    let read = log_read n log deck is in
    let short : length (written (log_text log)) < 67108864 = omega (arith, log_short n rs name few) in
    let k : Kept = record { name = name; text = written (log_text log) } in
    let kept : IsKept n k = record { log = rw read is; spelled = ap (λ (l : LogValue). written (log_text l)) (sym read); short = short } in
    subst (IsKept n) (sym (closed_is n rs name)) kept

are_all : (n : ℕ) (rs : List Record) (names : List Word) → IsDeck n → length rs ≤ 400000 → AllByRecursion (IsKept n) (map closed (map (kept_of n rs) names))
are_all n rs [] deck few = tt
are_all n rs (name ∷ names) deck few = (is_kept n rs name deck few, are_all n rs names deck few)

as_many : (n : ℕ) (rs : List Record) (names : List Word) → length (map closed (map (kept_of n rs) names)) ≡ length names
as_many n rs [] = refl
as_many n rs (name ∷ names) = omega (arith, as_many n rs names)

-- ---- a text

behind : (n : ℕ) (rs : List Record) → first_break n rs ≡ None → break_behind n [] (behind_first rs) ≡ None
unfolding first_break
behind n [] none = absurd cc
behind n (r ∷ rs) none = by_test (is_header r) none
  where
    by_test : (b : Bool) → (if b then break_behind n [] rs else Some 1) ≡ None → break_behind n [] rs ≡ None
    by_test true e = e
    by_test false e = absurd cc

-- records that keep their rules are at most 400000
pub few_games : (n : ℕ) (all : List Record) → first_break n all ≡ None → length (behind_first all) ≤ 400000
few_games n all none = (few_records n (behind_first all) (behind n all none)).records

pub are_kept : (n : ℕ) (all : List Record) (ks : List Kept) → IsDeck n → first_break n all ≡ None → ks ≡ map closed (kept_in n (behind_first all)) → AreKept n ks
unfolding kept_in
are_kept n all ks deck none is =
    let rs = behind_first all in
    let few = few_records n rs (behind n all none) in
    rw is (record { deck = deck; few = rw (as_many n rs (names_of rs)) few.names; all = are_all n rs (names_of rs) deck few.records })

pub sorted_is : (n : ℕ) (all : List Record) (ks : List Kept) → IsDeck n → ks ≡ map closed (kept_in n (behind_first all)) → sorted_of n ks ≡ record { deck = n; sessions = sessions_in n (behind_first all) }
unfolding kept_in sessions_in
sorted_is n all ks deck is = rw is (ap (λ (ss : List Session). record { deck = n; sessions = ss }) (says_all n (behind_first all) (names_of (behind_first all)) deck))

-- ---- the text of one session

abbrev no_session : Session
no_session = record { name = []; log = record { start = 0; events = [] } }

abbrev StandsAt : ℕ → List Kept → ℕ → Kept → Type 0
StandsAt n ks place k = StandsIn log_text (get_or (map (said_by n) ks) place no_session).log k.text

pub stands_at : (n : ℕ) (ks : List Kept) (place : ℕ) (k : Kept) → IsDeck n → AllByRecursion (IsKept n) ks → place < length ks → k ≡ get_or ks place k → StandsAt n ks place k
stands_at n [] place k deck all inside is = absurd (omega arith)
stands_at n (first ∷ ks) zero k deck all inside is =
    let own : StandsIn log_text (log_in n first.text) (written (log_text (log_in n first.text))) = stands n (log_in n first.text) deck all.0.log in
    let here : StandsIn log_text (log_in n first.text) first.text = subst (StandsIn log_text (log_in n first.text)) (sym all.0.spelled) own in
    subst (λ (k : Kept). StandsIn log_text (log_in n first.text) k.text) (sym is) here
stands_at n (first ∷ ks) (suc place) k deck all inside is = stands_at n ks place k deck all.1 (omega arith) is

pub as_many_sessions : (n : ℕ) (ks : List Kept) → length (map (said_by n) ks) ≡ length ks
as_many_sessions n [] = refl
as_many_sessions n (k ∷ ks) = omega (arith, as_many_sessions n ks)
