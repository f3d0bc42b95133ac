-- Logs are read exactly: each from its spelling, and from no other lines.
use Rattle.std.proofs.Common.{◌≡◌, ℕ, ◌≤◌, List, [], ◌∷◌, ◌++◌, refl, ap, sym, ◌∙◌, arith}
use Rattle.std.specs.Prelude.{Result, Ok, Err, codes}
use Rattle.std.specs.Fmt.{decimal}
use Rattle.std.specs.List.{AllByRecursion}
use Rattle.vp_card.specs.Cards.{IsDeck}
use Rattle.vp_text.specs.Lines.{Feed}
use Rattle.vp_text.specs.ExactReaders.{Exact, Keeps, AreClosed, closed_text}
use Rattle.vp_text.specs.Reading.{◌>>=◌, both, Gives}
use Rattle.vp_text.specs.Sections.{Starts}
use Rattle.vp_text.specs.Streams.{always, any_behind, front_items, skipped}
use Rattle.vp_text.specs.declared.refused.Refused.{Refused}
use Rattle.vp_text.proofs.Answered.{only_read}
use Rattle.vp_text.proofs.Joined.{Exact-both, Exact-mapped}
use Rattle.vp_text.proofs.Numbers.{number_within_exact}
use Rattle.vp_text.proofs.Sequences.{Exact-keyed}
use Rattle.vp_text.proofs.Rows.{Exact-closed}
use Rattle.vp_text.proofs.Sections.{Exact-line}
use Rattle.vp_text.proofs.Spelled.{ok_is}
use Rattle.vp_text.proofs.Streams.{skipped_is}
use Rattle.vp_loggram.specs.Logs.{IsEvent, IsLog, LogValue}
use Rattle.vp_loggram.specs.Reading.{event_of}
use Rattle.vp_loggram.specs.Sections.{start_line, games_at, log_from, log_at, events_in_front, games_skipped, log_opened, log_read}
use Rattle.vp_loggram.specs.Spelling.{event_words, log_text}
use Rattle.vp_loggram.specs.declared.event.Event.{Event}
use Rattle.vp_loggram.proofs.Games_grammar.{Exact-event, not_end, end_no_event}

-- ---- the sections of a log

abbrev IsStart : ℕ → Type 0
IsStart start = (0 ≤ start) × (start ≤ 1000000000000)

Exact-start : Exact (λ (start : ℕ). (codes "log" ∷ decimal start ∷ []) ∷ []) IsStart start_line
Exact-start = Exact-line (λ (start : ℕ). codes "log" ∷ decimal start ∷ []) IsStart _ (Exact-keyed (codes "log") (number_within_exact 0 1000000000000 (omega arith))) 0 (omega arith, omega arith)

abbrev Allows : ℕ → List Event → Event → Type 0
Allows n front e = IsEvent n e

Exact-games : (n : ℕ) → IsDeck n → Exact (closed_text (codes "end") event_words) (AreClosed always (Allows n)) (games_at n)
Exact-games n deck =
    Exact-closed (codes "end") always event_words (Allows n) (any_behind (event_of n)) (λ front. Exact-event n deck) (λ front e is. not_end e)
    (λ front keeps. record { more = []; keeps = tt; closes = refl })

-- ---- a log

keeps : (n : ℕ) (front events : List Event) → AllByRecursion (IsEvent n) events → Keeps (Allows n) front events
keeps n front [] all = tt
keeps n front (e ∷ events) all = (all.0, keeps n (front ++ e ∷ []) events all.1)

kept : (n : ℕ) (front events : List Event) → Keeps (Allows n) front events → AllByRecursion (IsEvent n) events
kept n front [] all = tt
kept n front (e ∷ events) all = (all.0, kept n (front ++ e ∷ []) events all.1)

pub Exact-log : (n : ℕ) → IsDeck n → Exact log_text (IsLog n) (log_at n)
unfolding log_at log_text
Exact-log n deck =
    Exact-mapped _ _ (both start_line (λ start. games_at n)) log_text (IsLog n) log_from (λ log. (log.start, log.events))
    (Exact-both _ _ start_line (λ start. closed_text (codes "end") event_words) (λ start. AreClosed always (Allows n)) (λ start. games_at n) Exact-start (λ start is. Exact-games n deck))
    (record {
      seen = λ a valid. record { start = valid.0.1; events = kept n [] a.1 valid.1.0 };
      meant = λ b valid. ((omega arith, valid.start), (keeps n [] b.events valid.events, refl));
      spelled = λ b valid. refl;
      back_of = λ a valid. refl;
      see_of = λ b valid. refl;
    })

-- ---- games that are not kept

abbrev LogRead : Type 0
LogRead = Result (LogValue × Feed) ℕ

-- a log whose first line is read
abbrev opened_from : ℕ → ℕ × Feed → LogRead
opened_from n a = Ok (record { start = a.0; events = front_items (event_of n) a.1.lines }, a.1)

-- the games behind it are skipped
abbrev skipped_behind : ℕ → LogValue × Feed → LogRead
skipped_behind n p = skipped (codes "end") (event_of n) p.1 >>= λ rest. Ok (p.0, rest.1)

-- the games behind the start are skipped, and read again from there
abbrev skipped_from : ℕ → ℕ × Feed → LogRead
skipped_from n a = skipped_behind n (record { start = a.0; events = front_items (event_of n) a.1.lines }, a.1)

-- the games behind the start are read
abbrev games_from : ℕ → ℕ × Feed → Result ((ℕ × List Event) × Feed) ℕ
games_from n a = games_at n a.1 >>= λ games. Ok ((a.0, games.0), games.1)

abbrev seen_log : (ℕ × List Event) × Feed → LogRead
seen_log p = Ok (log_from p.0, p.1)

-- a log whose games are skipped and read again is the log that is read
pub log_read-is : (n : ℕ) (feed : Feed) → log_read n feed ≡ log_at n feed
unfolding log_at log_opened log_read events_in_front games_skipped
log_read-is n feed = by_start (start_line feed)
  where
    by_games : (a : ℕ × Feed) (r : Result (Unit {0} × Feed) ℕ) → skipped (codes "end") (event_of n) a.1 ≡ r → skipped_from n a ≡ (games_from n a >>= seen_log)
    by_games a (Ok p) is = rw (skipped_is (codes "end") (event_of n) (end_no_event n) a.1, is) refl
    by_games a (Err e) is = rw (skipped_is (codes "end") (event_of n) (end_no_event n) a.1, is) refl

    by_start : (r : Result (ℕ × Feed) ℕ) → ((r >>= opened_from n) >>= skipped_behind n) ≡ ((r >>= games_from n) >>= seen_log)
    by_start (Err e) = refl
    by_start (Ok a) = by_games a (skipped (codes "end") (event_of n) a.1) refl

pub gives_log : (n : ℕ) (result : Result LogValue Refused) (before left : Feed) → Gives (λ (log : LogValue). log) result left (log_read n before) → Gives (λ (log : LogValue). log) result left (log_at n before)
gives_log n (Ok log) before left gives = sym (log_read-is n before) ∙ gives
gives_log n (Err e) before left gives = sym (log_read-is n before) ∙ gives

-- ---- a log that is known to be spelled, of which the first line alone is read

abbrev as_read : LogValue → Feed → LogRead
as_read log rest = Ok (log, rest)

-- its log is the one that is read
opened_first : (n : ℕ) (log : LogValue) (left : Feed) (read : LogRead) → (read >>= skipped_behind n) ≡ Ok (log, left) → (rest : Feed) × (read ≡ Ok (log, rest))
opened_first n log left (Err e) is = absurd cc
opened_first n log left (Ok p) is = (p.1, ap (λ (l : LogValue). as_read l p.1) (by_games (skipped (codes "end") (event_of n) p.1) is))
  where
    by_games : (r : Result (Unit {0} × Feed) ℕ) → (r >>= (λ rest. as_read p.0 rest.1)) ≡ as_read log left → p.0 ≡ log
    by_games (Ok u) e = ap (λ (q : LogValue × Feed). q.0) (ok_is (p.0, u.1) (log, left) e)
    by_games (Err line) e = absurd cc

pub opened_only : (n : ℕ) (result : Result LogValue Refused) (before after : Feed) → Gives (λ (log : LogValue). log) result after (log_opened n before)
    → (log : LogValue) (left : Feed) → IsDeck n → IsLog n log → Starts log_text before log left → result ≡ Ok log
unfolding log_read games_skipped
opened_only n result before after gives log left deck is front =
    let opened = opened_first n log left (log_opened n before) (log_read-is n before ∙ (Exact-log n deck).again before left log is front) in
    (only_read result after (log_opened n before) gives log opened.0 opened.1).0
