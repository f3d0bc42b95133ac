-- The first broken law, while games are read.
use Rattle.std.proofs.Common.{◌≡◌, ℕ, ◌+◌, ◌*◌, ◌≤◌, List, [], ◌∷◌, refl, ap, sym, ◌∙◌, arith, Some, None}
use Rattle.std.specs.Prelude.{Option, Result, Ok, Err, IfNone, IfOk}
use Rattle.vp_card.specs.Cards.{IsDeck}
use Rattle.vp_text.specs.Lines.{Feed}
use Rattle.vp_text.specs.Reading.{Gives}
use Rattle.vp_text.specs.Sections.{Starts}
use Rattle.vp_text.specs.declared.refused.Refused.{Refused}
use Rattle.vp_pay.specs.declared.table.PayTable.{PayTable}
use Rattle.vp_loggram.specs.Logs.{IsLog, LogValue}
use Rattle.vp_loggram.specs.Sections.{log_at, log_read}
use Rattle.vp_loggram.specs.Spelling.{log_text}
use Rattle.vp_text.proofs.Answered.{only}
use Rattle.vp_loggram.proofs.Logs_grammar.{Exact-log, log_read-is}
use Rattle.vp_loggram.specs.declared.event.Event.{Event}
use Rattle.vp_replay.specs.declared.rule.Breach.{Breach}
use Rattle.vp_replay.specs.declared.rule.Broken.{Broken}
use Rattle.vp_replay.specs.Rules.{break_in, break_of, first_break, or_later}
use Rattle.vp_replay.specs.Seeking.{sooner}

behind : (o : Option Breach) (game : ℕ) (more : Option Broken) → sooner (or_later o game None) more ≡ or_later o game more
behind None game more = refl
behind (Some b) game more = refl

-- one more game
pub one_more : (table : PayTable) (game credits : ℕ) (all rest : List Event) (e : Event) (found next x : Option Broken) → all ≡ e ∷ rest
    → next ≡ sooner found (or_later (break_of table credits e) game None)
    → sooner found (first_break table game credits all) ≡ x → sooner next (first_break table (game + 1) e.credits rest) ≡ x
unfolding first_break
one_more table game credits all rest e (Some b) next x split is so_far = rw is so_far
one_more table game credits all rest e None next x split is so_far = rw is (behind (break_of table credits e) game (first_break table (game + 1) e.credits rest) ∙ rw split at so_far)

-- no more
pub no_more : (table : PayTable) (game credits : ℕ) (all : List Event) (found x : Option Broken) → all ≡ [] → sooner found (first_break table game credits all) ≡ x → found ≡ x
unfolding first_break
no_more table game credits all (Some b) x none so_far = so_far
no_more table game credits all None x none so_far = rw none at so_far

-- the credits stay small while no law is broken
pub credits_next : (found next : Option Broken) (credits more games : ℕ) → IfNone next (found ≡ None) → IfNone next (more ≤ credits + 500000)
    → IfNone found (credits ≤ 1000000000000 + 500000 * games) → IfNone next (more ≤ 1000000000000 + 500000 * (games + 1))
credits_next found (Some b) credits more games none step small = tt
credits_next (Some a) None credits more games none step small = absurd cc
credits_next None None credits more games none step small = omega (arith, step, small)

-- ---- what a reader of logs answers, with a first broken law behind the log

abbrev Read : Type 0
Read = Result (LogValue × Option Broken) Refused

abbrev pub GivesLog : Read → Feed → Result (LogValue × Feed) ℕ → Type 0
GivesLog result left reading = Gives (λ (read : LogValue × Option Broken). read.0) result left reading

pub gives_read : (n : ℕ) (result : Read) (before left : Feed) → GivesLog result left (log_read n before) → GivesLog result left (log_at n before)
gives_read n (Ok read) before left gives = sym (log_read-is n before) ∙ gives
gives_read n (Err e) before left gives = sym (log_read-is n before) ∙ gives

pub found_read : (n : ℕ) → IsDeck n → (result : Read) (before left : Feed) → GivesLog result left (log_at n before) → IfOk result (λ read. IsLog n read.0)
found_read n deck (Ok read) before left gives = ((Exact-log n deck).takes before left read.0 gives).0
found_read n deck (Err e) before left gives = tt

same_read : (table : PayTable) (a log : LogValue) (b : Option Broken) → a ≡ log → b ≡ break_in table a → ◌≡◌ {A = LogValue × Option Broken} (a, b) (log, break_in table log)
same_read table a log b same is = rw (is, same) refl

pub only_read : (table : PayTable) → IsDeck table.deck → (result : Read) (before left : Feed) → GivesLog result left (log_at table.deck before) → IfOk result (λ read. read.1 ≡ break_in table read.0)
    → (log : LogValue) (rest : Feed) → IsLog table.deck log → Starts log_text before log rest → (result ≡ Ok (log, break_in table log)) × (left ≡ rest)
only_read table deck (Ok read) before left gives broken log rest is starts =
    let same_log = only (Exact-log table.deck deck) (Ok read.0) before left gives log rest is starts in
    let one = same_log.0 in
    let same : read.0 ≡ log = cc in
    (ap (λ (r : LogValue × Option Broken). Ok r) (same_read table read.0 log read.1 same broken), same_log.1)
only_read table deck (Err e) before left gives broken log rest is starts =
    absurd (let same_log = only (Exact-log table.deck deck) (Err e) before left gives log rest is starts in let one = same_log.0 in cc)
