-- The log that is made is read as it is, and its lines are put behind the first one.
use Rattle.std.proofs.Common.{◌≡◌, ℕ, [], ◌∷◌, ◌++◌, sym, subst}
use Rattle.std.specs.Prelude.{codes, Result, Ok}
use Rattle.std.specs.Fmt.{decimal}
use Rattle.std.proofs.lemmas.List.Concat.{flat_map-cons}
use Rattle.vp_card.specs.Cards.{IsDeck}
use Rattle.vp_text.specs.Lines.{Feed, feed_of}
use Rattle.vp_text.specs.Sections.{Starts}
use Rattle.vp_text.specs.Written.{line_of, written}
use Rattle.vp_text.specs.declared.refused.Refused.{Refused}
use Rattle.vp_loggram.specs.Logs.{IsLog, LogValue}
use Rattle.vp_loggram.specs.Spelling.{log_text}
use Rattle.vp_loggram.proofs.Logs_grammar.{Exact-log}
use Rattle.vp_replay.specs.Summaries.{summary_lines}
use Rattle.vp_replay.specs.declared.summary.Summary.{Summary}
use Rattle.vp_gen.specs.Promises.{IsAccepted}
use Rattle.vp_gen.proofs.Accepted.{accepted}
use Rattle.vp_gen.specs.Play.{IsPlayed, Played, log_of, played_lines}

-- ---- the log

pub log_accepted : (p : Played) → IsPlayed p → IsAccepted p.table p.coin p.games (log_of p)
log_accepted p is = accepted p.table p.coin p.seed p.games is.bet is.most

-- the log stands in front of the lines of its text, and no line is left
record StandsAlone (log : LogValue) (feed : Feed) : Type 0 where
  pub left : Feed
  pub front : Starts log_text feed log left
  pub end : left.lines ≡ []

log_stands : (p : Played) (feed : Feed) → IsPlayed p → feed ≡ feed_of (written (log_text (log_of p))) → StandsAlone (log_of p) feed
log_stands p feed is same =
    let read = (log_accepted p is).read in
    let front = ((Exact-log p.table.deck is.bet.rules.known_deck).takes (feed_of (written (log_text (log_of p)))) read.left (log_of p) read.read).1 in
    subst (λ (f : Feed). StandsAlone (log_of p) f) (sym same) (record { left = read.left; front = front; end = read.end })

-- a reader that takes each log of the deck that stands in front takes this one
pub takes_log : (p : Played) (n : ℕ) (before : Feed) (result : Result LogValue Refused) → IsPlayed p → before ≡ feed_of (written (log_text (log_of p))) → p.table.deck ≡ n
    → ((log : LogValue) (left : Feed) → IsDeck n → IsLog n log → Starts log_text before log left → result ≡ Ok log) → result ≡ Ok (log_of p)
takes_log p n before result is same deck takes =
    let stands = log_stands p before is same in
    takes (log_of p) stands.left (subst IsDeck deck is.bet.rules.known_deck) (subst (λ m. IsLog m (log_of p)) deck (log_accepted p is).grammar) stands.front

-- ---- the lines

-- the first line, and those of the numbers
pub played_text : (n seed games : ℕ) (s : Summary) → written (played_lines n seed games s) ≡ line_of (codes "play" ∷ decimal seed ∷ decimal games ∷ []) ++ written (summary_lines n s)
played_text n seed games s = flat_map-cons line_of (codes "play" ∷ decimal seed ∷ decimal games ∷ []) (summary_lines n s)
