-- The log is read as it was written.
use Rattle.std.proofs.Common.{◌≡◌, ℕ, ap, subst, sym, ◌∙◌}
use Rattle.std.specs.Prelude.{Ok, Option, Result}
use Rattle.vp_text.specs.Lines.{Feed}
use Rattle.vp_text.specs.Sections.{Starts}
use Rattle.vp_text.specs.declared.refused.Refused.{Refused}
use Rattle.vp_loggram.specs.Logs.{IsLog, LogValue}
use Rattle.vp_loggram.specs.Spelling.{log_text}
use Rattle.vp_replay.specs.declared.rule.Broken.{Broken}
use Rattle.vp_csv.specs.Sessions.{session_at}
use Rattle.vp_sessions.proofs.job.log_at.Goals as goal

same_value : (a b : LogValue × Option Broken) (read : Result (LogValue × Option Broken) Refused) → read ≡ Ok a → read ≡ Ok b → a ≡ b
same_value a b read e f = cc

pub returns-clause-log : goal.returns-clause-log
returns-clause-log c =
    let log = (session_at c.args.sessions.now c.args.place).log in
    let left = c.log.ensures.stands.left in
    let front = subst (λ (f : Feed). Starts log_text f log left) (sym c.new.ensures) c.log.ensures.stands.front in
    let grammar = subst (λ (n : ℕ). IsLog n log) c.requires.deck c.log.ensures.log in
    ap (λ (r : LogValue × Option Broken). r.0) (same_value c.unwrap.result _ c.read_log.result c.unwrap.ensures (c.read_log.ensures.only log left grammar front).0)
