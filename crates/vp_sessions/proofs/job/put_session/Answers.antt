-- The lines of the log are put behind that of the name.
use Rattle.vp_io.proofs.Puts_laws.{Puts_as, Puts_stopped, Puts_then}
use Rattle.vp_csv.specs.Sessions.{Session}
use Rattle.vp_sessions.proofs.SessionLines.{named_lines}
use Rattle.vp_sessions.proofs.job.put_session.Goals as goal

pub returns-in_err-put_words : goal.returns-in_err-put_words
returns-in_err-put_words g c =
    let s : Session = record { name = c.args.name.now; log = c.args.log.now } in
    Puts_as (named_lines c.args.games.now s c.text.result.now c.text.ensures.value) (Puts_stopped _ c.in_err-put_words.was c.from_residual.ensures.0 c.put_words.ensures)

pub returns : goal.returns
returns g c =
    let s : Session = record { name = c.args.name.now; log = c.args.log.now } in
    Puts_as (named_lines c.args.games.now s c.text.result.now c.text.ensures.value) (Puts_then _ c.in_ok-put_words.was c.put_words.ensures c.put_log.ensures)
