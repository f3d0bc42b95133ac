-- The lines of the numbers are put behind the first line.
use Rattle.std.proofs.Common.{sym}
use Rattle.vp_io.proofs.Puts_laws.{Puts_as, Puts_stopped, Puts_then}
use Rattle.vp_gen.proofs.MadeLogs.{played_text}
use Rattle.vp_gen.proofs.job.put_played.Goals as goal

pub returns-in_err-put_words : goal.returns-in_err-put_words
returns-in_err-put_words g c = Puts_as (sym (played_text _ _ _ _)) (Puts_stopped _ c.in_err-put_words.was c.from_residual.ensures.0 c.put_words.ensures)

pub returns : goal.returns
returns g c = Puts_as (sym (played_text _ _ _ _)) (Puts_then _ c.in_ok-put_words.was c.put_words.ensures c.put_summary.ensures)
