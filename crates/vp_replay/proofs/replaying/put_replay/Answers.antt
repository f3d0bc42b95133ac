-- The lines of the numbers are put behind those of the costs.
use Rattle.std.proofs.Common.{refl, sym}
use Rattle.vp_io.proofs.Puts_laws.{Puts_as, Puts_stopped, Puts_then}
use Rattle.vp_replay.proofs.Telling.{replay_text, same_numbers}
use Rattle.vp_replay.proofs.replaying.put_replay.Goals as goal

pub returns-in_err-summary : goal.returns-in_err-summary
returns-in_err-summary g c = Puts_as (sym (replay_text _ _)) (Puts_stopped _ c.in_err-summary.was c.from_residual.ensures.0 c.replay.ensures.puts)

pub returns : goal.returns
returns g c =
    Puts_as (sym (replay_text _ _))
    (Puts_then _ c.in_ok-summary.was c.replay.ensures.puts
    (Puts_as (same_numbers c.args.games.now c.table.result.now c.args.log.now c.in_ok-summary.summary c.table.result.now.deck refl c.table.ensures.table c.in_ok-summary.ensures.summary) c.put_summary.ensures))
